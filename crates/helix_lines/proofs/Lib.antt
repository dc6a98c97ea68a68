pub mod OptionWords
pub mod TwoLines
