pub mod Texts
pub mod Dividing
pub mod Numerals
pub mod Faulting
pub mod Exclusion
pub mod Blaming
pub mod DecimalNumbers
