pub mod Line
pub mod Listed
pub mod Ready
pub mod MachineLaws
pub mod Spelling
pub mod Texts
pub mod Values
pub mod Walk
