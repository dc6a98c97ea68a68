pub mod Texts
pub mod Spelling
pub mod Inner
