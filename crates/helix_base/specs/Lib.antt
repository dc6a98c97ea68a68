pub mod Alphabet
pub mod Count
pub mod Digits
pub mod Inner
pub mod Ranges
pub mod Steps
pub mod Syntax
pub mod Weights
