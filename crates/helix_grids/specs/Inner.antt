pub mod Window
pub mod Sieve
pub mod Members
pub mod Kept
pub mod Parts
