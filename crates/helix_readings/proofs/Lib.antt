pub mod Searching
pub mod Atoms
pub mod Giving
pub mod Conditions
pub mod Lists
