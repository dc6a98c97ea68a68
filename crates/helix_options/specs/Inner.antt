pub mod Clashes
pub mod Keeping
pub mod Literals
pub mod Narrowing
pub mod Search
