pub mod Words
pub mod Rows
pub mod Reading
pub mod Writing
pub mod Pattern
pub mod Name
pub mod Outcome
