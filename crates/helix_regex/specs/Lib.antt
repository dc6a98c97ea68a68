pub mod Characters
pub mod Pattern
pub mod Meaning
pub mod Faults
pub mod Parsing
pub mod Inner
