pub mod Or
pub mod Telling
