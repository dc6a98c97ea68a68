pub mod Added
pub mod TreeSteps
pub mod Told
