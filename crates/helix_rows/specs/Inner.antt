pub mod Numbers
pub mod Levels
pub mod Among
pub mod Answers
pub mod Cells
pub mod Places
pub mod Following
pub mod Listing
