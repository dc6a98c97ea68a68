pub mod Cells
pub mod Room
