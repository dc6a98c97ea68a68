pub mod Resuming
pub mod Reading
pub mod FieldCells
pub mod Written
pub mod CutOff
pub mod ReadyEnds
