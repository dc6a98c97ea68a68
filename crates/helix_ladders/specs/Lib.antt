pub mod Calendar
pub mod Grids
pub mod Shift
pub mod Scale
pub mod Ladders
pub mod LadderLaws
pub mod Rising
