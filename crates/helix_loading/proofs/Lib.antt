pub mod WholeInput
pub mod Handing
pub mod NamedFiles
pub mod Filling
pub mod Stops
