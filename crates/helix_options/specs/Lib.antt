-- What the public clauses rest on.
pub mod Paths
pub mod Parts
pub mod Literals
pub mod Regions
-- The crate's inner words.
pub mod Inner
