-- The generated profile.
pub mod Workload
-- The crate's inner words.
pub mod Inner
