-- What the public clauses rest on.
pub mod SetFiles
-- The crate's inner words.
pub mod Inner
