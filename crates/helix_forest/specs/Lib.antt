-- What the public clauses rest on.
pub mod Closing
-- For the crates above: lemmas about ways along relations.
pub mod Joins
pub mod Closed
-- The crate's inner words.
pub mod Inner
