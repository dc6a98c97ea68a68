-- What the public clauses rest on.
pub mod Sets
pub mod Given
pub mod Whole
-- The crate's inner words.
pub mod Inner
-- Lemmas for the crates above.
pub mod GivenLaws
pub mod UniqueLaws
