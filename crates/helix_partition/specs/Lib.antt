-- What the public clauses rest on.
pub mod Groups
-- For the crates above: lemmas.
pub mod ChainLaws
pub mod LinkLaws
-- The crate's inner words.
pub mod Inner
