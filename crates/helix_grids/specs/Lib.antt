-- what public clauses rest on
pub mod Tests
-- the crate's inner words
pub mod Inner
