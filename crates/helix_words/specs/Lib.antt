-- what public clauses rest on
pub mod Words
pub mod Questions
pub mod Trails
pub mod Moves
pub mod MovesLaws
-- the crate's inner words
pub mod Inner
