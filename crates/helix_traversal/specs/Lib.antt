-- what public clauses rest on
pub mod Traversal
-- lemmas for the crates above
pub mod RoleLaws
pub mod VisitLaws
pub mod NamedLaws
-- the crate's inner words
pub mod Inner
