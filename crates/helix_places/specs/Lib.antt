-- What the public clauses rest on.
pub mod Members
pub mod Places
pub mod Pointers
pub mod Names
-- Lemmas for the crates above.
pub mod ViewLaws
pub mod KeyLaws
pub mod PlaceLaws
pub mod PartLaws
