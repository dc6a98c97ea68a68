-- What the public clauses rest on.
pub mod Names
pub mod Atoms
pub mod Lines
pub mod Broken
pub mod Breaches
-- Lemmas for the crates above.
pub mod AloneLaws
pub mod LineLaws
-- What only private clauses cite.
pub mod Inner
