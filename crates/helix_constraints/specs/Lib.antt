-- What the public clauses rest on.
pub mod Visited
pub mod Rules
-- Lemmas for the crates above.
pub mod AloneLaws
-- What only private clauses cite.
pub mod Inner
