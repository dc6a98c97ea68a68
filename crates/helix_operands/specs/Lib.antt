-- What the public clauses rest on.
pub mod Values
pub mod Tests
pub mod Rules
-- What only private clauses cite.
pub mod Inner
-- Lemmas for the crates above.
pub mod MadeLaws
pub mod UniqueLaws
pub mod FitLaws
pub mod UnbrokenLaws
