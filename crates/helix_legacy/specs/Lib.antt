-- What the public clauses rest on.
pub mod Forms
pub mod Tests
pub mod Visited
pub mod Broken
pub mod Today
pub mod Refusal
-- What only private clauses cite.
pub mod Inner
