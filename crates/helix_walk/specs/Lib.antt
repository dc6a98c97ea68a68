-- What the public clauses rest on.
pub mod NextRows
pub mod Groups
pub mod Parts
pub mod Classes
pub mod Fields
pub mod Kept
pub mod WalkCode
-- What only private clauses cite.
pub mod Inner
