-- What the public clauses rest on.
pub mod Regions
pub mod Parts
-- What only private clauses cite.
pub mod Inner
