-- What the public clauses rest on.
pub mod Sets
-- What only private clauses cite.
pub mod Inner
