-- What only private clauses cite.
pub mod Parts
pub mod Converted
pub mod Seen
