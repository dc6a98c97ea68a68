-- What only private clauses cite.
pub mod Members
pub mod Compared
