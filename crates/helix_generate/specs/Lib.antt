-- what public clauses rest on, in reading order
pub mod Starts
pub mod Script
pub mod Generating
-- what only private clauses cite
pub mod Inner
