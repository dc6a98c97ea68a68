-- what public clauses rest on, in reading order
pub mod Lines
pub mod Shown
-- what only private clauses cite
pub mod Inner
