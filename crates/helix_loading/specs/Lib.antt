-- what public clauses rest on, in reading order
pub mod Files
pub mod Sources
pub mod Loading
-- what only private clauses cite
pub mod Inner
