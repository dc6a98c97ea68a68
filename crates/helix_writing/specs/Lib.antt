-- what public clauses rest on, in reading order
pub mod Rows
pub mod GoodRows
pub mod Files
pub mod Writing
-- what only private clauses cite
pub mod Inner
