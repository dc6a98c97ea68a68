-- what public clauses rest on, in reading order
pub mod Fitting
pub mod Csv
pub mod JsonLines
pub mod DataText
pub mod Line
pub mod LineLaws
pub mod Writing
-- what only private clauses cite
pub mod Inner
