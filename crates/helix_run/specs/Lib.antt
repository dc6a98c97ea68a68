-- what public clauses rest on, in reading order
pub mod Words
pub mod Profile
pub mod Rows
pub mod Output
pub mod Lines
pub mod Script
pub mod Environment
pub mod Causes
pub mod Left
-- what only private clauses cite
pub mod Inner
