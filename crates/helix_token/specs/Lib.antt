-- what public clauses rest on, in reading order
pub mod Identity
pub mod Token
pub mod Broken
-- what only private clauses cite
pub mod Inner
