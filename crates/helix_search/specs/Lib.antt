-- what public clauses rest on
pub mod Counting
pub mod Bounds
pub mod Exclusion
pub mod Extending
pub mod Nodes
pub mod Levels
pub mod Trees
-- what private clauses rest on
pub mod Inner
