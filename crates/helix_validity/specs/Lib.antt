-- What the public clauses rest on.
pub mod Unbroken
pub mod Mentions
