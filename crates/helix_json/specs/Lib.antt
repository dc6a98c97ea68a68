-- What the public clauses rest on.
pub mod Tokens
pub mod Numbers
pub mod Text
pub mod Broken
pub mod Values
-- Lemmas for the crates above.
pub mod ValueLaws
-- What only private clauses cite, and lemmas for the crates above.
pub mod Inner
