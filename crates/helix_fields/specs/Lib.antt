-- What the public clauses rest on.
pub mod FaultyMember
pub mod Under
pub mod Types
pub mod Whole
pub mod FieldRules
pub mod Fields
-- Lemmas for the crates above.
pub mod SearchLaws
pub mod RefusalLaws
pub mod FieldLaws
pub mod TypeLaws
-- What only private clauses cite.
pub mod Inner
