-- What the public clauses rest on.
pub mod Naming
pub mod AtMember
pub mod Rules
pub mod Units
pub mod Offsets
pub mod Relations
-- Lemmas for the crates above.
pub mod MemberLaws
pub mod RefusalLaws
pub mod RelationLaws
pub mod ValidityLaws
pub mod UniqueLaws
pub mod AtomLaws
-- The crate's inner words.
pub mod Inner
