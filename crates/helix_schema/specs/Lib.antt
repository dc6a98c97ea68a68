-- what public clauses rest on
pub mod Mentions
pub mod Refusals
pub mod Drafts
pub mod DraftCode
pub mod Finishing
-- the crate's inner words
pub mod Inner
