-- what public clauses rest on
pub mod Form
pub mod Domain
pub mod RestrictedCode
pub mod Near
pub mod Asking
-- the crate's inner words
pub mod Inner
