-- What the public clauses rest on.
pub mod Tree
pub mod TreeOf
-- For the crates above: lemmas.
pub mod DecisionLaws
pub mod MatchingDecisionLaws
pub mod TestDecisionLaws
pub mod TreeLaws
