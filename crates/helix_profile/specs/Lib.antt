-- What the public clauses rest on.
pub mod Content
pub mod Holds
pub mod Satisfaction
pub mod Good
pub mod Answer
pub mod Change
pub mod Fields
pub mod Forest
pub mod Validity
pub mod Violation
-- For the crates above: the width of a profile, which no clause cites yet, and lemmas.
pub mod Width
pub mod SatisfactionLaws
pub mod AscendingLaws
pub mod AnswerLaws
