pub mod Answers
pub mod ExprRanges
pub mod Inner
