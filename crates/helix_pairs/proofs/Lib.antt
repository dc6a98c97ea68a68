pub mod PairBounds
pub mod RelatedNumbers
