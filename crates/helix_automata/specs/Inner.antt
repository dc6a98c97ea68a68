pub mod ArcEnds
pub mod EndLaws
pub mod Explore
pub mod Lookup
pub mod PairLaws
pub mod Row
pub mod WithArc
