-- What the public clauses rest on.
pub mod Rows
pub mod Region
pub mod RegionCode
pub mod RegionGraph
pub mod SearchGraph
pub mod Change
pub mod Asking
pub mod Pieces
pub mod Lending
-- The crate's inner words.
pub mod Inner
-- Lemmas for proofs here and above.
pub mod Bridges
pub mod TrailLaws
pub mod MixingLaws
pub mod MergingLaws
pub mod ExtendingLaws
pub mod SeeingLaws
pub mod NumberingLaws
pub mod GraphLaws
pub mod RegionLaws
pub mod SearchLaws
pub mod RowLaws
pub mod CountLaws
pub mod PieceLaws
pub mod PieceCells
