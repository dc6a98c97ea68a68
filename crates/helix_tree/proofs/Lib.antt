pub mod SignedTrees
pub mod Negations
