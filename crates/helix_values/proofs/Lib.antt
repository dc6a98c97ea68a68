pub mod Lexicographic
pub mod Checksums
pub mod TotalOrder
pub mod ClassLaws
pub mod OwnLevels
pub mod TextCounts
pub mod MarkCounts
