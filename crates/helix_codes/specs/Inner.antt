pub mod Completed
pub mod Ends
pub mod Positions
pub mod PrefixLaws
