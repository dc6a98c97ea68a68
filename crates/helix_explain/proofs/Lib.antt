pub mod Ordered
pub mod Reversed
pub mod Stages
pub mod Cores
