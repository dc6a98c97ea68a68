pub mod Kept
pub mod Asked
pub mod Small
pub mod SmallLaws
