pub mod Examples
pub mod OneField
pub mod Powers
pub mod Deciding
pub mod Keeping
pub mod Violating
