pub mod Atomic
pub mod Breaching
pub mod Collecting
pub mod Existing
pub mod Closing
