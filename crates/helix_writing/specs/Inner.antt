pub mod Walks
pub mod Texts
pub mod Lines
pub mod Sending
pub mod Putting
pub mod Sent
