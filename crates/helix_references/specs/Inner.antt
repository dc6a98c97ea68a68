-- Words and lemmas that only this crate cites.
pub mod Wholes
pub mod Refusals
pub mod OneNumber
