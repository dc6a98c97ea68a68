-- What the public clauses rest on, in reading order.
pub mod Options
pub mod Values
pub mod Groups
pub mod Given
pub mod Faults
pub mod Checks
pub mod Orders
