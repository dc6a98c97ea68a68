pub mod Operands
pub mod Walking
