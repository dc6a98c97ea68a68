pub mod Scan
pub mod Tokens
pub mod Lexing
pub mod Rules
pub mod Positions
pub mod Sets
pub mod Building
