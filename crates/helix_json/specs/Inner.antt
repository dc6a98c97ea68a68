-- The reader, one character and one token after the other: what only private clauses cite.
pub mod Pieces
pub mod NumberSteps
pub mod Machine
pub mod StringSteps
pub mod Lexer
pub mod Scan
pub mod Progress
pub mod Lexeme
pub mod Scanned
pub mod Need
pub mod Rules
pub mod Building
pub mod Scopes
pub mod Reading
pub mod DecimalLaws
pub mod PartsLaws
