pub mod FieldNames
pub mod FaultyMembers
pub mod Endings
pub mod NumberParts
pub mod WholeNumbers
