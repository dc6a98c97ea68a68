pub mod FaultyMembers
pub mod FieldNames
