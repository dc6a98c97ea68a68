pub mod Numbers
pub mod NamedFields
pub mod Labelling
pub mod Reading
pub mod FirstFields
pub mod GroupsPart
pub mod GroupsMade
pub mod Examples
