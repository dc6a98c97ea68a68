-- Words that private clauses cite.
pub mod Telling
pub mod ToldLaws
