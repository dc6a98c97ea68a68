-- what public clauses rest on
pub mod Relations
pub mod Quantities
pub mod Equalities
pub mod Links
-- why the bounds of links rise
pub mod WholeLaws
pub mod LinkLaws
