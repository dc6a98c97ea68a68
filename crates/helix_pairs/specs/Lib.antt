-- what public clauses rest on
pub mod Related
pub mod Bounds
pub mod Exclusion
pub mod OffsetShift
pub mod ShiftOf
pub mod Ends
-- why bounds are exact, and what the crates above cite of them
pub mod BoundLaws
pub mod OffsetShiftLaws
pub mod RuleLaws
