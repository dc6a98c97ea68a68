-- what public clauses rest on, and why shifts keep the order of moments
pub mod DayOffset
pub mod WorkingDayLaws
pub mod MonthLaws
pub mod ShiftLaws
-- the crate's inner words
pub mod Inner
