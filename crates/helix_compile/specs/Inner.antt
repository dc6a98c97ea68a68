pub mod Alternatives
pub mod Closure
pub mod Nfa
pub mod Patterns
pub mod RangeEnds
pub mod Repeats
pub mod SubsetLaws
pub mod Subsets
