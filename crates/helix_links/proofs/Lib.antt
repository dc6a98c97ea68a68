pub mod Marks
pub mod BoundsOf
pub mod Walks
pub mod Told
pub mod Equal
pub mod OffsetAnswers
