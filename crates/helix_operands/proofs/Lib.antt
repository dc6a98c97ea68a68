pub mod Given
pub mod FirstMember
pub mod MemberValues
