pub mod NameLaws
pub mod MemberLaws
pub mod MapLoops
pub mod MapLaws
pub mod Whole
