pub mod Laid
pub mod Members
