pub mod Members
pub mod Passing
pub mod Revaluing
