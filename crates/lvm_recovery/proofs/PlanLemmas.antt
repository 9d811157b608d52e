pub mod Planning
pub mod Naming
pub mod NamedBy
pub mod Rising
pub mod Dirty
