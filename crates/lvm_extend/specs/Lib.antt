pub mod Admission
pub mod Joining
pub mod Spreading
