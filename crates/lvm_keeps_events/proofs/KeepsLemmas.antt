pub mod CopyWrite
pub mod DataStart
pub mod StatusStart
pub mod Landing
pub mod Admission
