pub mod CopyWrite
pub mod DataStart
pub mod StatusStart
