pub mod Frame
pub mod CopyEnded
pub mod Over
pub mod Failing
pub mod Tables
pub mod Copies
