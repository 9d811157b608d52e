pub mod Sound
pub mod Files
pub mod Names
pub mod Sink
