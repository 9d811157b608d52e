pub mod Session
pub mod SessionEventEvent
