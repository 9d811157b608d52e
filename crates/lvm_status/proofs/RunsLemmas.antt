pub mod Sound
pub mod Sessions
