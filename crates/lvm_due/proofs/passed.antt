pub mod Due
pub mod Session
