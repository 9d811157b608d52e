pub mod Chain
pub mod Answering
