pub mod Copies
pub mod Marking
pub mod Serving
pub mod Parting
pub mod Answering
