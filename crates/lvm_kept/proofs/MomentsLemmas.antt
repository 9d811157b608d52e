pub mod Spans
pub mod Chaining
