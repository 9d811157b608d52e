pub mod Spans
pub mod Zeros
