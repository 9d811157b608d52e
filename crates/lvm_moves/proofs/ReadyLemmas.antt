mod Buffers
pub mod Ready
