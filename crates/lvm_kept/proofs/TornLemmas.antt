pub mod Records
pub mod Standing
