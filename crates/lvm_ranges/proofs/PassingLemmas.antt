pub mod Standing
pub mod Open
pub mod Bringing
pub mod Judging
pub mod Making
