pub mod Wrote
pub mod Equalising
pub mod AllWrites
pub mod MayWrite
