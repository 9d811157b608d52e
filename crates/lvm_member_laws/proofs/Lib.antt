mod Rows
mod DataLemmas
pub mod ReducingLemmas
