pub mod IndexLemmas
pub mod LogLemmas
pub mod KeepingLemmas
pub mod TurnLemmas
pub mod passed
