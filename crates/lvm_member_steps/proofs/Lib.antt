pub mod ChainLemmas
pub mod ComingLemmas
pub mod HoldingLemmas
pub mod OffLemmas
pub mod StepLemmas
