pub mod AlongLemmas
pub mod LinkLemmas
pub mod LooseLemmas
pub mod NewestLemmas
pub mod OpenLemmas
