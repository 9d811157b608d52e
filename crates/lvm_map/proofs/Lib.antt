pub mod FreePartitionsLemmas
pub mod FirstFitLemmas
pub mod LawsLemmas
pub mod Parts
pub mod PlacesLemmas
