pub mod passed
pub mod PathsLemmas
pub mod DeviceLemmas
pub mod CountingLemmas
pub mod StepsLemmas
mod ImagesLemmas
