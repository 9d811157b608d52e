pub mod passed
pub mod NewVolumeLemmas
pub mod Sublists
pub mod Parts
pub mod CopiesLemmas
pub mod DescriptorLemmas
pub mod SplitLemmas
