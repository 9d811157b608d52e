pub mod Appending
pub mod Found
mod FirstFitLemmas
mod DescriptorLemmas
mod BlocksLemmas
mod RefusalsLemmas
mod NameLemmas
mod Digits
