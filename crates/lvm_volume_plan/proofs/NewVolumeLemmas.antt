pub mod Numbers
pub mod NewDescriptor
pub mod OldDescriptor
pub mod Refusals
