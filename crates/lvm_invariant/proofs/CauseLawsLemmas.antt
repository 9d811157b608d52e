pub mod EachCause
pub mod WholeCauses
