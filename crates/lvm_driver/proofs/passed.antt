pub mod Going
pub mod KeepsEvents
