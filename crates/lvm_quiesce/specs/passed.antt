pub mod Core
pub mod CoreRefusedCause
