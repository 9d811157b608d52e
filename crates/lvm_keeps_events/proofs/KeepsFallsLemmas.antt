pub mod Falls
pub mod Standing
