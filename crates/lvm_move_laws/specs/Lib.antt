pub mod Moving
pub mod Serving
pub mod Committing
pub mod Standing
