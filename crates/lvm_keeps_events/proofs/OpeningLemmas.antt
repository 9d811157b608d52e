mod Aging
mod Calling
pub mod Opening
pub mod Moving
