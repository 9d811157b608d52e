pub mod Shapes
pub mod Good
pub mod Rest
pub mod Seen
