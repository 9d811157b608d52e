pub mod Frames
pub mod Moving
pub mod Noting
pub mod Spanning
pub mod Table
