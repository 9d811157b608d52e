pub mod Leaving
pub mod Losing
pub mod Wanting
pub mod Recording
pub mod Starting
pub mod StatusEnding
