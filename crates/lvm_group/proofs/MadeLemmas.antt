pub mod Composing
pub mod Starting
