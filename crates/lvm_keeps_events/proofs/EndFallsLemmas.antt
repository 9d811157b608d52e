pub mod Falling
pub mod CopyFalls
pub mod DataFalls
pub mod GroupFalls
