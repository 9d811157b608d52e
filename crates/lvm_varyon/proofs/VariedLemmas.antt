pub mod Refusing
pub mod Bringing
pub mod Spanning
