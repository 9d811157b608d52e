pub mod Count
pub mod Stream
pub mod Memory
pub mod Lines
pub mod Reading
