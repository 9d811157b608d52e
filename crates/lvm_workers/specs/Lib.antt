pub mod Draws
pub mod Serving
pub mod Making
pub mod Knowing
pub mod Working
pub mod Crews
pub mod Counting
pub mod Bringing
