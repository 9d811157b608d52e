pub mod Bringing
pub mod Keeping
pub mod Owning
pub mod Serving
pub mod Telling
