pub mod Closing
pub mod Varying
pub mod Loaded
pub mod Telling
