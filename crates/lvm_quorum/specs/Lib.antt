pub mod Choosing
pub mod Groups
pub mod passed
pub mod Surveyed
pub mod Rows
pub mod Surveying
pub mod Laws
pub mod Reading
