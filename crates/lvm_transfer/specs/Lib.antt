pub mod passed
pub mod Transfer
pub mod Reading
