pub mod passed
pub mod Lines
pub mod Causes
pub mod Complete
pub mod Told
