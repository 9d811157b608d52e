pub mod passed
pub mod Asking
pub mod Moving
