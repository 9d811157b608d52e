pub mod Staying
pub mod Passing
pub mod Passed
pub mod Asking
