pub mod Answering
pub mod Asking
pub mod Lining
pub mod Staying
