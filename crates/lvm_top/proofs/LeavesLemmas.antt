pub mod Transfers
pub mod Quiet
pub mod Varying
