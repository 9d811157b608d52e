pub mod passed
pub mod Ends
pub mod Behind
pub mod Groups
pub mod Ranges
pub mod Laws
pub mod Quiet
