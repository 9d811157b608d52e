pub mod Used
pub mod Laws
pub mod passed
pub mod Parts
pub mod Spelling
