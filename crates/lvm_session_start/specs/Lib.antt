pub mod passed
pub mod Parts
pub mod Beginning
