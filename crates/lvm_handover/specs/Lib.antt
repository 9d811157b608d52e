pub mod passed
pub mod Settling
pub mod Serving
pub mod Beginning
pub mod Earlier
