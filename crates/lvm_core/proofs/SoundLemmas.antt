pub mod Dark
pub mod Beginning
pub mod Arranging
pub mod Entering
pub mod Own
pub mod Settling
