pub mod Copying
pub mod Equalling
pub mod Images
pub mod Moments
