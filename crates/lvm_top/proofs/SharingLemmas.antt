pub mod Apart
pub mod Content
pub mod Splits
