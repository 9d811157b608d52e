pub mod Migrate
pub mod MoveFaultVariants
pub mod MovePlan
