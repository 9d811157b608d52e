pub mod Faults
pub mod Moving
pub mod Committed
pub mod Migrating
pub mod Worked
