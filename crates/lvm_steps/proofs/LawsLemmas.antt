pub mod Stamps
pub mod Writes
pub mod Shelves
pub mod Records
pub mod Clock
