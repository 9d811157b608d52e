pub mod Commands
pub mod Making
pub mod Records
pub mod Removing
pub mod Tidying
