pub mod Marking
pub mod Noting
pub mod Others
pub mod Copying
pub mod Each
