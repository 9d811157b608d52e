pub mod passed
pub mod Members
pub mod Even
pub mod Commands
pub mod Marking
pub mod Examples
