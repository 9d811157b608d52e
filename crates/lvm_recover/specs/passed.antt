pub mod Commit
pub mod Even
pub mod Steps
pub mod Write
