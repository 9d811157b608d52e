pub mod Commit
pub mod Crash
pub mod Even
pub mod KeepsEvents
pub mod Rest
