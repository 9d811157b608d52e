pub mod Commit
pub mod Even
