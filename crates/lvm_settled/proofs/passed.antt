pub mod Core
pub mod Even
pub mod Rest
