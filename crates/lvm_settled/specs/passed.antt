pub mod Core
pub mod Even
