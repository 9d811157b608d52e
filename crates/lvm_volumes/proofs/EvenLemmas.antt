pub mod Even
pub mod Off
