pub mod ManyWords
pub mod NextWord
