pub mod Words
pub mod Matched
pub mod CommandLine
