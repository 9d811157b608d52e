pub mod Erasing
pub mod Departures
pub mod Answers
pub mod Examples
