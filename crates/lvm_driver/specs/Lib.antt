pub mod passed
pub mod Answers
pub mod Beginnings
pub mod Commits
pub mod Drains
pub mod Moves
pub mod Showing
