pub mod Going
pub mod KeepsEvents
pub mod Posts
pub mod Tie
