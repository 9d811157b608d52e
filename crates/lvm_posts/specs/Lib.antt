pub mod passed
pub mod Pieces
pub mod Deciding
pub mod Posts
