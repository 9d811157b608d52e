pub mod Spanning
pub mod CallsTurn
pub mod Turning
