pub mod Transferring
pub mod Following
pub mod Pieces
pub mod Fronts
