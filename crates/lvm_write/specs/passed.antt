pub mod Transfer
pub mod TransferMovesMoved
