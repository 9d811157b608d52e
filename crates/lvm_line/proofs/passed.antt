pub mod Group
pub mod Quiesce
pub mod TieCommands
pub mod Varyon
pub mod Tie
pub mod GroupLines
pub mod RangeLines
pub mod MoveLines
