pub mod Opening
pub mod MoveCloses
pub mod CloseTies
pub mod OpenTies
pub mod OpenMoveTies
