pub mod Chaining
pub mod Round
pub mod Ready
pub mod Describing
pub mod Described
pub mod StatusRound
pub mod StatusRounds
