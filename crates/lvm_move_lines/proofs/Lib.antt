pub mod passed
pub mod AskingLemmas
pub mod EmptyLemmas
pub mod MovingLemmas
pub mod FindingLemmas
