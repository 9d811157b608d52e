pub mod EndedLess
pub mod StaledLess
pub mod FallsStatus
