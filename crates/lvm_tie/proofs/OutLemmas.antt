pub mod Wanted
pub mod Ties
pub mod Ended
pub mod Losing
pub mod Next
