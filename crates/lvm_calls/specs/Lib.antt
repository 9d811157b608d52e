pub mod Numbers
pub mod Opening
pub mod Ending
pub mod Losing
pub mod Left
pub mod Reviewing
pub mod Due
