pub mod Staling
pub mod DuesMarks
pub mod OpenLp
pub mod Entailing
pub mod Passing
pub mod Chosen
pub mod Review
pub mod Requests
