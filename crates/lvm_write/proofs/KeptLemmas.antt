pub mod New
pub mod Again
