pub mod Examples
pub mod Notes
