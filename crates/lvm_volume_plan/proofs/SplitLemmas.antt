pub mod Behind
pub mod Both
