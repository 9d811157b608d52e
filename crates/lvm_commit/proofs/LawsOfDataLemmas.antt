pub mod Free
pub mod Data
pub mod Still
