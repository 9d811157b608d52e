pub mod Rows
pub mod More
pub mod Fewer
pub mod Splitting
