pub mod Many
pub mod RoundTrip
pub mod Rows
pub mod Sizes
