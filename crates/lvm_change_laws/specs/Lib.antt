pub mod Committed
pub mod Examples
pub mod Rule
pub mod Spares
pub mod Turning
