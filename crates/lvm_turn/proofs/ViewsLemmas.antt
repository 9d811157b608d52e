pub mod Parting
pub mod Nested
pub mod Clients
