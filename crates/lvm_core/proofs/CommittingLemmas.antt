pub mod Committing
pub mod Stating
pub mod Buffers
pub mod Spanning
pub mod Settled
