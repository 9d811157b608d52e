pub mod FirstFit
pub mod Laws
pub mod Places
pub mod FreePartitions
