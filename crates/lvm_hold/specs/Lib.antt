pub mod Conflicts
pub mod Waiting
pub mod Order
pub mod Chains
pub mod Tails
