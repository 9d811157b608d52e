pub mod Making
pub mod Quieting
pub mod Varying
