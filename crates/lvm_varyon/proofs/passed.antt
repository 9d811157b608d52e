pub mod Core
pub mod Recover
pub mod Recovery
pub mod Tidying
