pub mod passed
pub mod Shown
pub mod Judged
pub mod Made
pub mod Steps
pub mod NewGroup
pub mod Planned
