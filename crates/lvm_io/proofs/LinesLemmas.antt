pub mod Feeds
pub mod Making
