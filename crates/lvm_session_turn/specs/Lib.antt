pub mod passed
pub mod Taking
pub mod Finishing
pub mod Carried
pub mod Ended
pub mod Reaping
pub mod Learning
