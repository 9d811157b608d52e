pub mod Out
pub mod Places
