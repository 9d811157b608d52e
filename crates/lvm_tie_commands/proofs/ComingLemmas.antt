pub mod Coming
pub mod Alone
