pub mod Effects
pub mod Claims
pub mod Calm
pub mod Quieting
pub mod Writes
pub mod Rules
pub mod Entered
