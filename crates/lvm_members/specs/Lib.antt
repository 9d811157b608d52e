pub mod passed
pub mod Commands
pub mod Spares
pub mod Worked
