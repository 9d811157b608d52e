pub mod Beside
pub mod Changing
pub mod Entered
pub mod CopySteps
pub mod Quiet
