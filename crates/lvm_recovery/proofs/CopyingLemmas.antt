pub mod Logged
pub mod Moving
pub mod Copied
pub mod AllCopied
