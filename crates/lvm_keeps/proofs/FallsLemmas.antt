pub mod Pin
pub mod Bounding
pub mod Landing
pub mod CopyRead
pub mod NoteStart
pub mod Over
