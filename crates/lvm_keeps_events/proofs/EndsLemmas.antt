pub mod Counts
pub mod NoteEnd
pub mod CopyReadEnd
pub mod CopyQuit
pub mod CopyWriteFail
pub mod Again
pub mod CopyReadFail
