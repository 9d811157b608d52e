pub mod Fitting
pub mod FreeLists
pub mod OneAnswer
pub mod UsedMarks
pub mod Validity
