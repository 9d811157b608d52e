pub mod Disk
pub mod DiskShelfArrange
pub mod Rec
pub mod Vol
pub mod VolEntryOutcome
pub mod VolEntryVol
