pub mod Vol
pub mod VolEntryEntry
pub mod VolEntryOutcome
pub mod VolEntryVol
