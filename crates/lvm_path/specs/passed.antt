pub mod Sched
pub mod SchedWritesTargetState
pub mod VolEntryOutcome
