-- Passed on from `lvm_tie`.
pub use Rattle.lvm_tie.specs.Running.{IsBefore}
pub use Rattle.lvm_tie.specs.Tied.{IsGood, IsTied, moment_of}
pub use Rattle.lvm_handover.specs.passed.Going.{IsStamped, LeavesDescriptors, LeavesSession, RunsOn}
