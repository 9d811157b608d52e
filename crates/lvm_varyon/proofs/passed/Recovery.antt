-- Passed on from `lvm_recovery`.
pub use Rattle.lvm_recovery.proofs.CopyingLemmas.Logged.{only_planned, only_then, only_told, only_wider}
pub use Rattle.lvm_recovery.proofs.EndingLemmas.Ending.{copied_ends, emptied_ends, next_same_plan, planned_may_be_made, restated_may_equalise, same_notes_same_plan}
pub use Rattle.lvm_recovery.proofs.EqualisingLemmas.{status_stands}
pub use Rattle.lvm_recovery.proofs.EndingLemmas.Runs.{runs_are_of_copies}
pub use Rattle.lvm_recovery.proofs.PlannedLemmas.{planned_are_apart}
pub use Rattle.lvm_recovery.proofs.CleanLemmas.{left_dirty_is_cleaned, left_dirty_valid}
