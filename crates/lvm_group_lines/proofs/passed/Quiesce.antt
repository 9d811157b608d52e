-- Passed on from `lvm_quiesce`.
pub use Rattle.lvm_quiesce.proofs.LawsLemmas.Behind.{each_is_behind, fewer_stay_behind, quiet_is_ahead, still_is_behind_each}
pub use Rattle.lvm_quiesce.proofs.LawsLemmas.Ending.{ends_leave, ends_leave_no_more, ends_only, still_ends}
