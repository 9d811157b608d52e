-- Passed on from `lvm_quiesce`.
pub use Rattle.lvm_volume_lines.proofs.passed.Quiesce.{each_is_behind, ends_leave, ends_leave_no_more, ends_only, fewer_stay_behind, still_ends, still_is_behind_each}
