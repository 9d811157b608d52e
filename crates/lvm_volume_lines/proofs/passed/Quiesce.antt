-- Passed on from `lvm_quiesce`.
pub use Rattle.lvm_range_lines.proofs.passed.Quiesce.{each_is_behind, ends_leave, ends_leave_no_more, ends_only, fewer_stay_behind, quiet_is_ahead, still_ends, still_is_behind_each}
