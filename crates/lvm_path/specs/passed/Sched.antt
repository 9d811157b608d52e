-- Passed on from `lvm_sched`.
pub use Rattle.lvm_sched.specs.Reads.{AreCopies, AreCopiesAbove, IsReadOrder}
pub use Rattle.lvm_sched.specs.Writes.{is_flying, is_waiting, next_target}
pub use Rattle.lvm_sched.specs.declared.writes.TargetState.{TargetState}
