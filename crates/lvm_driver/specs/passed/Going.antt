-- Passed on from `lvm_going`.
pub use Rattle.lvm_going.specs.Frames.{KeepsFrame, KeepsShape, is_moving}
pub use Rattle.lvm_going.specs.Going.{RunsOn, LeavesSession}
