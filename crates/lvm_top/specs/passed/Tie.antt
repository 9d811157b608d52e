-- Passed on from `lvm_going`.
pub use Rattle.lvm_line.specs.passed.Tie.{RunsOn, LeavesSession}
