-- Passed on from `lvm_going`.
pub use Rattle.lvm_driver.specs.passed.Going.{LeavesSession, RunsOn}
