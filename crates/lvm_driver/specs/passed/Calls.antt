-- Passed on from `lvm_calls`.
pub use Rattle.lvm_keeps_events.specs.passed.Calls.{counts_seen, faults_seen}
