-- Passed on from `lvm_calls`.
pub use Rattle.lvm_calls.specs.Opening.{counts_seen, faults_seen}
