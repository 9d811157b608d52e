-- Passed on from `lvm_calls`.
pub use Rattle.lvm_driver.specs.passed.Calls.{counts_seen, faults_seen}
