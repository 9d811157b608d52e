-- Passed on from the crates below.
pub use Rattle.lvm_kept.specs.passed.DiskShelfArrange.{Cut, Fail, Heal}
