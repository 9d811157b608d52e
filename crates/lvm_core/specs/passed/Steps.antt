-- Passed on from `lvm_steps`.
pub use Rattle.lvm_commit.specs.passed.Steps.{DiffersInVolume}
