-- Passed on from `lvm_volumes`.
pub use Rattle.lvm_volume_lines.specs.passed.Volumes.{IsWithFirst, IsWithMore, IsWith}
