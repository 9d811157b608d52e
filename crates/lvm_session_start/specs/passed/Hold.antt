-- Passed on from `lvm_hold`.
pub use Rattle.lvm_hold.specs.Waiting.{Waiting}
