-- Passed on from `lvm_rest`.
pub use Rattle.lvm_rest.specs.Closed.{AllLand}
