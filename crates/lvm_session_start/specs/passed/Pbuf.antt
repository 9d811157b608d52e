-- Passed on from `lvm_pbuf`.
pub use Rattle.lvm_keeps.specs.passed.Pbuf.{IsOut}
