-- Passed on from `lvm_pbuf`.
pub use Rattle.lvm_pbuf.specs.Out.{AreAllOut, IsOut, TakesLowest}
