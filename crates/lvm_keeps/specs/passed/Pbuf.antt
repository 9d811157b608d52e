-- Passed on from `lvm_pbuf`.
pub use Rattle.lvm_session.specs.passed.Pbuf.{IsOut}
