-- Passed on from `lvm_handover`.
pub use Rattle.lvm_range_lines.specs.passed.Handover.{IsCommanded}
