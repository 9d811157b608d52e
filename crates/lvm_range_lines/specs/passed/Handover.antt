-- Passed on from `lvm_handover`.
pub use Rattle.lvm_group_lines.specs.passed.Handover.{IsCommanded, OriginIsMarked, MayServe, MayHandOver, StaysSound}
