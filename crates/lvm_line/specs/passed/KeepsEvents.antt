-- Passed on from `lvm_keeps_events`.
pub use Rattle.lvm_volume_lines.specs.passed.KeepsEvents.{TurnTells, power_by}
