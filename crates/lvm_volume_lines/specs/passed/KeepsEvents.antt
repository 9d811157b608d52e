-- Passed on from `lvm_keeps_events`.
pub use Rattle.lvm_range_lines.specs.passed.KeepsEvents.{LosesByFaults, LostForFaults, TurnTells, power_by}
