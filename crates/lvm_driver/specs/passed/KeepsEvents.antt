-- Passed on from `lvm_keeps_events`.
pub use Rattle.lvm_keeps_events.specs.Telling.{TurnTells, power_by}
pub use Rattle.lvm_keeps_events.specs.Turning.{is_last}
