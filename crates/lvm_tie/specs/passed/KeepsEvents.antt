-- Passed on from `lvm_keeps_events`.
pub use Rattle.lvm_keeps_events.specs.Reading.{GetsItsBlocks}
pub use Rattle.lvm_keeps_events.specs.Telling.{SameRoom, TurnTells, power_by}
pub use Rattle.lvm_keeps_events.specs.Turning.{is_last}
