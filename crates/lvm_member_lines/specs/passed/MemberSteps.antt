-- Passed on from `lvm_member_steps`.
pub use Rattle.lvm_member_steps.specs.Steps.{BreaksFrom, BreaksOff, HasComeTo, WentOffAtOnce}
