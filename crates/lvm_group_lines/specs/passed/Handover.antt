-- Passed on from `lvm_handover`.
pub use Rattle.lvm_tie_commands.specs.passed.Handover.{AreGone, with_taken, HasJustBegun, IsCommanded, IsHistory, OriginIsMarked, MayHandOver, MayServe, Serves, StaysSound}
