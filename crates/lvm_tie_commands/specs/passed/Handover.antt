-- Passed on from `lvm_handover`.
pub use Rattle.lvm_handover.specs.Beginning.{HasJustBegun, IsHistory, Serves}
pub use Rattle.lvm_handover.specs.Earlier.{AreGone, with_taken}
pub use Rattle.lvm_handover.specs.Serving.{IsCommanded, OriginIsMarked, MayServe, StaysSound}
pub use Rattle.lvm_handover.specs.Settling.{MayHandOver}
