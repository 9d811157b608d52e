-- Passed on from `lvm_ranges`.
pub use Rattle.lvm_ranges.specs.Asking.{AskRangeGives, Asks, IsAskedFor, range_fault}
pub use Rattle.lvm_ranges.specs.Choosing.{AreSince}
pub use Rattle.lvm_ranges.specs.Finishing.{AnyFailed, FinishCosts, FinishGives, Finished, GoingCause, RangeCause, TakesRange, WasStuck}
pub use Rattle.lvm_ranges.specs.Keeping.{AreApart, KeepsEarlier, KeepsOthers, KeepsTable}
pub use Rattle.lvm_ranges.specs.Landing.{AwaitCosts, AwaitEnds, HavePiecesLanded, IsUnfinished, TurnsFor}
pub use Rattle.lvm_ranges.specs.Reading.{AreGot, HasEndedWell, IsRead}
pub use Rattle.lvm_ranges.specs.Stepping.{AllMoved, LastEnded, MovesTurns, NoMove, OneMove, SteppingEnds}
pub use Rattle.lvm_ranges.specs.declared.landing.Stuck.{Stuck}
pub use Rattle.lvm_ranges.specs.declared.refusal.AskRangeFault.{AskRangeFault}
