-- Passed on from `lvm_ranges`.
pub use Rattle.lvm_handover.specs.passed.Ranges.{AllMoved, AnyFailed, AreApart, AreGot, AreSince, AskRangeFault, AskRangeGives, Asks, AwaitCosts, AwaitEnds, FinishCosts, FinishGives, Finished, GoingCause, HasEndedWell, HavePiecesLanded, IsAskedFor, IsRead, IsUnfinished, KeepsEarlier, KeepsOthers, KeepsTable, LastEnded, MovesTurns, NoMove, OneMove, RangeCause, SteppingEnds, Stuck, TakesRange, TurnsFor, WasStuck, range_fault}
