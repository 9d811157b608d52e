-- Passed on from `lvm_recovery`.
pub use Rattle.lvm_recovery.specs.Copying.{AllGive, AreApart, IsCopied, IsInOneRun, IsOfCopies, LogsJust, LogsOnly, MayCopy, StopsAtOne, runs_into, sources_and_targets}
pub use Rattle.lvm_recovery.specs.Ending.{HaveSectors, ShowsCopied}
pub use Rattle.lvm_recovery.specs.Equalising.{EqualiseGives, EqualisedStaysKept, MayEqualise, MayEqualiseBy, MayState, MayStateSecond, SecondGives, StatesSecond, WentOn, StoppedStating, StoppedCopying, second_write}
pub use Rattle.lvm_recovery.specs.Plan.{ArePlannedInOrder, copies_dirty}
pub use Rattle.lvm_recovery.specs.Planned.{ArePlanned}
pub use Rattle.lvm_recovery.specs.declared.copying.Recopy.{Recopy}
