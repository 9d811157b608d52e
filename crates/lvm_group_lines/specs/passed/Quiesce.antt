-- Passed on from `lvm_quiesce`.
pub use Rattle.lvm_quiesce.specs.Behind.{ClockIsAheadEach, IsAheadEach, IsBehindEach}
pub use Rattle.lvm_quiesce.specs.Ends.{Quiesces}
pub use Rattle.lvm_quiesce.specs.Groups.{BringsOnEach, CauseRose, GivesOnceQuiet, IsFullFor, IsStartedEach, MkvgOnceQuiet, RefusedAtOnce, StayedOut, StaysOut, VariesOnAt, VaryonOnceQuiet, WentQuiet}
pub use Rattle.lvm_quiesce.specs.Ranges.{AskedAtRest, KeptFrom, RangeKeepsEach, RangeOnceQuiet, RangeStaysOut, ReadOnceQuiet, ReadsAtRest, RejectedAtOnce, WriteOnceQuiet, WritesAtRest}
