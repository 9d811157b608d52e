-- Passed on from `lvm_quiesce`.
pub use Rattle.lvm_group_lines.specs.passed.Quiesce.{AskedAtRest, CauseRose, IsAheadEach, IsFullFor, KeptFrom, MkvgOnceQuiet, Quiesces, RangeOnceQuiet, RangeStaysOut, ReadOnceQuiet, ReadsAtRest, RefusedAtOnce, RejectedAtOnce, StayedOut, StaysOut, VaryonOnceQuiet, WentQuiet, WriteOnceQuiet, WritesAtRest}
