-- Passed on from `lvm_quiesce`.
pub use Rattle.lvm_volume_lines.specs.passed.Quiesce.{AskedAtRest, IsAheadEach, KeptFrom, MkvgOnceQuiet, Quiesces, RangeStaysOut, RefusedAtOnce, RejectedAtOnce, StayedOut, StaysOut, VaryonOnceQuiet, WentQuiet}
