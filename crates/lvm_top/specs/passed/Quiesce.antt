-- Passed on from `lvm_quiesce`.
pub use Rattle.lvm_line.specs.passed.Quiesce.{RefusedAtOnce, StayedOut, VaryonOnceQuiet, WentQuiet}
