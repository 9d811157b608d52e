-- Passed on from `lvm_range_lines`.
pub use Rattle.lvm_volume_lines.specs.passed.RangeLinesWaiting.{AtRest, Awaits, Goes, InVain, NoGone, OneGone, Over, TakesGone, WaitDoes, WaitEnds, WaitsOff, WaitsOn, WaitsOver, WhileOff, TellsAll}
