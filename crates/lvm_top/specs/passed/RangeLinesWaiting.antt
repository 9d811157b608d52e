-- Passed on from `lvm_range_lines`.
pub use Rattle.lvm_line.specs.passed.RangeLinesWaiting.{TellsAll, AtRest, Awaits, Goes, InVain, Over, WaitDoes, WaitEnds, WaitsOn, WhileOff, NoGone, OneGone, TakesGone, WaitsOver}
