-- Passed on from `lvm_range_lines`.
pub use Rattle.lvm_range_lines.specs.Answers.{TellsAll}
pub use Rattle.lvm_range_lines.specs.Waiting.{AtRest, Awaits, Goes, InVain, NoGone, NoPost, OfEarlier, OfThis, OneGone, OnePost, Over, TakesGone, TakesPost, TakesPosts, WaitDoes, WaitEnds, WaitsOff, WaitsOn, WaitsOver, WhileOff}
