-- Passed on from `lvm_range_lines`.
pub use Rattle.lvm_line.specs.passed.RangeLines.{CarriesBy, EndsWell, Fails, FailsIf, Finishes, NoStepWhileOff, NotBegun, NotPosted, NotThere, NothingMoves, OnVolume, Posted, Posts, StepDoes, Steps, There, WhileOff, Ending, is_stuck}
