-- Passed on from `lvm_range_lines`.
pub use Rattle.lvm_volume_lines.specs.passed.RangeLines.{CarriesBy, Ending, EndsBy, EndsWell, Fails, FailsIf, Finishes, GoesOnWith, IsFinished, IsNotAsked, IsOverWith, NoStepWhileOff, NotBegun, NotPosted, NotThere, NothingMoves, OnVolume, Posted, Posts, StepDoes, Steps, There, WhileOff, is_stuck}
