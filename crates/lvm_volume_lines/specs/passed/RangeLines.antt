-- Passed on from `lvm_range_lines`.
pub use Rattle.lvm_range_lines.specs.Answers.{Tells, TellsAll, TellsNone}
pub use Rattle.lvm_range_lines.specs.Causes.{ArePostsCaused, IsPostCaused}
pub use Rattle.lvm_range_lines.specs.Leaving.{CarriesBy, EndsBy, EndsInPlace, EndsInSession, FailsBy, FailsIf, GoesOnWith, IsOverWith, serving, session_over}
pub use Rattle.lvm_range_lines.specs.Refusals.{Ending, ask_refusal, is_stuck, range_refusal}
pub use Rattle.lvm_range_lines.specs.Requests.{EndsWell, Fails, Finishes, IsFinished, IsNotAsked, NoMemory, NotBegun, NotPosted, NotThere, OnVolume, PostDoes, Posted, Posts, RdDoes, ShowsBlocks, ShowsThem, There, WhileOff, WrDoes}
pub use Rattle.lvm_range_lines.specs.Stepping.{NoStepWhileOff, NothingMoves, StepDoes, Steps, StopsAs, step_reply}
