-- Passed on from `lvm_group_lines`.
pub use Rattle.lvm_line.specs.passed.GroupLines.{Holder, IsAlone, IsBetween, IsBetweenStage, IsClosed, IsFittingStage, IsOfKind, IsStuck, IsTimely, OfRequests, Reply, ScriptState, Stage, StandsAlone, StandsBy, history_in, history_of, moment_in, most_refusals, session_in, session_of, shelf_of, state_in, without_facts, IsOnBetween, IsRequesting, is_unheard, ArrangeDoes, CutDoes, CutNotPlanned, IsArranged, NotPlanned, NotThere, PowerIsCut, patience_of_line, Role, IsAtRest, Refusal, IsLeftByCall, NoVaryonWhileOn, Varies, VaryonDoes, itself, log_with, outcome_of}
