-- Passed on from `lvm_group_lines`.
pub use Rattle.lvm_volume_lines.specs.passed.GroupLines.{ArrangeDoes, CutDoes, CutNotPlanned, IsArranged, NoReadWhileOn, NoWriteWhileOn, NotPlanned, NotThere, PowerIsCut, ReadDoes, ReadGoes, WriteDoes, WriteGoes, IsLeftByCall, Makes, MkvgDoes, NoMemoryForLine, NoMkvgWhileOn, NoVaryonWhileOn, Varies, VaryonDoes, asked_for, itself, outcome_of, ArePosted, Aside, Asks, LineGoesOn, HasBegunHeld, Holder, IsAlone, IsAsked, IsAtRest, IsBetween, IsBetweenStage, IsOnBetween, IsBrokenOff, IsClosed, IsFittingStage, IsOfKind, IsRelit, IsRequesting, IsStuck, IsTimely, OfGroup, OfRequests, Reply, Role, ScriptState, Stage, StandsAlone, StandsBy, history_in, history_of, is_unheard, log_with, moment_in, most_refusals, patience_of_line, refusal_of, refusals_of, reply_text, session_in, session_of, shelf_in, shelf_of, state_in, without_facts, Refusal}
