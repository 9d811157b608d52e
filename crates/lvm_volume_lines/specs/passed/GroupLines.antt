-- Passed on from `lvm_group_lines`.
pub use Rattle.lvm_range_lines.specs.passed.GroupLines.{ArePosted, ArrangeDoes, Aside, Asks, Brings, ComesTo, CommandEnds, CutDoes, CutNotPlanned, DiskOfGroup, DiskShows, EndsUnasked, LineGoesOn, GroupShows, GroupThatIsOn, HasBegunHeld, HaveRooms, Holder, InFull, IsAlone, IsArranged, IsAsked, IsAtRest, IsBetween, IsBetweenStage, IsOnBetween, IsBrokenOff, IsCarriedOn, IsClosed, SessionIsClosed, IsFittingStage, IsLeftByCall, IsLeftBy, IsNotOn, IsOfKind, IsOn, IsRefused, IsRelit, IsRequesting, IsStuck, IsTimely, ListsGroup, ListsMember, ListsVolume, Makes, MkvgDoes, NoGroupForDisk, NoGroupForVolume, NoGroupToList, NoMemoryForLine, NoMkvgWhileOn, NoReadWhileOn, NoSuchMember, NoSuchVolume, NoVaryonWhileOn, NoWriteWhileOn, NotPlanned, NotThere, OfGroup, OfRequests, OtherGroup, PowerIsCut, ReadDoes, ReadGoes, Refusal, Reply, Role, ScriptState, Shows, Stage, StandsAlone, StandsBy, Varies, VaryonDoes, VolumeOfGroup, VolumeShows, WithoutMemory, WriteDoes, WriteGoes, asked_for, history_after, history_in, history_of, is_unheard, itself, log_with, moment_in, most_refusals, open_in, outcome_of, patience_of_line, refusal_by, refusal_of, refusals_of, reply_text, session_in, session_of, shelf_in, shelf_of, state_in, without_facts}
