-- Passed on from `lvm_group_lines`.
pub use Rattle.lvm_group_lines.specs.Asking.{Asks, IsAsked, EndsSession}
pub use Rattle.lvm_group_lines.specs.Disks.{NoReadWhileOn, NoWriteWhileOn, ReadDoes, ReadGoes, WriteDoes, WriteGoes, refusal_by}
pub use Rattle.lvm_group_lines.specs.Ends.{CommandEnds, EndsUnasked, patience_of_line}
pub use Rattle.lvm_group_lines.specs.Groups.{Brings, BusyVaryoff, IsLeftByCall, Makes, MkvgDoes, NoMemoryForLine, NoMkvgWhileOn, NoVaryoff, NoVaryonWhileOn, Varies, VariesOff, VaryoffDoes, VaryonDoes, asked_for, itself, outcome_of}
pub use Rattle.lvm_group_lines.specs.Lighting.{IsRelit, refusal_of}
pub use Rattle.lvm_group_lines.specs.Listings.{DiskOfGroup, DiskShows, GroupShows, GroupThatIsOn, ListsGroup, ListsMember, ListsVolume, NoGroupForDisk, NoGroupForVolume, NoGroupToList, NoSuchMember, NoSuchVolume, OtherGroup, VolumeOfGroup, VolumeShows}
pub use Rattle.lvm_group_lines.specs.Moments.{Aside, LineGoesOn, HasBegunHeld, IsAlone, IsBrokenOff, IsRequesting, OfGroup, OfRequests, Role}
pub use Rattle.lvm_group_lines.specs.Replies.{InFull, IsRefused, IsStuck, Shows, WithoutMemory, is_unheard, most_refusals, refusals_of, reply_text}
pub use Rattle.lvm_group_lines.specs.Shelves.{ArrangeDoes, CutDoes, CutNotPlanned, IsArranged, NotPlanned, NotThere, PowerIsCut}
pub use Rattle.lvm_group_lines.specs.Stages.{ComesTo, HaveRooms, IsBetweenStage, IsCarriedOn, IsClosed, SessionIsClosed, IsFittingStage, IsLeftBy, IsNotOn, IsOfKind, IsOn, history_after, history_in, history_of, moment_in, open_in, posts_ended, session_in, session_of, shelf_in, shelf_of, state_in}
pub use Rattle.lvm_group_lines.specs.State.{ArePosted, IsAtRest, IsBetween, IsOnBetween, IsTimely, ScriptState, StandsAlone, StandsBy, log_with, without_facts}
pub use Rattle.lvm_group_lines.specs.declared.holder.Holder.{Holder}
pub use Rattle.lvm_group_lines.specs.declared.reply.Refusal.{Refusal}
pub use Rattle.lvm_group_lines.specs.declared.reply.Reply.{Reply}
pub use Rattle.lvm_group_lines.specs.declared.stage.Stage.{Stage}
