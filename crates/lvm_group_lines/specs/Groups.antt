-- What the lines do that make a group, vary one on, or vary one off.
use Rattle.std.specs.Prelude.{◌≡◌, ◌≤◌, ℕ, Bool, [], List, Option, Some, None, Result, Ok, Err, IsSome, IfSome, IfErr}
use Rattle.lvm_disk.specs.Device.{Device}
use Rattle.lvm_vol.specs.Log.{Log}
use Rattle.lvm_core.specs.declared.parts.Room.{Room}
use Rattle.lvm_core.specs.declared.refused.Cause.{Cause}
use Rattle.lvm_core.specs.declared.refused.Refused.{Refused}
use Rattle.lvm_core.specs.Sound.{IsSoundAtRest}
use Rattle.lvm_core.specs.State.{state_of}
use Rattle.lvm_session.specs.Sound.{IsSound}
use Rattle.lvm_session.specs.State.{Core}
use Rattle.lvm_group_lines.specs.passed.Group.{NewGroup}
use Rattle.lvm_group_lines.specs.passed.Quiesce.{CauseRose, MkvgOnceQuiet, VaryonOnceQuiet}
use Rattle.lvm_group_lines.specs.Asking.{Asks, EndsSession, IsAsked}
use Rattle.lvm_group_lines.specs.declared.holder.Holder.{Holder}
use Rattle.lvm_group_lines.specs.Stages.{IsNotOn, IsOfKind, IsOn, history_of, open_in, session_of, shelf_of}
use Rattle.lvm_group_lines.specs.Replies.{IsRefused}
use Rattle.lvm_group_lines.specs.Lighting.{IsRelit, refusal_of}
use Rattle.lvm_group_lines.specs.declared.reply.Reply.{Reply}
use Rattle.lvm_group_lines.specs.State.{ScriptState, log_with}
use Rattle.lvm_group_lines.specs.Ends.{patience_of_line}
use Rattle.lvm_group_lines.specs.declared.reply.Refusal.TheVariants as refusal
use Rattle.lvm_group_lines.specs.declared.reply.Reply.TheVariants as reply

-- ---- what the call has left

-- the group is held by this session, which is sound between commands and with requests
pub record IsHeldBy {S : Type 0} (device : S → Device) (by : Holder S) (answer : Reply) (driver : S × Core) : Type 0 where
  pub shelf : shelf_of by ≡ driver.0
  pub history : history_of by ≡ driver.1.history
  pub session : session_of by ≡ Some driver.1
  pub kind : IsOfKind by
  pub between : IsSoundAtRest (state_of device driver)
  pub sound : IsSound (state_of device driver)
  pub answered : answer ≡ reply.Ok

-- none is held: the shelf and the history again, and why
pub record IsLeftBy {S : Type 0} (device : S → Device) (by : Holder S) (answer : Reply) (refused : Refused S) : Type 0 where
  pub session : session_of by ≡ None
  pub history : history_of by ≡ refused.history
  pub kind : IsOfKind by
  pub answered : answer ≡ reply.Refused (refusal_of refused.cause)
  pub lit : IsRelit refused.cause (device refused.shelf) (device (shelf_of by))

-- ---- what the line does

-- the line was refused for this, and no group is on
pub record IsLeftOff (why : Cause) (left : Device) (is : Log) (old new : ScriptState) (answer : Reply) : Type 0 where
  pub lit : IsRelit why left new.moment.device
  pub facts : new.moment.facts ≡ is.facts
  pub after : new.session ≡ None
  pub posts : new.posts ≡ old.posts
  pub answered : answer ≡ reply.Refused (refusal_of why)

-- a group is on, with this session
pub record IsLeftOn (core : Core) (old new : ScriptState) (answer : Reply) : Type 0 where
  pub facts : new.moment.facts ≡ core.history.facts
  pub after : new.session ≡ Some core
  pub posts : new.posts ≡ old.posts
  pub answered : answer ≡ reply.Ok

-- What the line leaves of the call: the group is on, or isn't, and why, with the shelf and the history that the call has left.
abbrev pub IsLeftByCall : Device → Log → ScriptState → ScriptState → Reply → Result Core Cause → Type 0
IsLeftByCall left is old new answer (Ok core) = (left ≡ new.moment.device) × (is ≡ core.history) × IsLeftOn core old new answer
IsLeftByCall left is old new answer (Err why) = IsLeftOff why left is old new answer

-- the outcome of a call, without its shelf
abbrev pub outcome_of : Device → Log → Result Core Cause → Result (Device × Core) (Refused Device)
outcome_of left is (Ok core) = Ok (left, core)
outcome_of left is (Err why) = Err (record { shelf = left; history = is; cause = why })

-- The call that is to bring a group on, at the moment that the clock has answered, gives this, and leaves a shelf, a history, and a session or why none is on.
pub record Brings (Gives : ℕ → Result (Device × Core) (Refused Device) → Type 0) (old new : ScriptState) (answer : Reply) : Type 0 where
  pub asks : Asks old new
  pub off : old.session ≡ None
  pub shelf : Device
  pub history : Log
  pub given : Result Core Cause
  pub gives : Gives new.last (outcome_of shelf history given)
  pub rose : IfErr given (CauseRose patience_of_line old.moment.device.counts shelf.counts)
  pub left : IsLeftByCall shelf history old new answer given

-- the shelf itself
abbrev pub itself : Device → Device
itself device = device

-- `varyonvg`, at the moment that the clock has answered
pub data VaryonDoes (log : Log) (room : Room) (name : List ℕ) (old new : ScriptState) (answer : Reply) : Type 0 where
  NoVaryonWhileOn : IsSome old.session → answer ≡ reply.Refused refusal.GroupOn → IsAsked old new → VaryonDoes log room name old new answer
  Varies : Brings (λ moment outcome. VaryonOnceQuiet itself (log_with log old.moment.facts) name moment room patience_of_line old.moment.device outcome) old new answer → VaryonDoes log room name old new answer

-- what `mkvg` asks for
abbrev pub asked_for : List ℕ → Option ℕ → List ℕ → Bool → ℕ → NewGroup
asked_for name mib disks force moment = record { name = name; mib = mib; disks = disks; force = force; moment = moment }

-- `mkvg`, at the moment that the clock has answered; where no group is on and the line itself finds no memory, that is answered
pub data MkvgDoes (log : Log) (room : Room) (force : Bool) (name : List ℕ) (mib : Option ℕ) (disks : List ℕ) (old new : ScriptState) (answer : Reply) : Type 0 where
  NoMemoryForLine : old.session ≡ None → answer ≡ reply.Refused refusal.Memory → IsAsked old new → MkvgDoes log room force name mib disks old new answer
  NoMkvgWhileOn : IsSome old.session → answer ≡ reply.Refused refusal.GroupOn → IsAsked old new → MkvgDoes log room force name mib disks old new answer
  Makes : Brings (λ moment outcome. MkvgOnceQuiet itself (asked_for name mib disks force moment) room patience_of_line (log_with log old.moment.facts) old.moment.device outcome) old new answer
      → MkvgDoes log room force name mib disks old new answer

-- `varyoffvg`, which leaves transfers out
pub data VaryoffDoes (name : List ℕ) (old new : ScriptState) (answer : Reply) : Type 0 where
  NoVaryoff : IsNotOn name old.session → IsRefused refusal.NoGroup answer old new → VaryoffDoes name old new answer
  BusyVaryoff : IfSome old.session (IsOn name) → 1 ≤ open_in old.session → IsRefused refusal.Busy answer old new → VaryoffDoes name old new answer
  VariesOff : (core : Core) → old.session ≡ Some core → IsOn name core → core.requests ≡ [] → EndsSession old new → answer ≡ reply.Ok → VaryoffDoes name old new answer
