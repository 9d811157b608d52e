-- What the lines do that make or remove a volume of the group that is on.
use Rattle.std.specs.Prelude.{◌≡◌, ◌≤◌, ◌-◌, ℕ, Bool, true, false, [], List, Some, None, Result, Ok, Err, IfSome}
use Rattle.lvm_num.specs.declared.descriptor.Mode.{Mode}
use Rattle.lvm_num.specs.declared.descriptor.Policy.{Policy}
use Rattle.lvm_disk.specs.Counts.{RoseBy}
use Rattle.lvm_disk.specs.Device.{IsReady}
use Rattle.lvm_disk.specs.Paths.{Path}
use Rattle.lvm_transfer.specs.Transfer.{Relights}
use Rattle.lvm_write.specs.Written.{KeepsShelf}
use Rattle.lvm_session.specs.Judging.{is_missing}
use Rattle.lvm_session.specs.Sound.{IsSound}
use Rattle.lvm_session.specs.State.{Core, State, state, is_there}
use Rattle.lvm_range_lines.specs.passed.KeepsEvents.{LosesVotesByFaults}
use Rattle.lvm_range_lines.specs.passed.VolumePlan.{GroupFault, NewVolume, ends_session, fault_of}
use Rattle.lvm_core.specs.declared.fault.CommitFault.{CommitFault}
use Rattle.lvm_core.specs.Held.{IsHeld}
use Rattle.lvm_core.specs.Leaves.{IsOfCommand, KeepsStatus, FindsOnly, Scope}
use Rattle.lvm_core.specs.Looking.{IsNumberOf, HasNoVolumeNamed}
use Rattle.lvm_core.specs.Settled.{IsSettled}
use Rattle.lvm_range_lines.specs.passed.Driver.{FailsSo, IsAny, IsTurn}
use Rattle.lvm_range_lines.specs.passed.Tie.{RunsOn}
use Rattle.lvm_range_lines.specs.passed.VolumePlanFaultGroupFault as fault
use Rattle.lvm_range_lines.specs.passed.Volumes.{MklvGives, RmlvGives, to_make, to_remove}
use Rattle.lvm_range_lines.specs.passed.GroupLines.{patience_of_line, IsRefused, IsOn, IsNotOn, open_in, posts_ended, IsAtRest, ScriptState, Refusal, Reply}
use Rattle.lvm_range_lines.specs.passed.RefusalVariants as refusal
use Rattle.lvm_range_lines.specs.passed.ReplyVariants as reply

-- a fault of a command on a group, as the refusal of its line
abbrev pub refusal_for : GroupFault → Refusal
refusal_for fault.Dark = refusal.Dark
refusal_for (fault.WentOff have total) = refusal.WentOff have total
refusal_for fault.Busy = refusal.Busy
refusal_for fault.NoVolume = refusal.NoVolume
refusal_for fault.VolumeExists = refusal.VolumeExists
refusal_for (fault.CopyLimit now) = refusal.CopyLimit now
refusal_for (fault.StaleCopy lp) = refusal.StaleCopy lp
refusal_for (fault.LastFresh lp) = refusal.LastFresh lp
refusal_for (fault.TooMany limit) = refusal.TooMany limit
refusal_for (fault.NoRoom free) = refusal.NoRoom free
refusal_for fault.HistoryFull = refusal.HistoryFull
refusal_for (fault.DiskFailed disk) = refusal.DiskFailed disk
refusal_for fault.Stuck = refusal.Stuck
refusal_for fault.Memory = refusal.Memory

-- so is why the turns before it have ended
abbrev pub drain_refusal : CommitFault → Refusal
drain_refusal why = refusal_for (fault_of why)

-- the reply to a command on a volume
abbrev pub volume_reply : {X : Type 0} → Result X GroupFault → Reply
volume_reply (Ok done) = reply.Ok
volume_reply (Err why) = reply.Refused (refusal_for why)

-- ---- what is left of a session

-- The session goes on, and counts the members that are missing by now as missing since it began.
pub record StaysOn (left : State) (old new : ScriptState) : Type 0 where
  pub core : Core
  pub is : core ≡ record left.core { origin = core.origin }
  pub session : new.session ≡ Some core
  pub device : new.moment.device ≡ left.device
  pub facts : new.moment.facts ≡ left.core.history.facts
  pub posts : new.posts ≡ old.posts

-- The session is over: it is closed without a write, its posts have ended, and the power is on.
pub record SessionIsOver (left : State) (old new : ScriptState) : Type 0 where
  pub lit : Relights left.device new.moment.device
  pub facts : new.moment.facts ≡ left.core.history.facts
  pub session : new.session ≡ None
  pub posts : new.posts ≡ posts_ended (Some left.core) old.posts

-- one or the other
abbrev pub IsLeftEither : Bool → State → ScriptState → ScriptState → Type 0
IsLeftEither true left old new = SessionIsOver left old new
IsLeftEither false left old new = StaysOn left old new

-- ---- before a command

-- No request is open. Where the group has a volume turns were made until nothing was left, and so much patience is; else, and at rest, nothing has changed. A
-- missing disk stays missing.
pub record Drains (core : Core) (old : ScriptState) (left : ℕ) (mid : State) : Type 0 where
  pub none : core.requests ≡ []
  pub turns : Path IsTurn IsAny (state old.moment.device core) mid
  pub runs : RunsOn (state old.moment.device core) mid
  pub still : IsAtRest old → mid ≡ state old.moment.device core
  pub empty : core.descriptor.lvs ≡ [] → mid ≡ state old.moment.device core
  pub missing : (disk : ℕ) → is_missing core disk ≡ true → is_missing mid.core disk ≡ true
  pub sound : IsSound mid
  pub settled : IsSettled mid.core
  pub few : left ≤ patience_of_line
  pub waited : RoseBy (patience_of_line - left) old.moment.device.counts.waits mid.device.counts.waits

-- No request is open, and the turns ended before nothing was left, for this. They lose the votes by faults alone.
pub record IsUndrained (core : Core) (old new : ScriptState) (why : CommitFault) (answer : Reply) : Type 0 where
  pub none : core.requests ≡ []
  pub end : State
  pub turns : Path IsTurn IsAny (state old.moment.device core) end
  pub runs : RunsOn (state old.moment.device core) end
  pub votes : LosesVotesByFaults (state old.moment.device core) end
  pub sound : IsSound end
  pub left : ℕ
  pub fails : FailsSo left end why
  pub few : left ≤ patience_of_line
  pub waited : RoseBy (patience_of_line - left) old.moment.device.counts.waits end.device.counts.waits
  pub over : SessionIsOver end old new
  pub clock : new.last ≡ old.last
  pub says : answer ≡ reply.Refused (drain_refusal why)

-- ---- a command

-- what `mklv` asks for
abbrev pub wanted : List ℕ → ℕ → Mode → Policy → ℕ → NewVolume
wanted name copies mode policy lps = record { name = name; copies = copies; mode = mode; policy = policy; lps = lps }

-- The command on the session, at which nothing was under way, was answered so, the clock wasn't asked, and of descriptors none may be found then that might not
-- be before, but the one that was to be committed. Only statuses of the session, that descriptor, and zeros in partitions that it may fill were written to
-- members; a member became missing only after a transfer to it had failed, and only partitions that it may mark were made stale or fresh. Where the session goes
-- on it is at rest, and its disks hold what it says, where they did.
pub record IsDone (Gives : State → State → Type 0) (scope : Core → Scope) (over : Bool) (mid : State) (old new : ScriptState) : Type 0 where
  pub left : State
  pub gives : Gives mid left
  pub leaves : IsLeftEither over left old new
  pub finds : FindsOnly (scope mid.core).next mid (state new.moment.device left.core)
  pub status : KeepsStatus (scope mid.core).next (scope mid.core).stale (scope mid.core).fresh (scope mid.core).marks mid left
  pub writes : KeepsShelf (is_there mid.core) (IsOfCommand (scope mid.core).next (scope mid.core).zeros mid left) mid.device left.device
  pub held : over ≡ false → IsHeld mid.device mid.core → IsHeld left.device left.core
  pub rests : over ≡ false → IsSettled left.core × IsReady left.device
  pub clock : new.last ≡ old.last

-- so was `mklv`, with so much patience
abbrev pub MklvEnds : NewVolume → Result ℕ GroupFault → Bool → ℕ → State → ScriptState → ScriptState → Type 0
MklvEnds w given over patience mid old new = IsDone (λ was is. MklvGives w patience was is given) (to_make w) over mid old new

-- so was `rmlv`
abbrev pub RmlvEnds : ℕ → Result (Unit {0}) GroupFault → Bool → ℕ → State → ScriptState → ScriptState → Type 0
RmlvEnds lv given over patience mid old new = IsDone (λ was is. RmlvGives lv patience was is given) (to_remove lv) over mid old new

-- ---- the lines

-- `mklv`
pub data MklvDoes (w : NewVolume) (group : List ℕ) (old new : ScriptState) (answer : Reply) : Type 0 where
  NoGroupForMklv : IsNotOn group old.session → IsRefused refusal.NoGroup answer old new → MklvDoes w group old new answer
  BusyMklv : IfSome old.session (IsOn group) → 1 ≤ open_in old.session → IsRefused refusal.Busy answer old new → MklvDoes w group old new answer
  UndrainedMklv : (core : Core) (why : CommitFault) → old.session ≡ Some core → IsOn group core → IsUndrained core old new why answer → MklvDoes w group old new answer
  MakesVolume : (core : Core) (left : ℕ) (mid : State) (number : ℕ) → old.session ≡ Some core → IsOn group core → Drains core old left mid → MklvEnds w (Ok number) false left mid old new → answer ≡ reply.Ok
      → MklvDoes w group old new answer
  MklvFails : (core : Core) (left : ℕ) (mid : State) (why : GroupFault) → old.session ≡ Some core → IsOn group core → Drains core old left mid → MklvEnds w (Err why) (ends_session why) left mid old new
      → answer ≡ reply.Refused (refusal_for why) → MklvDoes w group old new answer

-- `rmlv`, of the volume that has the name
pub data RmlvDoes (name : List ℕ) (old new : ScriptState) (answer : Reply) : Type 0 where
  NoGroupForRmlv : old.session ≡ None → IsRefused refusal.NoGroup answer old new → RmlvDoes name old new answer
  BusyRmlv : 1 ≤ open_in old.session → IsRefused refusal.Busy answer old new → RmlvDoes name old new answer
  UndrainedRmlv : (core : Core) (why : CommitFault) → old.session ≡ Some core → IsUndrained core old new why answer → RmlvDoes name old new answer
  NoVolumeForRmlv : (core : Core) (left : ℕ) (mid : State) → old.session ≡ Some core → Drains core old left mid → HasNoVolumeNamed mid.core.descriptor.lvs name → StaysOn mid old new → new.last ≡ old.last
      → answer ≡ reply.Refused refusal.NoVolume → RmlvDoes name old new answer
  RemovesVolume : (core : Core) (left : ℕ) (mid : State) (lv : ℕ) → old.session ≡ Some core → Drains core old left mid → IsNumberOf mid.core.descriptor.lvs name lv → RmlvEnds lv (Ok tt) false left mid old new
      → answer ≡ reply.Ok → RmlvDoes name old new answer
  RmlvFails : (core : Core) (left : ℕ) (mid : State) (lv : ℕ) (why : GroupFault) → old.session ≡ Some core → Drains core old left mid → IsNumberOf mid.core.descriptor.lvs name lv
      → RmlvEnds lv (Err why) (ends_session why) left mid old new → answer ≡ reply.Refused (refusal_for why) → RmlvDoes name old new answer
