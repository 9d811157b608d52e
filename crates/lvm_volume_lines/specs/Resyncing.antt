-- What `syncvg` does.
use Rattle.std.specs.Prelude.{◌≡◌, ◌≢◌, ℕ, List, [], Option, Some, None, Result, Ok, Err, IfErr, if◌then◌else◌}
use Rattle.lvm_num.specs.Votes.{total_votes}
use Rattle.lvm_session.specs.Calls.{has_numbers}
use Rattle.lvm_session.specs.Sound.{IsSound}
use Rattle.lvm_session.specs.State.{Core, State, votes_there}
use Rattle.lvm_core.specs.Looking.{IsNumberOf, HasNoVolumeNamed}
use Rattle.lvm_ranges.specs.declared.fault.SyncFault.{SyncFault}
use Rattle.lvm_ranges.specs.declared.fault.SyncFault.TheVariants as fault
use Rattle.lvm_ranges.specs.Causes.{SyncCause}
use Rattle.lvm_ranges.specs.Passing.{Copy}
use Rattle.lvm_ranges.specs.Syncing.{SyncGives, group_copies, group_fault, volume_copies, volume_fault}
use Rattle.lvm_ranges.specs.Turning.{GoesBeside}
use Rattle.lvm_volume_lines.specs.passed.RangeLines.{FailsIf, session_over}
use Rattle.lvm_volume_lines.specs.passed.GroupLines.{IsNotOn, IsRefused, Refusal, Reply, ScriptState, is_unheard, patience_of_line}
use Rattle.lvm_volume_lines.specs.passed.RefusalVariants as refusal
use Rattle.lvm_volume_lines.specs.passed.ReplyVariants as reply

-- ---- replies

-- a fault of a resync, as the refusal of its line
abbrev pub sync_refusal : Core → SyncFault → Refusal
sync_refusal core fault.Dark = refusal.Dark
sync_refusal core fault.Off = refusal.WentOff (votes_there core) (total_votes core.descriptor)
sync_refusal core fault.Stuck = refusal.Stuck
sync_refusal core fault.Busy = refusal.Busy
sync_refusal core fault.NoVolume = refusal.NoVolume
sync_refusal core fault.OutOfRange = refusal.NoVolume
sync_refusal core fault.HistoryFull = refusal.HistoryFull
sync_refusal core (fault.SyncFailed disk) = refusal.SyncFailed disk
sync_refusal core (fault.NoFresh lp) = refusal.NoFresh lp
sync_refusal core (fault.Missing disk) = refusal.Missing disk

-- what it is answered, by the session that it leaves
abbrev pub sync_reply : Core → Result ℕ SyncFault → Reply
sync_reply core (Ok made) = reply.Synced made
sync_reply core (Err why) = reply.Refused (sync_refusal core why)

-- it may be answered: between lines no copy is open, and whole volumes are asked for
abbrev pub MayCome : SyncFault → Type 0
MayCome fault.Busy = ⊥
MayCome fault.OutOfRange = ⊥
MayCome why = Unit {0}

-- in a group without volumes there is nothing to bring up
abbrev pub numbers_reply : Core → Reply
numbers_reply core = if has_numbers core then reply.Synced 0 else reply.Refused refusal.HistoryFull

-- ---- the lines

-- Copies of the session that is on are passed, with the patience of a line; and so it goes on, or is closed.
pub record IsSynced (refused : Core → Option SyncFault) (copies : List Copy) (core : Core) (old new : ScriptState) (answer : Reply) : Type 0 where
  pub end : State
  pub left : ℕ
  pub result : Result ℕ SyncFault
  pub gives : SyncGives (refused core) copies patience_of_line left (session_over old core) end result
  pub beside : GoesBeside (session_over old core) end patience_of_line left
  pub sound : IsSound end
  pub leaves : FailsIf (is_unheard answer) end old.posts old.last new
  pub says : answer ≡ sync_reply end.core result
  pub caused : IfErr result (SyncCause left (session_over old core) end)

-- It is refused while no group is on, and where the group has no volume of the name. Else the volume's copies are brought up.
pub data SyncVolumeDoes (name : List ℕ) (old new : ScriptState) (answer : Reply) : Type 0 where
  NoGroupForSync : old.session ≡ None → IsRefused refusal.NoGroup answer old new → SyncVolumeDoes name old new answer
  NoVolumeForSync : (core : Core) → old.session ≡ Some core → HasNoVolumeNamed core.descriptor.lvs name → IsRefused refusal.NoVolume answer old new → SyncVolumeDoes name old new answer
  SyncsVolume : (core : Core) (lv : ℕ) → old.session ≡ Some core → IsNumberOf core.descriptor.lvs name lv → IsSynced (λ c. volume_fault c lv) (volume_copies core.descriptor lv) core old new answer
      → SyncVolumeDoes name old new answer

-- It is refused while the group of the name isn't on. In a group without volumes nothing is brought up; else the copies of all its volumes are.
pub data SyncGroupDoes (name : List ℕ) (old new : ScriptState) (answer : Reply) : Type 0 where
  OtherGroupForSync : IsNotOn name old.session → IsRefused refusal.NoGroup answer old new → SyncGroupDoes name old new answer
  NothingSyncs : (core : Core) → old.session ≡ Some core → core.descriptor.name ≡ name → core.descriptor.lvs ≡ [] → answer ≡ numbers_reply core → new ≡ old → SyncGroupDoes name old new answer
  SyncsGroup : (core : Core) → old.session ≡ Some core → core.descriptor.name ≡ name → core.descriptor.lvs ≢ [] → IsSynced group_fault (group_copies core.descriptor) core old new answer
      → SyncGroupDoes name old new answer
