-- What has happened where a line is refused for it.
use Rattle.std.specs.Prelude.{◌≡◌, ◌⊎◌, ◌≤◌, ◌*◌, ℕ, false, List, Option, Some, None, Result, Ok, IsTrue, IsFalse}
use Rattle.std.specs.List.{list_any}
use Rattle.lvm_disk.specs.Counts.{Counts, Rose, RoseBy}
use Rattle.lvm_parse.specs.declared.command.Command.{Command}
use Rattle.lvm_parse.specs.declared.command.Command.TheVariants as command
use Rattle.lvm_parse.specs.declared.rest.Misfit.{Misfit}
use Rattle.lvm_parse.specs.Grammar.{line_of}
use Rattle.lvm_vol.specs.Log.{Log}
use Rattle.lvm_core.specs.declared.fault.CommitFault.{CommitFault}
use Rattle.lvm_core.specs.declared.parts.Room.{Room}
use Rattle.lvm_core.specs.Looking.{IsNumberOf}
use Rattle.lvm_session.specs.Causes.{AnyFailedSince, was_usable}
use Rattle.lvm_session.specs.Judging.{copies_in, is_missing}
use Rattle.lvm_session.specs.State.{Core, State, is_there, state}
use Rattle.lvm_member_lines.specs.passed.MemberPlan.{IsReducedBy}
use Rattle.lvm_volume_lines.specs.passed.KeepsEvents.{LostForFaults}
use Rattle.lvm_num.specs.declared.descriptor.Descriptor.{Descriptor}
use Rattle.lvm_num.specs.Descriptor.{is_member}
use Rattle.lvm_num.specs.Disks.{Disks}
use Rattle.lvm_num.specs.Votes.{is_enough_to_write, total_votes, votes_in}
use Rattle.lvm_disk.specs.Device.{Device}
use Rattle.lvm_volume_lines.specs.passed.Varyon.{IsRecovered}
use Rattle.lvm_volume_lines.specs.passed.Quiesce.{Quiesces}
use Rattle.lvm_volume_lines.specs.passed.Ranges.{AnyFailed}
use Rattle.lvm_volume_lines.specs.passed.Resync.{AnyFails}
use Rattle.lvm_volume_lines.specs.Volumes.{Drains, IsUndrained}
use Rattle.lvm_volume_lines.specs.passed.GroupLines.{patience_of_line, ScriptState, IsTimely, Refusal}
use Rattle.lvm_line.specs.Lines.{IsLine}
use Rattle.lvm_volume_lines.specs.passed.RefusalVariants as refusal
use Rattle.lvm_volume_lines.specs.passed.ReplyVariants as reply

-- the disk that a line reads or writes
abbrev pub disk_of : Result (Option Command) Misfit → Option ℕ
disk_of (Ok (Some (command.RawRd disk at count))) = Some disk
disk_of (Ok (Some (command.RawWr disk at count word))) = Some disk
disk_of other = None

-- a count of this disk has risen
abbrev pub RoseOn : Option ℕ → (ℕ → ℕ) → (ℕ → ℕ) → Type 0
RoseOn (Some disk) old new = Rose (old disk) (new disk)
RoseOn None old new = ⊥

-- a transfer of the disk has failed: a read of records or a write in `mkvg`, a read of records in `rd` and `wr`, and a write in each other line
abbrev pub TransferHasFailed : Result (Option Command) Misfit → ℕ → Counts → Counts → Type 0
TransferHasFailed (Ok (Some (command.Mkvg force name mib disks))) disk old new = Rose (old.misses disk) (new.misses disk) ⊎ Rose (old.faults disk) (new.faults disk)
TransferHasFailed (Ok (Some (command.RawRd on at count))) disk old new = Rose (old.misses disk) (new.misses disk)
TransferHasFailed (Ok (Some (command.RawWr on at count word))) disk old new = Rose (old.misses disk) (new.misses disk)
TransferHasFailed other disk old new = Rose (old.faults disk) (new.faults disk)

-- a transfer has failed since of a member of the group that was on, which wasn't missing then
pub record HasLostMember (old : ScriptState) (new : Counts) : Type 0 where
  pub core : Core
  pub on : old.session ≡ Some core
  pub disk : ℕ
  pub member : IsTrue (is_member core.descriptor disk)
  pub was : is_missing core disk ≡ false
  pub failed : Rose (old.moment.device.counts.faults disk) (new.faults disk)

-- The turns before the command ended for that.
pub record WasUndrained (why : Refusal) (old new : ScriptState) : Type 0 where
  pub core : Core
  pub fault : CommitFault
  pub on : old.session ≡ Some core
  pub ends : IsUndrained core old new fault (reply.Refused why)

-- a transfer has failed since the session began that was on, and its votes were lost before the line, or one has failed in it
pub record HasFailedInSession (old new : ScriptState) : Type 0 where
  pub core : Core
  pub on : old.session ≡ Some core
  pub failed : AnyFailedSince (state new.moment.device core)
  pub lost : LostForFaults (state old.moment.device core) (state new.moment.device core)

-- the votes were lost with a transfer that failed in the line, or the turns before the command ended for them, which were lost before the line or so
abbrev pub WereLost : Refusal → ScriptState → ScriptState → Type 0
WereLost why old new = HasLostMember old new.moment.device.counts ⊎ (WasUndrained why old new × HasFailedInSession old new)

-- The votes of members that weren't missing before the line are too few to write by a descriptor on the way to the group without these disks; nothing has failed for that.
pub record LacksVotes (disks : List ℕ) (have total : ℕ) (old : ScriptState) : Type 0 where
  pub core : Core
  pub on : old.session ≡ Some core
  pub next : Descriptor
  pub way : IsReducedBy disks core.descriptor next
  pub there : Disks
  pub fewer : (d : ℕ) → IsTrue (there d) → IsTrue (is_there core d)
  pub have_is : have ≡ votes_in next there
  pub total_is : total ≡ total_votes next
  pub few : IsFalse (is_enough_to_write next have)

-- so it may be of a `reducevg`, which goes by such descriptors, and of no other line
abbrev pub LacksOnTheWay : Result (Option Command) Misfit → ℕ → ℕ → ScriptState → Type 0
LacksOnTheWay (Ok (Some (command.Reducevg name disks))) have total old = LacksVotes disks have total old
LacksOnTheWay other have total old = ⊥

-- a transfer has failed in the line; of a disk that isn't on the shelf, which a session can't count, since the session began that was on
pub record HasFailedAsCounted (old new : ScriptState) : Type 0 where
  pub core : Core
  pub on : old.session ≡ Some core
  pub failed : AnyFails (state old.moment.device core) (state new.moment.device core)

-- Transfers of the line's disk have failed; the votes that are left are at most half, and a transfer of a member has failed, or, where the turns before the command
-- ended for that, they were lost before, or some transfer has failed, or a `reducevg` lacks votes on its way; the power was cut; the shelf waited a million times; transfers of the disk that is named have
-- failed; or the clock's moment isn't later than the one that is told. For the other refusals nothing has to have happened.
abbrev pub CauseOf : Result (Option Command) Misfit → Refusal → ScriptState → ScriptState → Type 0
CauseOf read refusal.Lost old new = RoseOn (disk_of read) old.moment.device.counts.faults new.moment.device.counts.faults
CauseOf read refusal.ReadFailed old new = RoseOn (disk_of read) old.moment.device.counts.faults new.moment.device.counts.faults
CauseOf read (refusal.WentOff have total) old new = (2 * have ≤ total) × (WereLost (refusal.WentOff have total) old new ⊎ LacksOnTheWay read have total old)
CauseOf read refusal.Dark old new = Rose old.moment.device.counts.cuts new.moment.device.counts.cuts
CauseOf read refusal.Stuck old new = RoseBy patience_of_line old.moment.device.counts.waits new.moment.device.counts.waits
CauseOf read (refusal.DiskFailed disk) old new = TransferHasFailed read disk old.moment.device.counts new.moment.device.counts
CauseOf read (refusal.SyncFailed disk) old new = ⊥
CauseOf read (refusal.ClockBack seen) old new = new.last ≤ seen
CauseOf read other old new = Unit {0}

-- What a line of requests is refused for: the power was cut; the shelf waited a million times; the votes that are left are at most half, and were lost before the
-- line, or a transfer has failed in it; or a transfer has failed in the line. For the other refusals nothing has to have happened.
abbrev pub TurnCause : Refusal → ScriptState → ScriptState → Type 0
TurnCause refusal.Dark old new = Rose old.moment.device.counts.cuts new.moment.device.counts.cuts
TurnCause refusal.Stuck old new = RoseBy patience_of_line old.moment.device.counts.waits new.moment.device.counts.waits
TurnCause (refusal.WentOff have total) old new = (2 * have ≤ total) × HasFailedInSession old new
TurnCause refusal.Lost old new = AnyFailed old.moment.device new.moment.device
TurnCause refusal.ReadFailed old new = AnyFailed old.moment.device new.moment.device
TurnCause (refusal.SyncFailed disk) old new = HasFailedAsCounted old new
TurnCause (refusal.DiskFailed disk) old new = ⊥
TurnCause other old new = Unit {0}

-- in the session that was on a transfer has failed since it began, or no copy of the logical partition of the volume of this name could be used then
pub record LackedSource (name : List ℕ) (lp : ℕ) (old new : ScriptState) : Type 0 where
  pub core : Core
  pub on : old.session ≡ Some core
  pub lv : ℕ
  pub named : IsNumberOf core.descriptor.lvs name lv
  pub lacks : AnyFailedSince (state new.moment.device core) ⊎ (list_any (was_usable core) (copies_in core.descriptor lv lp) ≡ false)

-- So it is of a line that reads or writes the volume of this name, which is refused for want of a source where that was lacking.
abbrev pub RangeLineCause : List ℕ → Refusal → ScriptState → ScriptState → Type 0
RangeLineCause name (refusal.NoFresh lp) old new = LackedSource name lp old new
RangeLineCause name why old new = TurnCause why old new

-- so it is of each line that makes requests or turns, and of each other as above
abbrev pub HasCause : Result (Option Command) Misfit → Refusal → ScriptState → ScriptState → Type 0
HasCause (Ok (Some (command.Rd name at count))) why old new = RangeLineCause name why old new
HasCause (Ok (Some (command.Wr name at count word))) why old new = RangeLineCause name why old new
HasCause (Ok (Some (command.Post name at count word))) why old new = TurnCause why old new
HasCause (Ok (Some command.Wait)) why old new = TurnCause why old new
HasCause (Ok (Some (command.SyncVolume name))) why old new = TurnCause why old new
HasCause (Ok (Some (command.SyncGroup name))) why old new = TurnCause why old new
HasCause (Ok (Some (command.Migratepv volume from to))) why old new = TurnCause why old new
HasCause (Ok (Some (command.Step turns))) why old new = TurnCause why old new
HasCause read why old new = CauseOf read why old new

-- Within each line that is refused for what its shelf or the clock did, that has happened.
abbrev pub CauseLaw : Type 0
CauseLaw = (log : Log) (room : Room) (line : List ℕ) (why : Refusal) (old new : ScriptState) → IsLine log room line (reply.Refused why) old new → HasCause (line_of line) why old new

-- A group that a line has varied on is on, and recovered where the clock's moments rise, from the shelf on which the transfers of before have ended.
abbrev pub VaryonLaw : Type 0
VaryonLaw =
    (log : Log) (room : Room) (line name : List ℕ) (old new : ScriptState) → line_of line ≡ Ok (Some (command.Varyon name)) → IsLine log room line reply.Ok old new → IsTimely log.run old
    → (core : Core) × (new.session ≡ Some core) × ((quiet : Device) × Quiesces old.moment.device quiet × IsRecovered quiet new.moment.device core.descriptor)

-- Nothing was written behind the turns that the line made first.
pub record WritesNoMore (old new : ScriptState) : Type 0 where
  pub core : Core
  pub on : old.session ≡ Some core
  pub left : ℕ
  pub mid : State
  pub drains : Drains core old left mid
  pub wrote : new.moment.device.wrote ≡ mid.device.wrote

-- nothing was written, or in a change of the group nothing behind its turns
abbrev pub WritesNothing : Result (Option Command) Misfit → ScriptState → ScriptState → Type 0
WritesNothing (Ok (Some (command.ChvgQuorum on name))) old new = WritesNoMore old new
WritesNothing (Ok (Some (command.ChvgBig name))) old new = WritesNoMore old new
WritesNothing (Ok (Some (command.Reducevg name disks))) old new = WritesNoMore old new
WritesNothing read old new = new.moment.device.wrote ≡ old.moment.device.wrote

-- So it is where the quorum is lacking.
abbrev pub NoQuorumLaw : Type 0
NoQuorumLaw = (log : Log) (room : Room) (line : List ℕ) (have total : ℕ) (old new : ScriptState) → IsLine log room line (reply.Refused (refusal.NoQuorum have total)) old new → WritesNothing (line_of line) old new
