-- What is left to refuse a line where nothing goes wrong.
use Rattle.std.specs.Prelude.{◌≡◌, ◌⊎◌, ◌≤◌, ◌*◌, ℕ, true, List, Option, Some, Result, Ok, IfSome}
use Rattle.lvm_disk.specs.Counts.{Counts, Rose, RoseBy}
use Rattle.lvm_vol.specs.Log.{Log}
use Rattle.lvm_parse.specs.declared.command.Command.{Command}
use Rattle.lvm_parse.specs.declared.command.Command.TheVariants as command
use Rattle.lvm_parse.specs.declared.rest.Misfit.{Misfit}
use Rattle.lvm_parse.specs.Grammar.{line_of}
use Rattle.lvm_core.specs.declared.parts.Room.{Room}
use Rattle.lvm_session.specs.Enabled.{is_lost}
use Rattle.lvm_session.specs.State.{Core, state}
use Rattle.lvm_volume_lines.specs.passed.Resync.{AnyFails}
use Rattle.lvm_volume_lines.specs.passed.GroupLines.{Refusal, ScriptState, patience_of_line}
use Rattle.lvm_volume_lines.specs.passed.RefusalVariants as refusal
use Rattle.lvm_volume_lines.specs.passed.ReplyVariants as reply
use Rattle.lvm_line.specs.Causes.{LacksOnTheWay}
use Rattle.lvm_line.specs.Lines.{IsLine}

-- no transfer has failed, the power wasn't cut, and it didn't wait a million times
pub record NoneRose (old new : Counts) : Type 0 where
  pub faults : (disk : ℕ) → Rose (old.faults disk) (new.faults disk) → ⊥
  pub cuts : Rose old.cuts new.cuts → ⊥
  pub waits : RoseBy patience_of_line old.waits new.waits → ⊥

-- a read of records that fails is told by `mkvg` and by `rd` and `wr` of a disk; a `varyonvg` goes on without the disk
abbrev pub TellsOfReads : Result (Option Command) Misfit → Type 0
TellsOfReads (Ok (Some (command.Mkvg force name mib disks))) = Unit {0}
TellsOfReads (Ok (Some (command.RawRd disk at count))) = Unit {0}
TellsOfReads (Ok (Some (command.RawWr disk at count word))) = Unit {0}
TellsOfReads other = ⊥

-- So it is between the states of a line, nor has a read of records failed of which that tells; and of a disk that isn't on the shelf, which a session can't count,
-- no transfer has failed since that began which was on.
pub record NothingFailed (read : Result (Option Command) Misfit) (old new : ScriptState) : Type 0 where
  pub none : NoneRose old.moment.device.counts new.moment.device.counts
  pub misses : TellsOfReads read → (disk : ℕ) → Rose (old.moment.device.counts.misses disk) (new.moment.device.counts.misses disk) → ⊥
  pub seen : IfSome old.session (λ (core : Core). AnyFails (state old.moment.device core) (state new.moment.device core) → ⊥)

-- the votes of the session that is on are lost
pub record HasLostVotes (s : ScriptState) : Type 0 where
  pub core : Core
  pub on : s.session ≡ Some core
  pub lost : is_lost core ≡ true

-- A refusal by what is asked for, by the records and the session that are there, or for want of memory, and for nothing that a shelf did in the line; so it counts
-- here that the votes were lost before, those that are left being at most half, and that a `reducevg` lacks votes on its way.
abbrev pub IsOwn : Result (Option Command) Misfit → ScriptState → Refusal → Type 0
IsOwn read old refusal.Dark = ⊥
IsOwn read old refusal.Stuck = ⊥
IsOwn read old refusal.Lost = ⊥
IsOwn read old refusal.ReadFailed = ⊥
IsOwn read old (refusal.DiskFailed disk) = ⊥
IsOwn read old (refusal.SyncFailed disk) = ⊥
IsOwn read old (refusal.WentOff have total) = (2 * have ≤ total) × (HasLostVotes old ⊎ LacksOnTheWay read have total old)
IsOwn read old other = Unit {0}

-- Each line in which nothing failed is refused so alone, if it is.
abbrev pub CompleteLaw : Type 0
CompleteLaw = (log : Log) (room : Room) (line : List ℕ) (why : Refusal) (old new : ScriptState) → IsLine log room line (reply.Refused why) old new
    → NothingFailed (line_of line) old new → IsOwn (line_of line) old why

-- A refusal by what is asked for, by the records and the session that are there, or for want of memory: for nothing that a shelf did.
abbrev pub IsByRule : Refusal → Type 0
IsByRule refusal.Dark = ⊥
IsByRule refusal.Stuck = ⊥
IsByRule refusal.Lost = ⊥
IsByRule refusal.ReadFailed = ⊥
IsByRule (refusal.DiskFailed disk) = ⊥
IsByRule (refusal.SyncFailed disk) = ⊥
IsByRule (refusal.WentOff have total) = ⊥
IsByRule other = Unit {0}

-- Where the votes weren't lost before it either, and it lacks none on its way, it is refused so alone; so a `wr` or a `rd` is, whose requests are all done or got if it isn't.
abbrev pub RuleLaw : Type 0
RuleLaw = (log : Log) (room : Room) (line : List ℕ) (why : Refusal) (old new : ScriptState) → IsLine log room line (reply.Refused why) old new
    → NothingFailed (line_of line) old new → (HasLostVotes old → ⊥) → ((have total : ℕ) → LacksOnTheWay (line_of line) have total old → ⊥) → IsByRule why

-- There is a line that is refused in which nothing failed.
abbrev pub NothingMayFail : Type 0
NothingMayFail =
    (log : Log) (room : Room) → (line : List ℕ) × (why : Refusal) × (old : ScriptState) × (new : ScriptState) × IsLine log room line (reply.Refused why) old new × NothingFailed (line_of line) old new

-- And some line is answered without a refusal in which nothing failed.
abbrev pub NothingMayFailAnswered : Type 0
NothingMayFailAnswered =
    (log : Log) (room : Room) → (line : List ℕ) × (text : List ℕ) × (old : ScriptState) × (new : ScriptState) × IsLine log room line (reply.Answers text 0) old new × NothingFailed (line_of line) old new
