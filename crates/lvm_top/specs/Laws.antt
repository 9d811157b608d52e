-- The descriptor that a later `varyonvg` finds is that of the last acknowledged command on its group, or one that was being committed since.
use Rattle.std.specs.Prelude.{◌≡◌, ◌⊎◌, ◌++◌, ◌∷◌, ℕ, [], List, Some, None, Ok, IsSomeAnd}
use Rattle.lvm_num.specs.declared.descriptor.Descriptor.{Descriptor}
use Rattle.lvm_disk.specs.Device.{Device, IsReady}
use Rattle.lvm_io.specs.Count.{Rose}
use Rattle.lvm_vol.specs.Facts.{Fact, Cut}
use Rattle.lvm_vol.specs.Log.{Log}
use Rattle.lvm_parse.specs.declared.command.Command.TheVariants as command
use Rattle.lvm_parse.specs.Grammar.{line_of}
use Rattle.lvm_steps.specs.Moments.{RunBegins, IsEarlier}
use Rattle.lvm_steps.specs.Behind.{StampsAreEarlier}
use Rattle.lvm_core.specs.declared.parts.Room.{Room}
use Rattle.lvm_core.specs.Leaves.{MayBeFound}
use Rattle.lvm_line.specs.Lines.{IsLine, role_of}
use Rattle.lvm_line.specs.passed.GroupLines.{IsStuck, ScriptState, IsTimely, Reply}
use Rattle.lvm_line.specs.passed.Tie.{LeavesDescriptors}
use Rattle.lvm_line.specs.passed.ReplyVariants as reply
use Rattle.lvm_top.specs.declared.status.ExitStatus.{ExitStatus}
use Rattle.lvm_top.specs.declared.status.ExitStatus.TheVariants as ended
use Rattle.lvm_top.specs.Recovery.{AreRecovered}
use Rattle.lvm_top.specs.Refused.{EndsInTime}
use Rattle.lvm_top.specs.Run.{Run, IsRun, RanAlone}
use Rattle.lvm_top.specs.Script.{Script, StaysAlone, entry_state}
use Rattle.lvm_top.specs.Standing.{MayHaveCommitted, DescriptorMayStand, MayMoveCopies, MayStandAtEnd, HasFewDisks, StoodBefore}

-- Whatever may be found after a line might be found before it, or is what the line may have committed; where no transfer that is out goes to a slot of descriptors
-- and something was heard of all, the clock is ahead of each crash image, and the disks stand by a session; where copies move, after some earlier history.
abbrev pub LineFindsNoMore : Type 0
LineFindsNoMore =
    (log : Log) (room : Room) (line : List ℕ) (answer : Reply) (old new : ScriptState) → IsLine log room line answer old new
    → HasFewDisks old.moment.device → LeavesDescriptors old.moment.device → (IsStuck answer → ⊥) → IsTimely log.run old → StoodBefore log.run (role_of (line_of line)) old new → MayMoveCopies log.run (line_of line) old new
    → (id : ℕ) (k : Descriptor) → MayBeFound new.moment.device id k → MayBeFound old.moment.device id k ⊎ MayHaveCommitted (line_of line) answer old new id k

-- A state from which a script may begin: no group is on, no transfer that is out goes to a slot of descriptors, the clock is ahead of each crash image of the
-- disks, of which there are at most 128, and an earlier history is kept with them.
pub record MayRun (run : ℕ) (past : List Fact) (first : ScriptState) : Type 0 where
  pub off : first.session ≡ None
  pub few : HasFewDisks first.moment.device
  pub leaves : LeavesDescriptors first.moment.device
  pub timely : IsTimely run first
  pub begins : RunBegins run past first.moment

-- Whatever may be found after the lines of a script may stand, where no other group is found at the lines that ask for that.
abbrev pub ScriptFindsWhatStands : Type 0
ScriptFindsWhatStands =
    (log : Log) (room : Room) (past : List Fact) (first : ScriptState) (lines : List (List ℕ)) (replies : List Reply) (last : ScriptState) (script : Script log room first lines replies last)
    → MayRun log.run past first → StaysAlone script
    → (id : ℕ) (k : Descriptor) → MayBeFound last.moment.device id k → DescriptorMayStand script id k

-- So a group that a `varyonvg` varies on thereafter has a descriptor that may stand.
abbrev pub VaryonFindsWhatStands : Type 0
VaryonFindsWhatStands =
    (log : Log) (room : Room) (past : List Fact) (first : ScriptState) (lines : List (List ℕ)) (replies : List Reply) (last : ScriptState) (script : Script log room first lines replies last)
    → MayRun log.run past first → StaysAlone script
    → (line name : List ℕ) (new : ScriptState) → line_of line ≡ Ok (Some (command.Varyon name)) → IsLine log room line reply.Ok last new
    → IsSomeAnd new.session (λ core. DescriptorMayStand script core.descriptor.id core.descriptor)

-- A run may start where nothing is under way, its moment is later than what stands on the disks, and they are kept with an earlier history.
abbrev pub RunMayStart : Type 0
RunMayStart = (run : ℕ) (entry : Device) (past : List Fact) → HasFewDisks entry → IsReady entry → StampsAreEarlier run entry → IsEarlier run entry past → MayRun run (past ++ Cut ∷ []) (entry_state entry run)

-- So it is at the end of each run, unless nothing was heard of a transfer.
abbrev pub RunFindsWhatStands : Type 0
RunFindsWhatStands =
    (r : Run) (ran : IsRun r) (past : List Fact)
    → HasFewDisks r.entry → IsReady r.entry → StampsAreEarlier r.named r.entry → IsEarlier r.named r.entry past → RanAlone ran → (r.status ≡ ended.Stuck → ⊥)
    → (id : ℕ) (k : Descriptor) → MayBeFound r.exit id k → MayStandAtEnd ran.lines.ends (DescriptorMayStand ran.lines.script) id k

-- In any script each `varyonvg` that is answered `ok` brings its group back, and one that lacks its quorum writes nothing, where the clock is ahead at first.
abbrev pub VaryonsRecover : Type 0
VaryonsRecover =
    (log : Log) (room : Room) (first : ScriptState) (lines : List (List ℕ)) (replies : List Reply) (last : ScriptState) (script : Script log room first lines replies last) → IsTimely log.run first → AreRecovered script

-- 0, 1, 5 and 7: the script was done, no memory was found, or it was too long
abbrev pub IsDoneOrShort : ExitStatus → Type 0
IsDoneOrShort ended.Well = Unit {0}
IsDoneOrShort ended.Refusals = Unit {0}
IsDoneOrShort ended.Memory = Unit {0}
IsDoneOrShort ended.TooLong = Unit {0}
IsDoneOrShort _ = ⊥

-- So each run ends whose source and sink don't fail, and whose shelf doesn't wait a million times in one line.
abbrev pub RunsEndInTime : Type 0
RunsEndInTime = (r : Run) (ran : IsRun r)
    → (Rose r.input.before.faults r.input.after.faults → ⊥) → (Rose r.output.before.faults r.output.after.faults → ⊥) → EndsInTime ran.lines.ends → IsDoneOrShort r.status
