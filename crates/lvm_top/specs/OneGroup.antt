-- Of which scripts it holds by itself that a volume is made or removed of the only group.
use Rattle.std.specs.Prelude.{◌≡◌, ℕ, true, List, Option, Some, Ok}
use Rattle.lvm_disk.specs.Device.{Device, IsReady}
use Rattle.lvm_vol.specs.Facts.{Fact}
use Rattle.lvm_vol.specs.Log.{Log}
use Rattle.lvm_parse.specs.declared.command.Command.TheVariants as command
use Rattle.lvm_parse.specs.Grammar.{line_of}
use Rattle.lvm_steps.specs.Moments.{IsEarlier}
use Rattle.lvm_steps.specs.Behind.{StampsAreEarlier}
use Rattle.lvm_core.specs.declared.parts.Room.{Room}
use Rattle.lvm_line.specs.passed.GroupLines.{ScriptState, Reply}
use Rattle.lvm_top.specs.Plain.{FindsOneGroup}
use Rattle.lvm_top.specs.Run.{Run, IsRun, RanAlone}
use Rattle.lvm_top.specs.Script.{Script, NoLine, NextLine, StaysAlone, Ends, AtLine, InLine}
use Rattle.lvm_top.specs.Blank.{IsToldBlank}
use Rattle.lvm_top.specs.Laws.{MayRun}
use Rattle.lvm_top.specs.Standing.{HasFewDisks}

-- the line is no `mkvg -f`
abbrev pub IsUnforced : List ℕ → Type 0
IsUnforced line = (name : List ℕ) (mib : Option ℕ) (disks : List ℕ) → line_of line ≡ Ok (Some (command.Mkvg true name mib disks)) → ⊥

-- so is each line of the script,
abbrev pub AreUnforced : {log : Log} {room : Room} {first : ScriptState} {lines : List (List ℕ)} {replies : List Reply} {last : ScriptState} → Script log room first lines replies last → Type 0
AreUnforced NoLine = Unit {0}
AreUnforced (NextLine line answer said heard says before does) = AreUnforced before × IsUnforced line

-- and the one in which it ended
abbrev pub EndsUnforced : {log : Log} {room : Room} {mid last : ScriptState} {done : List (List ℕ)} {said : List Reply} {front : List ℕ} → Ends log room mid last done said front → Type 0
EndsUnforced (AtLine same) = Unit {0}
EndsUnforced (InLine line answer said front rest says split does) = IsUnforced line

abbrev pub RanUnforced : {r : Run} → IsRun r → Type 0
RanUnforced ran = AreUnforced ran.lines.script × EndsUnforced ran.lines.ends

-- Over disks on which one group may be found lines without a `mkvg -f` leave it so, and so there is no other one where a volume is
-- made or removed, or acted on.
abbrev pub UnforcedStaysAlone : Type 0
UnforcedStaysAlone =
    (log : Log) (room : Room) (past : List Fact) (first : ScriptState) (lines : List (List ℕ)) (replies : List Reply) (last : ScriptState) (script : Script log room first lines replies last)
    → MayRun log.run past first → FindsOneGroup first.moment.device → AreUnforced script
    → StaysAlone script × FindsOneGroup last.moment.device

-- So it is of a run,
abbrev pub UnforcedRunsAlone : Type 0
UnforcedRunsAlone =
    (r : Run) (ran : IsRun r) (past : List Fact)
    → HasFewDisks r.entry → IsReady r.entry → StampsAreEarlier r.named r.entry → IsEarlier r.named r.entry past → FindsOneGroup r.entry → RanUnforced ran → RanAlone ran

-- and of each over disks of zeros, on which no group is found.
abbrev pub BlankFindsOneGroup : Type 0
BlankFindsOneGroup = (device : Device) → IsToldBlank device → FindsOneGroup device
