-- What a run does over a shelf that heeds orders alone, and where no line orders a disk to fail or the power to be cut.
use Rattle.std.specs.Prelude.{◌≡◌, ℕ, true, List, length, Option, Some, Result, Ok}
use Rattle.lvm_disk.specs.Device.{Ordered}
use Rattle.lvm_disk.specs.Paths.{DeviceStep, Path}
use Rattle.lvm_disk.specs.Steps.{after_order}
use Rattle.lvm_disk.specs.declared.shelf.Arrange.TheVariants as arrange
use Rattle.lvm_order_laws.specs.Alone.{HeedsAlone, IsUnharmed}
use Rattle.lvm_vol.specs.Facts.{Fact}
use Rattle.lvm_vol.specs.Log.{Log}
use Rattle.lvm_parse.specs.declared.command.Command.{Command}
use Rattle.lvm_parse.specs.declared.command.Command.TheVariants as command
use Rattle.lvm_parse.specs.declared.rest.Misfit.{Misfit}
use Rattle.lvm_parse.specs.Grammar.{line_of}
use Rattle.lvm_steps.specs.Behind.{StampsAreEarlier}
use Rattle.lvm_core.specs.declared.parts.Room.{Room}
use Rattle.lvm_top.specs.passed.Line.{LacksOnTheWay, IsOrder, IsWellTold}
use Rattle.lvm_top.specs.passed.GroupLines.{Reply, ScriptState}
use Rattle.lvm_top.specs.passed.RefusalVariants as refusal
use Rattle.lvm_top.specs.passed.ReplyVariants as reply
use Rattle.lvm_top.specs.declared.status.ExitStatus.TheVariants as ended
use Rattle.lvm_top.specs.Laws.{MayRun}
use Rattle.lvm_top.specs.Run.{Run, IsRun, RanAlone, WhereAlone}
use Rattle.lvm_top.specs.Script.{Script, NoLine, NextLine, StaysAlone, Ends, AtLine, InLine}

-- ---- lines that order nothing

-- the line is no `fail`, `heal` or `cut`
abbrev pub IsNoOrder : List ℕ → Type 0
IsNoOrder line = IsOrder (line_of line) → ⊥

-- ---- lines that do no harm

-- a disk is ordered to fail, or the power to be cut
abbrev pub IsHarm : Result (Option Command) Misfit → Type 0
IsHarm (Ok (Some (command.Fail disk))) = Unit {0}
IsHarm (Ok (Some (command.Cut word))) = Unit {0}
IsHarm other = ⊥

-- the line is no `fail` or `cut`
abbrev pub IsHarmless : List ℕ → Type 0
IsHarmless line = IsHarm (line_of line) → ⊥

-- so is each line of the script,
abbrev pub AreHarmless : {log : Log} {room : Room} {first : ScriptState} {lines : List (List ℕ)} {replies : List Reply} {last : ScriptState} → Script log room first lines replies last → Type 0
AreHarmless NoLine = Unit {0}
AreHarmless (NextLine line answer said heard says before does) = AreHarmless before × IsHarmless line

-- and the one in which it ended
abbrev pub EndsHarmless : {log : Log} {room : Room} {mid last : ScriptState} {done : List (List ℕ)} {said : List Reply} {front : List ℕ} → Ends log room mid last done said front → Type 0
EndsHarmless (AtLine same) = Unit {0}
EndsHarmless (InLine line answer said front rest says split does) = IsHarmless line

abbrev pub RanHarmless : {r : Run} → IsRun r → Type 0
RanHarmless ran = AreHarmless ran.lines.script × EndsHarmless ran.lines.ends

-- ---- refusals for what a shelf did

-- A transfer failed, too few votes were left for that, the power was cut, or nothing was heard of a transfer.
abbrev pub IsTroubled : Reply → Type 0
IsTroubled (reply.Refused (refusal.DiskFailed disk)) = Unit {0}
IsTroubled (reply.Refused refusal.Lost) = Unit {0}
IsTroubled (reply.Refused refusal.ReadFailed) = Unit {0}
IsTroubled (reply.Refused (refusal.WentOff have total)) = Unit {0}
IsTroubled (reply.Refused refusal.Dark) = Unit {0}
IsTroubled (reply.Refused refusal.Stuck) = Unit {0}
IsTroubled (reply.Refused (refusal.SyncFailed disk)) = Unit {0}
IsTroubled other = ⊥

-- it was answered so for votes that it lacked on its way, with nothing that a shelf did in it
abbrev pub IsShortOfVotes : Result (Option Command) Misfit → Reply → ScriptState → Type 0
IsShortOfVotes read (reply.Refused (refusal.WentOff have total)) old = LacksOnTheWay read have total old
IsShortOfVotes read other old = ⊥

-- a line isn't answered so, but a `reducevg` that lacks votes on its way; and if it is a `wait`, it tells of each post of its session that it is done, or had no copy
abbrev pub IsUntroubled : List ℕ → Reply → ScriptState → ScriptState → Type 0
IsUntroubled line answer old new = (IsTroubled answer → IsShortOfVotes (line_of line) answer old) × IsWellTold (line_of line) answer old new

-- so is each line of the script,
abbrev pub AreUntroubled : {log : Log} {room : Room} {first : ScriptState} {lines : List (List ℕ)} {replies : List Reply} {last : ScriptState} → Script log room first lines replies last → Type 0
AreUntroubled NoLine = Unit {0}
AreUntroubled (NextLine {mid = mid} {new = new} line answer said heard says before does) = AreUntroubled before × IsUntroubled line answer mid new

-- and the one in which it ended
abbrev pub EndsUntroubled : {log : Log} {room : Room} {mid last : ScriptState} {done : List (List ℕ)} {said : List Reply} {front : List ℕ} → Ends log room mid last done said front → Type 0
EndsUntroubled (AtLine same) = Unit {0}
EndsUntroubled {mid = mid} {last = last} (InLine line answer said front rest says split does) = IsUntroubled line answer mid last

-- Each line of the run was answered so, it didn't end with status 6, and nothing has happened to the shelf at exit.
pub record GoesWell {r : Run} (ran : IsRun r) : Type 0 where
  pub lines : AreUntroubled ran.lines.script
  pub ends : EndsUntroubled ran.lines.ends
  pub heard : r.status ≡ ended.Stuck → ⊥
  pub exit : IsUnharmed r.exit

-- ---- what is ordered

-- what a line that is answered `ok` makes of what was ordered before, with the power on
abbrev pub orders_of : Result (Option Command) Misfit → Ordered → Ordered
orders_of (Ok (Some (command.Fail disk))) ordered = after_order true (arrange.Fail disk) ordered
orders_of (Ok (Some (command.Heal disk))) ordered = after_order true (arrange.Heal disk) ordered
orders_of (Ok (Some (command.Cut word))) ordered = after_order true (arrange.Cut word) ordered
orders_of read ordered = ordered

-- what one makes that is answered so
abbrev pub ordered_after : Reply → Result (Option Command) Misfit → Ordered → Ordered
ordered_after reply.Ok read ordered = orders_of read ordered
ordered_after other read ordered = ordered

-- what the lines of a script make, one after another
abbrev pub ordered_behind : {log : Log} {room : Room} {first : ScriptState} {lines : List (List ℕ)} {replies : List Reply} {last : ScriptState} → Script log room first lines replies last → Ordered → Ordered
ordered_behind NoLine ordered = ordered
ordered_behind (NextLine line answer said heard says before does) ordered = ordered_after answer (line_of line) (ordered_behind before ordered)

-- ---- laws

-- A shelf that heeds orders alone tells behind the lines of a script just what these lines ordered: a disk fails that a `fail` named, and no `heal` since.
abbrev pub LinesOrderAlone : Type 0
LinesOrderAlone =
    (log : Log) (room : Room) (first : ScriptState) (lines : List (List ℕ)) (replies : List Reply) (last : ScriptState) (script : Script log room first lines replies last)
    → first.moment.device.power ≡ true → (ordered : Ordered) → first.moment.device.orders.alone ≡ Some ordered → last.moment.device.orders.alone ≡ Some (ordered_behind script ordered)

-- Lines that order no harm of such a shelf are answered so, and nothing happens to it; where no other group is found at the lines that ask for that.
abbrev pub HarmlessScriptsGoWell : Type 0
HarmlessScriptsGoWell =
    (log : Log) (room : Room) (past : List Fact) (first : ScriptState) (lines : List (List ℕ)) (replies : List Reply) (last : ScriptState) (script : Script log room first lines replies last)
    → MayRun log.run past first → StaysAlone script → IsUnharmed first.moment.device → AreHarmless script → AreUntroubled script × IsUnharmed last.moment.device

-- So a run goes well,
abbrev pub HarmlessRunsGoWell : Type 0
HarmlessRunsGoWell = (r : Run) (ran : IsRun r) → StampsAreEarlier r.named r.entry → RanAlone ran → IsUnharmed r.entry → RanHarmless ran → GoesWell ran

-- and in each run, whatever it orders, the shelf heeds orders alone at each moment from entry to exit.
abbrev pub RunsHeedAlone : Type 0
RunsHeedAlone = (r : Run) → WhereAlone r (StampsAreEarlier r.named r.entry → HeedsAlone r.entry → Path DeviceStep HeedsAlone r.entry r.exit)

-- Some run of a line is such a one.
abbrev pub SomeRunGoesWell : Type 0
SomeRunGoesWell = (r : Run) × ((ran : IsRun r) × StampsAreEarlier r.named r.entry × RanAlone ran × IsUnharmed r.entry × RanHarmless ran × (length ran.lines.lines ≡ 1))
