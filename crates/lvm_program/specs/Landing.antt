-- How the requests of a workload end over a shelf that does nothing by itself.
use Rattle.std.specs.Prelude.{◌≡◌, ◌⊎◌, ℕ, false, IfSome, List, Ok, Option, Result, Some}
use Rattle.lvm_disk.specs.Counts.{Rose}
use Rattle.lvm_vol.specs.Log.{Log, is_open}
use Rattle.lvm_kept.specs.Moments.{Moment}
use Rattle.lvm_parse.specs.declared.command.Command.{Command}
use Rattle.lvm_parse.specs.declared.command.Command.TheVariants as command
use Rattle.lvm_parse.specs.declared.rest.Misfit.{Misfit}
use Rattle.lvm_parse.specs.Grammar.{line_of}
use Rattle.lvm_core.specs.declared.parts.Room.{Room}
use Rattle.lvm_session.specs.Causes.{AnyFailedSince}
use Rattle.lvm_session.specs.State.{Core, State, state}
use Rattle.lvm_load.specs.declared.workload.Workload.{Workload}
use Rattle.lvm_load.specs.declared.workload.Woven.{Woven}
use Rattle.lvm_load.specs.Landing.{AreWell, EntersWell}
use Rattle.lvm_load.specs.MovingLanding.{EntersOnWay}
use Rattle.lvm_top.specs.passed.Line.{IsLine, role_of}
use Rattle.lvm_top.specs.passed.GroupLines.{IsRequesting, Reply, ScriptState}
use Rattle.lvm_program.specs.Woven.{Drawn, EndsWoven, Exit, NotMade}

-- No client waits, and each request has landed: as done or got, or where no copy of it could be used when the session began. So none is lost, and none is refused where each had a copy.
pub record HasLandedWell (first : State) (exit : Moment) (woven : Woven) : Type 0 where
  pub heard : woven.waiting ≡ false
  pub landed : (id : ℕ) → is_open exit.facts id ≡ false
  pub enters : EntersWell first.core first.core.history.facts exit.facts
  pub totals : AreWell first.core woven.totals

-- so it is of the workload, if it was drawn
abbrev pub EndsLandedWell : {blocks : ℕ} {load : Workload} {answer : Reply} {run : ℕ} {end : Moment} {on : Option Core} {exit : Exit} → EndsWoven blocks load answer run end on exit → Type 0
EndsLandedWell (NotMade not ends) = Unit {0}
EndsLandedWell {end = end} {exit = exit} (Drawn ok core some vols named facts served) = HasLandedWell (state end.device core) exit.moment served.woven

-- ---- lines

-- no transfer has failed since the session that was on began, and the power isn't cut in the line
pub record NothingSince (old new : ScriptState) : Type 0 where
  pub none : IfSome old.session (λ (core : Core). AnyFailedSince (state new.moment.device core) → ⊥)
  pub lit : Rose old.moment.device.counts.cuts new.moment.device.counts.cuts → ⊥

-- Nothing changes in the line, or each request of that session which lands in it lands so.
abbrev pub LandsInLine : ScriptState → ScriptState → Type 0
LandsInLine old new = (new ≡ old) ⊎ IfSome old.session (λ (core : Core). EntersWell core core.history.facts new.moment.facts)

-- or by the session as it was at some moment, where copies move
abbrev pub LandsOnWay : ScriptState → ScriptState → Type 0
LandsOnWay old new = (new ≡ old) ⊎ IfSome old.session (λ (core : Core). EntersOnWay (state old.moment.device core) new.moment.facts)

-- which of the two is asked of a line: in `migratepv` alone copies move
abbrev pub LandsIn : Result (Option Command) Misfit → ScriptState → ScriptState → Type 0
LandsIn (Ok (Some (command.Migratepv volume from to))) old new = LandsOnWay old new
LandsIn other old new = LandsInLine old new

-- So it is in each line that makes requests, or turns, where nothing has failed.
abbrev pub LinesLandWell : Type 0
LinesLandWell = (log : Log) (room : Room) (line : List ℕ) (answer : Reply) (old new : ScriptState) → IsLine log room line answer old new → IsRequesting (role_of (line_of line)) → NothingSince old new
    → LandsIn (line_of line) old new

-- There is such a line.
abbrev pub SomeLineLandsWell : Type 0
SomeLineLandsWell = (log : Log) (room : Room) → (line : List ℕ) × (answer : Reply) × (old : ScriptState) × (new : ScriptState) × IsLine log room line answer old new × IsRequesting (role_of (line_of line)) × NothingSince old new
