-- What each `varyonvg` of a script brings back.
use Rattle.std.proofs.Common.{◌≡◌, ℕ, List, Option, Some, Result, Ok, refl, subst}
use Rattle.lvm_disk.specs.Device.{Device}
use Rattle.lvm_vol.specs.Log.{Log}
use Rattle.lvm_steps.specs.Behind.{StampsAreEarlier}
use Rattle.lvm_parse.specs.declared.command.Command.{Command}
use Rattle.lvm_parse.specs.declared.command.Command.TheVariants as command
use Rattle.lvm_parse.specs.declared.rest.Misfit.{Misfit}
use Rattle.lvm_parse.specs.Grammar.{line_of}
use Rattle.lvm_core.specs.declared.parts.Room.{Room}
use Rattle.lvm_session.specs.State.{Core}
use Rattle.lvm_line.specs.passed.Varyon.{IsRecovered}
use Rattle.lvm_line.specs.Causes.{WritesNothing}
use Rattle.lvm_line.specs.Lines.{IsLine}
use Rattle.lvm_line.specs.passed.Quiesce.{Quiesces}
use Rattle.lvm_line.specs.passed.RefusalVariants as refusal
use Rattle.lvm_line.specs.passed.ReplyVariants as reply
use Rattle.lvm_line.specs.passed.GroupLines.{IsTimely, Reply, ScriptState}
use Rattle.lvm_line.proofs.CausesLemmas.Causing.{nothing_written, varyon_restates}
use Rattle.lvm_top.specs.Laws.{VaryonsRecover}
use Rattle.lvm_top.specs.Recovery.{AreRecovered, ComesBack, EndsRecovered, RecoversAs, RecoversBy}
use Rattle.lvm_top.specs.Run.{HaveRecovered, IsRun, Run}
use Rattle.lvm_top.specs.Script.{AtLine, Ends, InLine, NextLine, NoLine, Script, empty_log}
use Rattle.lvm_top.proofs.ScriptLemmas.Scripting.{begins_timely, script_went}

module _ (log : Log) (room : Room) where
  -- ---- a line

  comes_back : (old new : ScriptState) → (core : Core) × (new.session ≡ Some core) × ((quiet : Device) × Quiesces old.moment.device quiet × IsRecovered quiet new.moment.device core.descriptor) → ComesBack old new
  comes_back old new (core, on, (quiet, quiesces, back)) = record { core = core; on = on; quiet = quiet; quiesces = quiesces; back = back }

  varyon_recovers : (line name : List ℕ) (old new : ScriptState) → IsTimely log.run old → line_of line ≡ Ok (Some (command.Varyon name)) → (answer : Reply) → IsLine log room line answer old new → RecoversBy answer old new
  varyon_recovers line name old new timely is reply.Ok it = comes_back old new (varyon_restates log room line name old new is it timely)
  varyon_recovers line name old new timely is (reply.Refused (refusal.NoQuorum have total)) it = subst (λ (r : Result (Option Command) Misfit). WritesNothing r old new) is (nothing_written log room (line_of line) have total old new it.between it.does)
  varyon_recovers line name old new timely is answer it = tt

  recovers_as : (line : List ℕ) (answer : Reply) (old new : ScriptState) → IsTimely log.run old → IsLine log room line answer old new → (read : Result (Option Command) Misfit) → line_of line ≡ read → RecoversAs read answer old new
  recovers_as line answer old new timely it (Ok (Some (command.Varyon name))) is = varyon_recovers line name old new timely is answer it
  recovers_as line answer old new timely it read is = tt

  line_recovers : (line : List ℕ) (answer : Reply) (old new : ScriptState) → IsTimely log.run old → IsLine log room line answer old new → RecoversAs (line_of line) answer old new
  line_recovers line answer old new timely it = recovers_as line answer old new timely it (line_of line) refl

  -- ---- the lines of a script

  lines_recover : {first : ScriptState} {lines : List (List ℕ)} {replies : List Reply} {last : ScriptState} (script : Script log room first lines replies last) → IsTimely log.run first → AreRecovered script
  lines_recover NoLine timely = tt
  lines_recover {first} (NextLine {mid = mid} {new = new} line answer said goes says before does) timely =
      (lines_recover before timely, line_recovers line answer mid new ((script_went log room first before).timely timely) does)

  ends_recover : {mid last : ScriptState} {done : List (List ℕ)} {said : List Reply} {front : List ℕ} (ends : Ends log room mid last done said front) → IsTimely log.run mid → EndsRecovered ends
  ends_recover (AtLine same) timely = tt
  ends_recover {mid = mid} {last = last} (InLine line answer said front rest says split does) timely = line_recovers line answer mid last timely does

pub varyons_recover : VaryonsRecover
varyons_recover log room first lines replies last script timely = lines_recover log room script timely

-- ---- those of a run

pub run_recovers : (r : Run) (ran : IsRun r) → StampsAreEarlier r.named r.entry → HaveRecovered ran
run_recovers r ran behind =
    let log = empty_log r.named r.room in
    let timely = begins_timely r.named r.entry ran.ready.flights behind in
    (lines_recover log r.room ran.lines.script timely, ends_recover log r.room ran.lines.ends ((script_went log r.room _ ran.lines.script).timely timely))
