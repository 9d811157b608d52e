-- The status of a run that nothing stops.
use Rattle.std.proofs.Common.{◌≡◌, ℕ, List, Option, Some, Result, Ok, refl, subst}
use Rattle.lvm_disk.specs.Counts.{RoseBy}
use Rattle.lvm_vol.specs.Log.{Log}
use Rattle.lvm_parse.specs.declared.command.Command.{Command}
use Rattle.lvm_parse.specs.declared.command.Command.TheVariants as command
use Rattle.lvm_parse.specs.declared.rest.Misfit.{Misfit}
use Rattle.lvm_parse.specs.Grammar.{line_of}
use Rattle.lvm_core.specs.declared.parts.Room.{Room}
use Rattle.lvm_line.specs.Causes.{HasCause}
use Rattle.lvm_line.specs.Lines.{IsLine}
use Rattle.lvm_line.specs.passed.GroupLines.{Reply, ScriptState, patience_of_line}
use Rattle.lvm_line.specs.passed.RefusalVariants as refusal
use Rattle.lvm_line.specs.passed.ReplyVariants as reply
use Rattle.lvm_line.proofs.CausesLemmas.Causing.{has_cause}
use Rattle.lvm_top.specs.Laws.{IsDoneOrShort, RunsEndInTime}
use Rattle.lvm_top.specs.Refused.{EndsInTime}
use Rattle.lvm_top.specs.Script.{AtLine, Ends, EndsStuck, InLine}
use Rattle.lvm_top.specs.declared.status.ExitStatus.{ExitStatus}
use Rattle.lvm_top.specs.declared.status.ExitStatus.TheVariants as ended

-- whatever the line, it is answered so only where the shelf waited so often
has_waited : (read : Result (Option Command) Misfit) (old new : ScriptState) → HasCause read refusal.Stuck old new → RoseBy patience_of_line old.moment.device.counts.waits new.moment.device.counts.waits
has_waited (Ok (Some (command.Rd name at count))) old new cause = cause
has_waited (Ok (Some (command.Wr name at count word))) old new cause = cause
has_waited (Ok (Some (command.Post name at count word))) old new cause = cause
has_waited (Ok (Some command.Wait)) old new cause = cause
has_waited (Ok (Some (command.SyncVolume name))) old new cause = cause
has_waited (Ok (Some (command.SyncGroup name))) old new cause = cause
has_waited (Ok (Some (command.Migratepv volume from to))) old new cause = cause
has_waited (Ok (Some (command.Step turns))) old new cause = cause
has_waited read old new cause = cause

never_stuck : {log : Log} {room : Room} {mid last : ScriptState} {done : List (List ℕ)} {said : List Reply} {front : List ℕ} (ends : Ends log room mid last done said front) → EndsStuck ends → EndsInTime ends → ⊥
never_stuck (AtLine same) stuck in_time = stuck
never_stuck {log} {room} {mid} {last} (InLine line answer said front rest says split does) stuck in_time =
    let its : IsLine log room line (reply.Refused refusal.Stuck) mid last = subst (λ (a : Reply). IsLine log room line a mid last) stuck does in
    in_time (has_waited (line_of line) mid last (has_cause log room (line_of line) refusal.Stuck mid last its.between its.does))

pub runs_in_time : RunsEndInTime
runs_in_time r ran read_well written_well in_time = by r.status refl
  where
    by : (s : ExitStatus) → r.status ≡ s → IsDoneOrShort s
    by ended.Usage is = ran.read_words is
    by ended.SourceFault is = read_well (ran.source is)
    by ended.SinkFault is = written_well (ran.sink is)
    by ended.Stuck is = never_stuck ran.lines.ends (ran.stuck is) in_time
    by _ is = tt
