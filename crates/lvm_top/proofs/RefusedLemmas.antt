-- Why the lines of a script are refused.
use Rattle.std.proofs.Common.{ℕ, List}
use Rattle.lvm_vol.specs.Log.{Log}
use Rattle.lvm_parse.specs.Grammar.{line_of}
use Rattle.lvm_core.specs.declared.parts.Room.{Room}
use Rattle.lvm_line.specs.Complete.{NothingFailed}
use Rattle.lvm_line.specs.Lines.{IsLine}
use Rattle.lvm_line.specs.passed.GroupLines.{Reply, ScriptState}
use Rattle.lvm_line.specs.passed.ReplyVariants as reply
use Rattle.lvm_line.proofs.CausesLemmas.Causing.{has_cause}
use Rattle.lvm_line.proofs.CausesLemmas.Posting.{told_causes, told_is_well}
use Rattle.lvm_line.proofs.CompleteLemmas.Completing.{lines_complete}
use Rattle.lvm_top.specs.Refused.{AreForCause, AreComplete, EndsForCause, IsForCause, IsRefusedFor, IsWell, ScriptsAreComplete}
use Rattle.lvm_top.specs.Run.{HaveCauses, IsRun, Run}
use Rattle.lvm_top.specs.Script.{AtLine, Ends, InLine, NextLine, NoLine, Script}

module _ (log : Log) (room : Room) where
  refused_for : (line : List ℕ) (answer : Reply) (old new : ScriptState) → IsLine log room line answer old new → IsRefusedFor line answer old new
  refused_for line (reply.Refused why) old new it = has_cause log room _ why old new it.between it.does
  refused_for line other old new it = tt

  pub line_caused : (line : List ℕ) (answer : Reply) (old new : ScriptState) → IsLine log room line answer old new → IsForCause line answer old new
  line_caused line answer old new it = (refused_for line answer old new it, told_causes log room line answer old new it)

  line_complete : (line : List ℕ) (answer : Reply) (old new : ScriptState) → IsLine log room line answer old new → NothingFailed (line_of line) old new → IsWell line old answer
  line_complete line (reply.Refused why) old new it nothing = lines_complete log room line why old new it nothing
  line_complete line other old new it nothing = tt

  lines_caused : {first : ScriptState} {lines : List (List ℕ)} {replies : List Reply} {last : ScriptState} (script : Script log room first lines replies last) → AreForCause script
  lines_caused NoLine = tt
  lines_caused (NextLine {mid = mid} {new = new} line answer said goes says before does) = (lines_caused before, line_caused line answer mid new does)

  lines_well : {first : ScriptState} {lines : List (List ℕ)} {replies : List Reply} {last : ScriptState} (script : Script log room first lines replies last) → AreComplete script
  lines_well NoLine = tt
  lines_well (NextLine {mid = mid} {new = new} line answer said goes says before does) = (lines_well before, line_complete line answer mid new does, told_is_well log room line answer mid new does)

  ends_caused : {mid last : ScriptState} {done : List (List ℕ)} {said : List Reply} {front : List ℕ} (ends : Ends log room mid last done said front) → EndsForCause ends
  ends_caused (AtLine same) = tt
  ends_caused {mid = mid} {last = last} (InLine line answer said front rest says split does) = line_caused line answer mid last does

pub scripts_complete : ScriptsAreComplete
scripts_complete log room first lines replies last script = lines_well log room script

pub run_causes : (r : Run) (ran : IsRun r) → HaveCauses ran
run_causes r ran = (lines_caused _ _ ran.lines.script, ends_caused _ _ ran.lines.ends)
