use Rattle.std.proofs.Common.{◌≡◌}
use Rattle.lvm_line.specs.passed.GroupLines.{history_in, state_in, IsBetweenStage, IsFittingStage, without_facts}
use Rattle.lvm_top.proofs.ScriptLemmas.Scripting.{AskedSoFar}
use Rattle.lvm_top.proofs.script.do_lines.Given as goal

abbrev pub invariant-loop : goal.invariant-loop
invariant-loop g l = record {
  done : AskedSoFar (without_facts (history_in l.fn.stage)) l.fn.room (state_in g.S.Shelf.device l.fn.stage (g.C.Clock.last l.fn.clock)) (state_in g.S.Shelf.device l.stage (g.C.Clock.last l.clock)) l.lines
      (g.I.Source.left l.fn.input) (g.I.Source.left l.input) (g.O.Sink.held l.fn.out) (g.O.Sink.held l.out) l.refused l.counter (g.C.Clock.asked l.fn.clock) (g.C.Clock.asked l.clock);
  between : IsBetweenStage g.S.Shelf.device l.stage;
  fits : IsFittingStage l.stage;
  rooms : without_facts (history_in l.stage) ≡ without_facts (history_in l.fn.stage);
  source : g.I.Source.faults l.input ≡ g.I.Source.faults l.fn.input;
  sink : g.O.Sink.faults l.out ≡ g.O.Sink.faults l.fn.out;
}
