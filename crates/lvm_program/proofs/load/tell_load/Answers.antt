use Rattle.std.proofs.Common.{Option, ◌∙◌, sym, subst}
use Rattle.lvm_load.specs.declared.workload.Woven.{Woven}
use Rattle.lvm_top.specs.passed.GroupLines.{Refusal}
use Rattle.lvm_top.specs.Script.{passage}
use Rattle.lvm_program.specs.Loaded.{TellsLoaded, TellsTotals, refusal_of}
use Rattle.lvm_program.proofs.load.tell_load.Goals as goal

pub returns-in-Some-refusal_of : goal.returns-in-Some-refusal_of
returns-in-Some-refusal_of g c =
    let out = passage g.O.Sink.held g.O.Sink.faults c.args.out.now c.tell_both.new.out in
    subst (λ (w : Option Woven). TellsLoaded w (refusal_of c.args.synced) c.args.requests c.tell_both.result.0 c.tell_both.result.1 out) (sym c.in-Some.is)
    (subst (λ (r : Option Refusal). TellsTotals c.in-Some.woven r c.args.requests c.tell_both.result.0 c.tell_both.result.1 out) (sym c.in-Some-refusal_of.is ∙ c.refusal_of.ensures) c.tell_both.ensures)
