use Rattle.std.proofs.Common.{◌∙◌, ap, arith}
use Rattle.lvm_turn.specs.Views.{View, enters}
use Rattle.lvm_turn.proofs.turn.Turn.enter.Goals as goal

pub returns-in-Some-try_enter-clause-entered : goal.returns-in-Some-try_enter-clause-entered
returns-in-Some-try_enter-clause-entered g c =
    let last = c.in-Some-try_enter.ensures.entered in
    let later = last.later in
    let not_fell = c.loop.invariant.4 in
    record {
      view = last.view ∙ ap (λ (v : View). enters (g.V.Shown.tells c.in-Some-try_enter.value) c.try_enter.new.pass.knows.number v) c.loop.invariant.3;
      odd = last.odd;
      later = omega arith;
    }
