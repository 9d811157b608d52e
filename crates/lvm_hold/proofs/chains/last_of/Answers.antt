use Rattle.std.proofs.Common.{◌-◌, ◌∙◌, Some, cond, sym, ap, arith, take}
use Rattle.std.proofs.lemmas.Bool.{eq-eqb, ne_eqb}
use Rattle.lvm_hold.specs.Chains.{last_of}
use Rattle.lvm_hold.proofs.ChainLemmas.{last_before}
use Rattle.lvm_hold.proofs.chains.last_of.Goals as goal

pub returns-then-head_of-head-clause-place : goal.returns-then-head_of-head-clause-place
returns-then-head_of-head-clause-place c =
    sym (c.loop-place.invariant.1 ∙ last_before c.args.head c.args.rows.now c.loop-place.place _ c.loop-place-test.true c.loop-place.invariant.0 ∙ ap (λ t. cond t (Some (c.loop-place.place - 1)) (last_of c.args.head (take (c.loop-place.place - 1) c.args.rows.now))) (eq-eqb _ c.args.head (sym c.head_of.ensures.head ∙ c.if-head_of-head.true)))

pub loop-place-preserved : goal.loop-place-preserved
loop-place-preserved c = (
  omega arith,
  c.loop-place.invariant.1 ∙ last_before c.args.head c.args.rows.now c.loop-place.place _ c.loop-place-test.true c.loop-place.invariant.0 ∙ ap (λ t. cond t (Some (c.loop-place.place - 1)) (last_of c.args.head (take (c.loop-place.place - 1) c.args.rows.now))) (ne_eqb _ c.args.head (λ e. c.if-head_of-head.false (c.head_of.ensures.head ∙ e))),
)
