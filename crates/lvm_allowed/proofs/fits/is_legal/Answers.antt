use Rattle.std.proofs.Common.{◌≡◌, List, take, Bool, true, false, refl, sym, ◌∙◌, subst}
use Rattle.std.proofs.lemmas.List.{drop_all}
use Rattle.lvm_vol.specs.passed.NumDescriptorMode.{Active}
use Rattle.lvm_allowed.specs.declared.row.Row.{Row}
use Rattle.lvm_allowed.specs.declared.row.Row.TheVariants.{Making}
use Rattle.lvm_vol.specs.Legal.{LegalFrom}
use Rattle.lvm_allowed.specs.Rows.{facts_of}
use Rattle.lvm_allowed.proofs.RowsLemmas.{legal_row}
use Rattle.lvm_allowed.proofs.fits.is_legal.Goals as goal

pub returns-then-not-may_follow : goal.returns-then-not-may_follow
returns-then-not-may_follow c = λ run. (
  λ none. absurd (let e : ◌≡◌ {A = Bool} false true = none in cc),
  λ legal.
      let parts = (legal_row run c.args.asks.now c.args.blocks.now c.args.rows.now c.loop-k.k (Making 0 0 Active) c.loop-k-test.true).0 ((c.loop-k.invariant run).1 legal) in
      sym c.if-not-may_follow.true ∙ (c.may_follow.ensures run).1 parts.0,
)

pub loop-k-preserved : goal.loop-k-preserved
loop-k-preserved c = λ run.
    let step = legal_row run c.args.asks.now c.args.blocks.now c.args.rows.now c.loop-k.k (Making 0 0 Active) c.loop-k-test.true in (
      λ later. (c.loop-k.invariant run).0 (step.1 ((c.may_follow.ensures run).0 c.if-not-may_follow.false, later)),
      λ legal. (step.0 ((c.loop-k.invariant run).1 legal)).1,
    )

pub returns : goal.returns
returns c = λ run. (
  λ is. (c.loop-k.invariant run).0 (subst (λ (l : List Row). LegalFrom (facts_of run c.args.asks.now c.args.blocks.now (take c.loop-k.k c.args.rows.now)) (facts_of run c.args.asks.now c.args.blocks.now l)) (sym (drop_all c.loop-k.k c.args.rows.now c.loop-k-test.false)) tt),
  λ legal. refl,
)
