use Rattle.std.proofs.Common.{◌≡◌, ℕ, ◌+◌, [], arith, ◌∙◌, refl, subst, sym, Bool, true, false, get_or, below_more}
use Rattle.lvm_vol.specs.May.{known, May}
use Rattle.lvm_allowed.specs.Rows.{facts_of}
use Rattle.lvm_allowed.proofs.RowsLemmas.{gets_from, gets_at}
use Rattle.lvm_allowed.proofs.fits.may_get.Goals as goal

pub returns-then-not-may_have : goal.returns-then-not-may_have
returns-then-not-may_have c = λ run. (
  λ none. absurd (let e : ◌≡◌ {A = Bool} false true = none in cc),
  λ gets.
      let here = gets_at run c.args.asks.now c.args.blocks.now c.args.before.now c.args.id c.ask_or_none-ask.result c.loop-k.k c.ask_or_none-ask.ensures c.loop-k-test.true gets in
      let at = subst (λ (n : ℕ). May (known (facts_of run c.args.asks.now c.args.blocks.now c.args.before.now) c.ask_or_none-ask.result.vol (c.ask_or_none-ask.result.at + n)) (get_or c.args.blocks.now (c.ask_or_none-ask.result.place + c.loop-k.k) [])) (sym c.from-in-loop-k-2.ensures) here in
      let there = subst (λ (n : ℕ). May (known (facts_of run c.args.asks.now c.args.blocks.now c.args.before.now) c.ask_or_none-ask.result.vol (c.ask_or_none-ask.result.at + c.from-in-loop-k-2.result)) (get_or c.args.blocks.now (c.ask_or_none-ask.result.place + n) [])) (sym c.from-in-loop-k.ensures) at in
      sym c.if-not-may_have.true ∙ (c.may_have.ensures run).1 there,
)

pub loop-k-preserved : goal.loop-k-preserved
loop-k-preserved c = λ run.
    let there = (c.may_have.ensures run).0 c.if-not-may_have.false in
    let at = subst (λ (n : ℕ). May (known (facts_of run c.args.asks.now c.args.blocks.now c.args.before.now) c.ask_or_none-ask.result.vol (c.ask_or_none-ask.result.at + n)) (get_or c.args.blocks.now (c.ask_or_none-ask.result.place + c.from-in-loop-k.result) [])) c.from-in-loop-k-2.ensures there in
    let here = subst (λ (n : ℕ). May (known (facts_of run c.args.asks.now c.args.blocks.now c.args.before.now) c.ask_or_none-ask.result.vol (c.ask_or_none-ask.result.at + c.loop-k.k)) (get_or c.args.blocks.now (c.ask_or_none-ask.result.place + n) [])) c.from-in-loop-k.ensures at in
    below_more (λ (j : ℕ). May (known (facts_of run c.args.asks.now c.args.blocks.now c.args.before.now) c.ask_or_none-ask.result.vol (c.ask_or_none-ask.result.at + j)) (get_or c.args.blocks.now (c.ask_or_none-ask.result.place + j) [])) c.loop-k.k (c.loop-k.invariant run) here

pub returns : goal.returns
returns c = λ run. (
  λ is. gets_from run c.args.asks.now c.args.blocks.now c.args.before.now c.args.id c.ask_or_none-ask.result c.loop-k.k c.ask_or_none-ask.ensures (omega (arith, c.if-saturating_sub-from.false, c.from.ensures, c.saturating_sub.ensures)) c.loop-k-test.false (c.loop-k.invariant run),
  λ gets. refl,
)
