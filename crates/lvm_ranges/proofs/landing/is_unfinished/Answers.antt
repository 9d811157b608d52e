use Rattle.std.proofs.Common.{◌≡◌, ◌+◌, true, false, sym, ◌∙◌, subst, below_more, arith}
use Rattle.lvm_vol.specs.Log.{is_open}
use Rattle.lvm_ranges.proofs.landing.is_unfinished.Goals as goal

pub loop-piece-preserved : goal.loop-piece-preserved
loop-piece-preserved g c =
    let same : c.args.asked.now.first + c.from.result ≡ c.args.asked.now.first + c.loop-piece.piece = omega arith in
    below_more (λ k. is_open c.args.driver.now.1.history.facts (c.args.asked.now.first + k) ≡ false) c.loop-piece.piece c.loop-piece.invariant
    (subst (λ id. is_open c.args.driver.now.1.history.facts id ≡ false) same (sym c.is_open.ensures ∙ c.if-is_open.false))

pub returns-then-is_open-clause-open : goal.returns-then-is_open-clause-open
returns-then-is_open-clause-open g c =
    let same : c.args.asked.now.first + c.from.result ≡ c.args.asked.now.first + c.loop-piece.piece = omega arith in
    λ e. record { piece = c.loop-piece.piece; within = c.loop-piece-test.true; waits = subst (λ id. is_open c.args.driver.now.1.history.facts id ≡ true) same (sym c.is_open.ensures ∙ c.if-is_open.true) }
