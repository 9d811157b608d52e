use Rattle.std.proofs.Common.{◌≡◌, Bool, true, false, refl, sym, ◌∙◌}
use Rattle.lvm_vol.specs.Log.{is_got}
use Rattle.lvm_allowed.specs.Rows.{facts_of, request_in, ask_of, blocks_at}
use Rattle.lvm_allowed.proofs.RowsLemmas.{ends_of, lands_of, got_free, got_judged}
use Rattle.lvm_allowed.proofs.fits.may_land.Goals as goal

pub returns-then-not-may_end_after : goal.returns-then-not-may_end_after
returns-then-not-may_end_after c = λ run. (
  λ none. absurd (let e : ◌≡◌ {A = Bool} false true = none in cc),
  λ once. sym c.if-not-may_end_after.true ∙ ends_of run c.args.asks.now c.args.blocks.now c.args.before.now c.args.id c.args.outcome c.args.started c.may_end_after.result c.may_end_after.ensures once,
)

pub returns-then-is_got : goal.returns-then-is_got
returns-then-is_got c = λ run.
    let got : is_got c.args.outcome ≡ true = sym c.is_got.ensures ∙ c.if-is_got.true in
    let judged = got_judged run c.args.asks.now c.args.blocks.now (facts_of run c.args.asks.now c.args.blocks.now c.args.before.now) (request_in run c.args.asks.now c.args.blocks.now c.args.id) c.args.outcome (blocks_at c.args.blocks.now (ask_of c.args.asks.now c.args.id)) got in (
      λ may. lands_of run c.args.asks.now c.args.blocks.now c.args.before.now c.args.id c.args.outcome c.args.started c.may_end_after.result c.may_end_after.ensures c.if-not-may_end_after.false (judged.0 ((c.may_get.ensures run).0 may)),
      λ once. (c.may_get.ensures run).1 (judged.1 once.reads),
    )

pub returns-else-is_got : goal.returns-else-is_got
returns-else-is_got c = λ run.
    let other : is_got c.args.outcome ≡ false = sym c.is_got.ensures ∙ c.if-is_got.false in (
      λ is. lands_of run c.args.asks.now c.args.blocks.now c.args.before.now c.args.id c.args.outcome c.args.started c.may_end_after.result c.may_end_after.ensures c.if-not-may_end_after.false
          (got_free run c.args.asks.now c.args.blocks.now (facts_of run c.args.asks.now c.args.blocks.now c.args.before.now) (request_in run c.args.asks.now c.args.blocks.now c.args.id) c.args.outcome _ other),
      λ once. refl,
    )
