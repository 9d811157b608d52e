use Rattle.std.proofs.Common.{◌↔◌, ◌+◌, ◌==◌, Bool, IsTrue, sym, subst}
use Rattle.lvm_allowed.specs.declared.row.Row.{Row}
use Rattle.lvm_allowed.specs.declared.row.Row.TheVariants.{Taken, On}
use Rattle.lvm_vol.specs.Legal.{Fits}
use Rattle.lvm_allowed.specs.Rows.{facts_of, fact_of}
use Rattle.lvm_allowed.proofs.RowsLemmas.{begun_fits, on_fits, taken_fits}
use Rattle.lvm_allowed.proofs.fits.may_follow.Goals as goal

pub returns-in-Begun : goal.returns-in-Begun
returns-in-Begun c = λ run.
    subst (λ (r : Row). IsTrue (c.in-Begun.id == c.begun_count.result + 1) ↔ Fits (facts_of run c.args.asks.now c.args.blocks.now c.args.before.now) (fact_of run c.args.asks.now c.args.blocks.now r)) (sym c.in-Begun.is)
    (begun_fits run c.args.asks.now c.args.blocks.now c.args.before.now c.in-Begun.id c.begun_count.result c.begun_count.ensures)

pub returns-in-Taken : goal.returns-in-Taken
returns-in-Taken c = λ run.
    subst (λ (r : Row). IsTrue c.may_take.result ↔ Fits (facts_of run c.args.asks.now c.args.blocks.now c.args.before.now) (fact_of run c.args.asks.now c.args.blocks.now r)) (sym c.in-Taken.is)
    (subst (λ (t : Bool). IsTrue t ↔ Fits (facts_of run c.args.asks.now c.args.blocks.now c.args.before.now) (fact_of run c.args.asks.now c.args.blocks.now (Taken c.in-Taken.client c.in-Taken.id))) (sym c.may_take.ensures)
    (taken_fits run c.args.asks.now c.args.blocks.now c.args.before.now c.in-Taken.client c.in-Taken.id))

pub returns-in-On : goal.returns-in-On
returns-in-On c = λ run.
    subst (λ (r : Row). IsTrue c.is_latest.result ↔ Fits (facts_of run c.args.asks.now c.args.blocks.now c.args.before.now) (fact_of run c.args.asks.now c.args.blocks.now r)) (sym c.in-On.is)
    (subst (λ (t : Bool). IsTrue t ↔ Fits (facts_of run c.args.asks.now c.args.blocks.now c.args.before.now) (fact_of run c.args.asks.now c.args.blocks.now (On c.in-On.moment))) (sym c.is_latest.ensures)
    (on_fits run c.args.asks.now c.args.blocks.now c.args.before.now c.in-On.moment))
