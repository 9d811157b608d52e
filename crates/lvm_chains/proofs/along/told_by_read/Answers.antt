use Rattle.std.proofs.Common.{◌≡◌, Bool, true, false, cond, take, sym, ◌∙◌, ap}
use Rattle.lvm_vol.specs.declared.entry.Outcome.{Outcome}
use Rattle.lvm_vol.specs.May.{known}
use Rattle.lvm_allowed.specs.Rows.{facts_of}
use Rattle.lvm_allowed.specs.declared.recent.Told.TheVariants.{Fixed, Also}
use Rattle.lvm_allowed.specs.Told.{told_read}
use Rattle.lvm_chains.proofs.along.told_by_read.Goals as goal

pub returns-then-is_loose_along : goal.returns-then-is_loose_along
returns-then-is_loose_along c = λ run.
    let k = known (facts_of run c.args.asks.now c.args.blocks.now (take c.args.among c.args.rows.now)) c.args.block.vol c.args.block.number in
    sym (ap (λ (o : Outcome). told_read k.loose o c.args.same) c.in-Got.is ∙ ap (λ (t : Bool). cond t (Also false) (Fixed c.args.same)) (sym (c.is_loose_along.ensures run) ∙ c.if-is_loose_along.true))

pub returns-else-is_loose_along : goal.returns-else-is_loose_along
returns-else-is_loose_along c = λ run.
    let k = known (facts_of run c.args.asks.now c.args.blocks.now (take c.args.among c.args.rows.now)) c.args.block.vol c.args.block.number in
    sym (ap (λ (o : Outcome). told_read k.loose o c.args.same) c.in-Got.is ∙ ap (λ (t : Bool). cond t (Also false) (Fixed c.args.same)) (sym (c.is_loose_along.ensures run) ∙ c.if-is_loose_along.false))
