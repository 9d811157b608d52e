use Rattle.std.proofs.Common.{◌≡◌, ◌∙◌, sym}
use Rattle.lvm_vol.specs.May.{known}
use Rattle.lvm_allowed.specs.Rows.{facts_of}
use Rattle.lvm_allowed.proofs.ToldLemmas.{told_of_read}
use Rattle.lvm_allowed.proofs.recent.told_by.Goals as goal

pub returns-then-not-ask : goal.returns-then-not-ask
returns-then-not-ask c = λ run.
    c.told_by_read.ensures run
    ∙ told_of_read (known (facts_of run c.args.asks.now c.args.blocks.now c.args.before.now) c.args.block.vol c.args.block.number).loose c.args.before.now c.args.asks.now c.args.blocks.now c.args.block.vol c.args.block.number c.args.value.now
    c.args.row.now c.in-Landed.id c.in-Landed.outcome c.in-Landed.started c.ask_or_none-ask.result c.brings-same.result c.in-Landed.is c.ask_or_none-ask.ensures (sym c.is_over.ensures ∙ c.if-not-is_over.false) c.if-not-ask.true c.brings-same.ensures
