use Rattle.lvm_vol.specs.May.{known}
use Rattle.lvm_allowed.specs.Rows.{facts_of}
use Rattle.lvm_allowed.proofs.SeenLemmas.{tells}
use Rattle.lvm_allowed.proofs.values.is_allowed.Goals as goal

pub returns : goal.returns
returns c = λ run. tells (known (facts_of run c.args.asks.now c.args.blocks.now c.args.rows.now) c.args.block.vol c.args.block.number) c.args.value.now c.seen_after.result c.allows.result (c.seen_after.ensures run) c.allows.ensures
