use Rattle.std.proofs.Common.{take, sym, ◌∙◌}
use Rattle.lvm_vol.specs.May.{known}
use Rattle.lvm_allowed.specs.Rows.{facts_of}
use Rattle.lvm_allowed.proofs.ToldLemmas.{known_tight, not_loose}
use Rattle.lvm_chains.proofs.along.is_loose_along.Goals as goal

pub returns-then-not-is_off_along : goal.returns-then-not-is_off_along
returns-then-not-is_off_along c = λ run.
    let facts = facts_of run c.args.asks.now c.args.blocks.now (take c.args.among c.args.rows.now) in
    not_loose (known facts c.args.block.vol c.args.block.number) (known_tight facts c.args.block.vol c.args.block.number) (sym (c.is_off_along.ensures run) ∙ c.if-not-is_off_along.true)

pub returns : goal.returns
returns c = λ run. c.is_loosened_along.ensures run (sym (c.is_off_along.ensures run) ∙ c.if-not-is_off_along.false)
