use Rattle.std.proofs.Common.{sym, ◌∙◌, ap}
use Rattle.lvm_vol.specs.May.{known}
use Rattle.lvm_allowed.specs.declared.values.Seen.{Seen}
use Rattle.lvm_allowed.specs.Rows.{facts_of}
use Rattle.lvm_allowed.proofs.ToldLemmas.{known_tight, not_loose}
use Rattle.lvm_allowed.proofs.recent.is_loose.Goals as goal

pub returns-then-not-is_off_after : goal.returns-then-not-is_off_after
returns-then-not-is_off_after c = λ run.
    let facts = facts_of run c.args.asks.now c.args.blocks.now c.args.rows.now in
    not_loose (known facts c.args.block.vol c.args.block.number) (known_tight facts c.args.block.vol c.args.block.number) (sym (c.is_off_after.ensures run) ∙ c.if-not-is_off_after.true)

pub returns : goal.returns
returns c = λ run. ap (λ (s : Seen). s.loose) (c.seen_after.ensures run)
