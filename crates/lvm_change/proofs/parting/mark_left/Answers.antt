use Rattle.std.proofs.Common.{List, sym, subst}
use Rattle.std.specs.Prelude.{All}
use Rattle.lvm_num.specs.declared.descriptor.LvRow.{LvRow}
use Rattle.lvm_num.specs.Descriptor.{partitions_in}
use Rattle.lvm_status.specs.passed.Status.{HasMark}
use Rattle.lvm_commit.proofs.RoundsLemmas.Leaving.{all_markable}
use Rattle.lvm_change.proofs.parting.mark_left.Goals as goal

pub mark_left-requires-clause-markable : goal.mark_left-requires-clause-markable
mark_left-requires-clause-markable c =
    subst (λ (rows : List LvRow). All (HasMark c.args.updater.now.wanted) (partitions_in rows)) (sym c.as_slice.ensures) (all_markable c.args.d.now c.args.updater.now c.requires.valid c.requires.own c.requires.rows)
