use Rattle.std.proofs.Common.{sym, subst}
use Rattle.std.specs.Prelude.{All}
use Rattle.lvm_num.specs.declared.descriptor.LvRow.{LvRow}
use Rattle.lvm_num.specs.Disks.{has}
use Rattle.lvm_status.specs.Marking.{HasMark}
use Rattle.lvm_status.proofs.MarkingLemmas.{markable_same, markable_row, volumes_more}
use Rattle.lvm_status.proofs.mark.mark_volumes.Goals as goal

pub mark_volume-requires-clause-markable : goal.mark_volume-requires-clause-markable
mark_volume-requires-clause-markable c =
    let i = c.loop-volume.volume-index in
    markable_same c.args.table.now c.loop-volume.table c.volume-item.result.map c.loop-volume.invariant.members
    (subst (λ (row : LvRow). All (HasMark c.args.table.now) row.map) (sym c.volume-item.is) (markable_row c.args.table.now c.args.volumes.now i c.volume-item.result c.loop-volume-test.true c.requires.markable))

pub loop-volume-preserved : goal.loop-volume-preserved
loop-volume-preserved c =
    volumes_more (has c.args.answering) c.args.table.now c.loop-volume.table c.mark_volume.new.table c.args.volumes.now c.loop-volume.volume-index c.volume-item.result c.loop-volume-test.true c.volume-item.is
    c.loop-volume.invariant c.mark_volume.ensures
