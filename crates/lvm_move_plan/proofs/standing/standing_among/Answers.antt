use Rattle.std.proofs.Common.{ap, arith}
use Rattle.lvm_move_plan.specs.Standing.{standing_of, listed}
use Rattle.lvm_move_plan.proofs.StandingLemmas.{flat_more}
use Rattle.lvm_move_plan.proofs.standing.standing_among.Goals as goal

pub loop-row-preserved : goal.loop-row-preserved
loop-row-preserved c =
    let row = c.row-item.result in
    flat_more (standing_of c.args.lv (listed c.args.disks.now)) c.as_slice-row-items.result.now c.loop-row.row-index row c.loop-row.copies.items c.add_volume.new.copies.items (standing_of c.args.lv (listed c.args.disks.now) row)
    (omega arith) c.in_ok-add_volume.ensures c.loop-row.invariant (ap (standing_of c.args.lv (listed c.args.disks.now)) c.row-item.is)
