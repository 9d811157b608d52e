use Rattle.std.proofs.Common.{refl}
use Rattle.lvm_move_plan.specs.Standing.{standing_with, listed}
use Rattle.lvm_move_plan.proofs.StandingLemmas.{part_more}
use Rattle.lvm_move_plan.proofs.standing.add_volume.Goals as goal

pub loop-lp-preserved : goal.loop-lp-preserved
loop-lp-preserved c =
    part_more (standing_with (listed c.args.disks.now) c.args.row.now) c.args.copies.now.items c.loop-lp.copies.items c.add_partition.new.copies.items (standing_with (listed c.args.disks.now) c.args.row.now c.loop-lp.lp) c.loop-lp.lp
    c.in_ok-add_partition.ensures c.loop-lp.invariant refl
