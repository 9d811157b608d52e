use Rattle.std.proofs.Common.{arith, ◌≤◌, ◌+◌}
use Rattle.lvm_num.specs.Status.{calls_stale}
use Rattle.lvm_show.proofs.DescriptorLemmas.{counted-small}
use Rattle.lvm_show.proofs.counts.all_stale.Goals as goal

pub overflow_add-stale : goal.overflow_add-stale
overflow_add-stale c =
    let small : c.loop-row.stale + c.stale_in-stale.result ≤ 130048 =
    counted-small (calls_stale c.args.t.now) c.args.d.now c.requires c.as_slice-lvs.result.now c.as_slice-lvs.ensures c.loop-row.row-index c.row-item.result c.loop-row.stale c.stale_in-stale.result c.loop-row-test.true c.row-item.is c.loop-row.invariant
    (c.stale_in-stale.ensures) in
    omega arith
