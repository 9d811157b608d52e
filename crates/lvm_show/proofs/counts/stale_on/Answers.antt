use Rattle.std.proofs.Common.{arith, ◌≤◌, ◌+◌, ◌∙◌, ap}
use Rattle.std.specs.Prelude.{◌==◌, ◌&&◌, count_by}
use Rattle.lvm_num.specs.declared.place.Pp.{Pp}
use Rattle.lvm_num.specs.Status.{calls_stale}
use Rattle.lvm_show.proofs.DescriptorLemmas.{counted-small}
use Rattle.lvm_show.proofs.counts.stale_on.Goals as goal

pub overflow_add-stale : goal.overflow_add-stale
overflow_add-stale c =
    let small : c.loop-row.stale + c.count_stale_on-stale.result ≤ 130048 =
    counted-small (λ (pp : Pp). pp.disk == c.args.disk && calls_stale c.args.t.now pp) c.args.d.now c.requires c.as_slice-lvs.result.now c.as_slice-lvs.ensures c.loop-row.row-index c.row-item.result c.loop-row.stale c.count_stale_on-stale.result c.loop-row-test.true c.row-item.is c.loop-row.invariant
    (c.count_stale_on-stale.ensures ∙ ap (count_by (λ (pp : Pp). pp.disk == c.args.disk && calls_stale c.args.t.now pp)) c.as_slice.ensures) in
    omega arith
