use Rattle.std.proofs.Common.{arith, ◌≤◌, ◌+◌, ◌∙◌, ap}
use Rattle.std.specs.Prelude.{◌==◌, count_by}
use Rattle.lvm_num.specs.declared.place.Pp.{Pp}
use Rattle.lvm_show.proofs.DescriptorLemmas.{counted-small}
use Rattle.lvm_show.proofs.counts.used_on.Goals as goal

pub overflow_add-used : goal.overflow_add-used
overflow_add-used c =
    let small : c.loop-row.used + c.count_on-used.result ≤ 130048 =
    counted-small (λ (pp : Pp). pp.disk == c.args.disk) c.args.d.now c.requires c.as_slice-lvs.result.now c.as_slice-lvs.ensures c.loop-row.row-index c.row-item.result c.loop-row.used c.count_on-used.result c.loop-row-test.true c.row-item.is c.loop-row.invariant
    (c.count_on-used.ensures ∙ ap (count_by (λ (pp : Pp). pp.disk == c.args.disk)) c.as_slice.ensures) in
    omega arith
