use Rattle.std.proofs.Common.{ℕ, List, length, take, sym, ap, subst, arith}
use Rattle.std.specs.Prelude.{All, not}
use Rattle.std.proofs.lemmas.List.Elements.{All-take}
use Rattle.lvm_num.specs.declared.status.Status.{Status}
use Rattle.lvm_num.specs.Status.{IsVolumeNumber}
use Rattle.lvm_num.proofs.DescriptorLemmas.Bounds.{few_dirty}
use Rattle.lvm_volumes.specs.Tidying.{needs_mark}
use Rattle.lvm_volumes.proofs.TidyingLemmas.{all_rest}
use Rattle.lvm_volumes.proofs.tidying.unneeded.Goals as goal

pub push-requires : goal.push-requires
push-requires c =
    let few = few_dirty c.as_status.result.now.dirty c.as_status.ensures.valid.dirty in
    let size = ap (λ (ns : List ℕ). length ns) c.as_slice-number-items.ensures in
    (omega arith, omega (arith, c.loop-number.invariant.count, c.loop-number-test.true, size, few))

pub returns-clause-numbers : goal.returns-clause-numbers
returns-clause-numbers c =
    let s : Status = c.args.table.now in
    let each : All IsVolumeNumber s.dirty = subst (λ (x : Status). All IsVolumeNumber x.dirty) c.as_status.ensures.same c.as_status.ensures.valid.dirty.each in
    subst (All IsVolumeNumber) (sym c.loop-number.invariant.kept)
    (all_rest IsVolumeNumber (λ n. not (needs_mark c.args.group.now.lvs s n)) (take c.loop-number.number-index s.dirty) (All-take IsVolumeNumber c.loop-number.number-index s.dirty each))
