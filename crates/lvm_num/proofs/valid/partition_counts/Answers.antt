use Rattle.std.proofs.Common.{◌≡◌, ◌≤◌, ◌+◌, false, get_or, set, take, refl, sym, ap, subst, ◌∙◌, arith}
use Rattle.std.proofs.lemmas.Bool.{false≢true}
use Rattle.std.proofs.Math.ListN.{length-set}
use Rattle.std.proofs.lemmas.List.Elements.{All-set}
use Rattle.lvm_num.specs.declared.descriptor.PvRow.{PvRow}
use Rattle.lvm_num.specs.Descriptor.{IsMember}
use Rattle.lvm_num.specs.Marks.{AreCounts}
use Rattle.lvm_num.proofs.MarksLemmas.Members.{counts-none, small-none, members-more, counts-more, counts-nothing}
use Rattle.lvm_num.proofs.valid.partition_counts.Goals as goal
use Rattle.lvm_num.proofs.valid.partition_counts.Goals.{then-disk-ge-PLACES-via-then-disk-ge-PLACES, then-disk-ge-PLACES-via-else-disk-ge-PLACES+then-row-eq0, then-disk-ge-PLACES-via-else-disk-ge-PLACES+else-row-eq0+then-row-gt-MOST_PARTITIONS, then-disk-ge-PLACES-via-else-disk-ge-PLACES+else-row-eq0+else-row-gt-MOST_PARTITIONS+then-counts-disk-ne0}

abbrev no_row : PvRow
no_row = record { disk = 0; pps = 0; spare = false }

pub loop-row-init : goal.loop-row-init
loop-row-init c = (record { each = λ k d lt. absurd (omega (arith, lt)); disks_differ = λ i j d less lt. absurd (omega (arith, lt)) }, counts-none 128, small-none 128, refl)

pub returns-then-disk-ge-PLACES-clause-members : goal.returns-then-disk-ge-PLACES-clause-members
returns-then-disk-ge-PLACES-clause-members c = (
  λ e. absurd (false≢true e),
  λ all.
      let pvs = c.args.pvs.now in
      let i = c.loop-row.row-index in
      let here = all.each i no_row (omega arith) in
      absurd (elim c.then-disk-ge-PLACES.branch [
        | then-disk-ge-PLACES-via-then-disk-ge-PLACES w ↦ omega (arith, here.disk, w.if-disk-ge-PLACES.true)
        | then-disk-ge-PLACES-via-else-disk-ge-PLACES+then-row-eq0 w ↦ omega (arith, here.a_partition, w.if-row-eq0.true)
        | then-disk-ge-PLACES-via-else-disk-ge-PLACES+else-row-eq0+then-row-gt-MOST_PARTITIONS w ↦ omega (arith, here.partitions, w.if-row-gt-MOST_PARTITIONS.true)
        | then-disk-ge-PLACES-via-else-disk-ge-PLACES+else-row-eq0+else-row-gt-MOST_PARTITIONS+then-counts-disk-ne0 w ↦
            w.if-counts-disk-ne0.true (ap (λ n. get_or c.loop-row.counts n 0) c.from-disk.ensures ∙ counts-nothing pvs i c.loop-row.counts no_row (omega arith) all c.loop-row.invariant.1)
      ]),
)

pub loop-row-preserved : goal.loop-row-preserved
loop-row-preserved c =
    let pvs = c.args.pvs.now in
    let i = c.loop-row.row-index in
    let counts = c.loop-row.counts in
    let row = get_or pvs i no_row in
    let none : get_or counts row.disk 0 ≡ 0 = ap (λ n. get_or counts n 0) (sym c.from-disk.ensures) ∙ c.if-counts-disk-ne0.false in
    let member : IsMember (get_or pvs i no_row) = record { disk = omega arith; a_partition = omega arith; partitions = omega arith } in (
      members-more pvs i counts no_row (omega arith) c.loop-row.invariant.0 c.loop-row.invariant.1 member none,
      subst (λ n. AreCounts (take (i + 1) pvs) (set counts n row.pps)) (sym c.from-disk.ensures)
          (counts-more pvs i counts no_row (omega arith) c.loop-row.invariant.0 c.loop-row.invariant.1 none (omega (arith, c.loop-row.invariant.3))),
      All-set (λ count. count ≤ 1016) counts c.from-disk.result row.pps (omega arith) c.loop-row.invariant.2,
      length-set counts c.from-disk.result row.pps ∙ c.loop-row.invariant.3,
    )
