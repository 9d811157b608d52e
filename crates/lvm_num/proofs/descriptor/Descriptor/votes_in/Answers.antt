use Rattle.std.proofs.Common.{◌≡◌, ◌+◌, ◌*◌, ◌≤◌, List, false, length, get_or, take, sym, ap, ◌∙◌, arith}
use Rattle.std.specs.Prelude.{if◌then◌else◌, sum_by}
use Rattle.lvm_num.specs.declared.descriptor.PvRow.{PvRow}
use Rattle.lvm_num.specs.Disks.{has}
use Rattle.lvm_num.specs.Votes.{votes_of}
use Rattle.lvm_num.proofs.VotesLemmas.{votes_by-most, counted-more, picks, leaves}
use Rattle.lvm_num.proofs.descriptor.Descriptor.votes_in.Goals as goal
use Rattle.lvm_num.proofs.descriptor.Descriptor.votes_in.Goals.{then-has, else-has}
use Rattle.lvm_num.proofs.DescriptorLemmas.Bounds.{few_members}

abbrev no_row : PvRow
no_row = record { disk = 0; pps = 0; spare = false }

pub overflow_add-votes : goal.overflow_add-votes
overflow_add-votes c =
    let d = c.args.self.now in
    let size : length c.as_slice-row-items.result.now ≡ length d.pvs = ap (length {A = PvRow}) c.as_slice-row-items.ensures in
    omega (arith, size, c.loop-row.invariant.1, few_members d.big, c.requires.head.members, c.votes-votes.ensures, votes_by-most d.even d.pvs (get_or c.as_slice-row-items.result.now c.loop-row.row-index no_row).disk)

pub loop-row-preserved : goal.loop-row-preserved
loop-row-preserved c =
    let d = c.args.self.now in
    let i = c.loop-row.row-index in
    let disks = c.args.disks in
    let disk = (get_or d.pvs i no_row).disk in
    let size : length c.as_slice-row-items.result.now ≡ length d.pvs = ap (length {A = PvRow}) c.as_slice-row-items.ensures in
    let at : (get_or c.as_slice-row-items.result.now i no_row).disk ≡ (get_or d.pvs i no_row).disk = ap (λ (rows : List PvRow). (get_or rows i no_row).disk) c.as_slice-row-items.ensures in
    let more = counted-more (votes_of d) (has disks) d.pvs i no_row (omega (arith, size)) in
    let old : c.loop-row.votes ≡ sum_by (λ (row : PvRow). if has disks row.disk then votes_of d row.disk else 0) (take i d.pvs) = c.loop-row.invariant.0 in
    let most : c.loop-row.votes ≤ 2 * i = c.loop-row.invariant.1 in
    let in-set : c.has.result ≡ has disks disk = c.has.ensures.member ∙ ap (has disks) at in
    let added : (c.if-has.votes ≡ c.loop-row.votes + (if has disks disk then votes_of d disk else 0)) × (c.if-has.votes ≤ 2 * (i + 1)) = elim c.if-has.branch [
      | then-has w ↦
          let own : w.votes-votes.result ≡ votes_of d disk = w.votes-votes.ensures ∙ ap (votes_of d) at in
          let is = picks (has disks disk) (votes_of d disk) 0 (sym in-set ∙ w.if-has.true) in
          (omega (arith, w.votes-is, own, is), omega (arith, w.votes-is, own, most, votes_by-most d.even d.pvs disk))
      | else-has w ↦
          let is = leaves (has disks disk) (votes_of d disk) 0 (sym in-set ∙ w.if-has.false) in
          (omega (arith, w.votes-is, is), omega (arith, w.votes-is, most))
    ] in
    (added.0 ∙ ap (λ n. n + (if has disks disk then votes_of d disk else 0)) old ∙ sym more, added.1)
