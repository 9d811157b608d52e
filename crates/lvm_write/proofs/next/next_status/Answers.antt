use Rattle.std.proofs.Common.{◌≡◌, ◌≤◌, List, length, refl, sym, subst}
use Rattle.std.specs.Prelude.{All}
use Rattle.lvm_num.specs.declared.descriptor.LvRow.{LvRow}
use Rattle.lvm_num.specs.declared.status.StatusRow.{StatusRow}
use Rattle.lvm_num.specs.declared.status.Status.{Status}
use Rattle.lvm_num.specs.Descriptor.{partitions_in}
use Rattle.lvm_num.specs.Disks.{has}
use Rattle.lvm_status.specs.Marking.{IsLeftIn, MarksLost, HasMark}
use Rattle.lvm_write.specs.Next.{IsNextStatus}
use Rattle.lvm_write.specs.Rows.{AreMemberRows}
use Rattle.lvm_write.proofs.NextLemmas.{first_valid, all_markable, next_is, passive_as, ok_more}
use Rattle.lvm_write.proofs.next.next_status.Goals as goal

pub from_status-requires : goal.from_status-requires
from_status-requires c =
    first_valid c.args.group.now c.requires.descriptor (has c.args.answering) c.args.was.now c.requires.status
    (record { id = c.args.group.now.id; big = c.args.group.now.big; dirty = c.in_ok-dirty.dirty; rows = c.new.result })
    (subst (AreMemberRows c.args.group.now (has c.args.answering) c.args.was.now 128) (sym c.new.ensures) c.in_ok-rows.ensures.rows)
    (subst (λ (rows : List StatusRow). length rows ≤ length c.args.group.now.pvs) (sym c.new.ensures) c.in_ok-rows.ensures.fit)
    refl refl
    (passive_as c.in_ok-dirty.dirty c.as_slice.result.now c.as_slice-2.result.now c.args.group.now c.args.was.now c.as_slice.ensures c.as_slice-2.ensures c.in_ok-dirty.ensures)

pub mark_volumes-requires-clause-markable : goal.mark_volumes-requires-clause-markable
mark_volumes-requires-clause-markable c =
    subst (λ (s : Status). All (HasMark s) (partitions_in c.as_slice-3.result.now)) (sym c.in_ok-table.ensures)
    (subst (λ (rows : List LvRow). All (HasMark (record { id = c.args.group.now.id; big = c.args.group.now.big; dirty = c.in_ok-dirty.dirty; rows = c.new.result })) (partitions_in rows)) (sym c.as_slice-3.ensures)
    (all_markable c.args.group.now c.requires.descriptor (has c.args.answering) c.args.was.now c.requires.status
    (record { id = c.args.group.now.id; big = c.args.group.now.big; dirty = c.in_ok-dirty.dirty; rows = c.new.result })
    (subst (AreMemberRows c.args.group.now (has c.args.answering) c.args.was.now 128) (sym c.new.ensures) c.in_ok-rows.ensures.rows)
    (subst (λ (rows : List StatusRow). length rows ≤ length c.args.group.now.pvs) (sym c.new.ensures) c.in_ok-rows.ensures.fit)
    refl refl
    (passive_as c.in_ok-dirty.dirty c.as_slice.result.now c.as_slice-2.result.now c.args.group.now c.args.was.now c.as_slice.ensures c.as_slice-2.ensures c.in_ok-dirty.ensures)))

pub returns : goal.returns
returns c stamp =
    let first : Status = record { id = c.args.group.now.id; big = c.args.group.now.big; dirty = c.in_ok-dirty.dirty; rows = c.new.result } in
    let marks : MarksLost (has c.args.answering) (IsLeftIn (has c.args.answering) first c.args.group.now.lvs) first c.mark_volumes.new.table =
    subst (λ (s : Status). MarksLost (has c.args.answering) (IsLeftIn (has c.args.answering) s c.args.group.now.lvs) s c.mark_volumes.new.table) c.in_ok-table.ensures
    (subst (λ (rows : List LvRow). MarksLost (has c.args.answering) (IsLeftIn (has c.args.answering) c.in_ok-table.table rows) c.in_ok-table.table c.mark_volumes.new.table) c.as_slice-3.ensures c.mark_volumes.ensures) in
    ok_more (λ (s : Status). s ≡ c.mark_volumes.new.table) (IsNextStatus c.args.group.now (has c.args.answering) (record { stamp = stamp; value = c.args.was.now })) c.status.result
    (λ s same. subst (IsNextStatus c.args.group.now (has c.args.answering) (record { stamp = stamp; value = c.args.was.now })) (sym same)
    (next_is c.args.group.now c.requires.descriptor (has c.args.answering) c.args.was.now c.requires.status first
    (subst (AreMemberRows c.args.group.now (has c.args.answering) c.args.was.now 128) (sym c.new.ensures) c.in_ok-rows.ensures.rows)
    (subst (λ (rows : List StatusRow). length rows ≤ length c.args.group.now.pvs) (sym c.new.ensures) c.in_ok-rows.ensures.fit)
    refl refl
    (passive_as c.in_ok-dirty.dirty c.as_slice.result.now c.as_slice-2.result.now c.args.group.now c.args.was.now c.as_slice.ensures c.as_slice-2.ensures c.in_ok-dirty.ensures)
    stamp c.mark_volumes.new.table marks))
    c.status.ensures.same
