use Rattle.std.proofs.Common.{◌≡◌, ◌||◌, List, length, get_or, take, sym, ap, subst, ◌∙◌, arith, rules}
use Rattle.std.specs.Prelude.{◌==◌, All}
use Rattle.std.specs.List.{list_any}
use Rattle.std.proofs.lemmas.List.{take_all}
use Rattle.lvm_num.specs.declared.place.Pp.{Pp}
use Rattle.lvm_num.specs.declared.descriptor.LvRow.{LvRow}
use Rattle.lvm_num.specs.Bits.{has_bit}
use Rattle.lvm_num.specs.Descriptor.{partitions_in}
use Rattle.lvm_num.specs.Marks.{spot}
use Rattle.lvm_num.proofs.BitsLemmas.{has-none}
use Rattle.lvm_num.proofs.MarksLemmas.Marks.{marked-map}
use Rattle.lvm_map.specs.FreePartitions.{IsBounded}
use Rattle.lvm_map.proofs.FirstFitLemmas.UsedMarks.{map_bounded}
use Rattle.lvm_map.proofs.free_partitions.used_marks.Goals as goal

pub loop-row-init : goal.loop-row-init
loop-row-init c = λ k. search rules

pub mark_all-requires : goal.mark_all-requires
mark_all-requires c =
    let row = c.row-item.result in
    let i = c.loop-row.row-index in
    let lvs = c.as_slice-row-items.ensures in
    let there : get_or c.args.d.now.lvs i row ≡ row = ap (λ (rows : List LvRow). get_or rows i row) (sym lvs) ∙ sym c.row-item.is in
    let size = ap (λ (rows : List LvRow). length rows) lvs in
    rw c.as_slice.ensures (subst (λ (r : LvRow). All IsBounded r.map) there (map_bounded c.args.d.now c.requires i row (omega arith)))

pub loop-row-preserved : goal.loop-row-preserved
loop-row-preserved c =
    let row = c.row-item.result in
    let i = c.loop-row.row-index in
    let rows = c.as_slice-row-items.result.now in
    let map : c.as_slice.result.now ≡ (get_or rows i row).map = c.as_slice.ensures ∙ ap (λ (r : LvRow). r.map) c.row-item.is in
    marked-map _ c.loop-row.marks c.mark_all.new.marks rows i row (omega arith) c.loop-row.invariant
    (λ k. c.mark_all.ensures k ∙ ap (λ (pps : List Pp). has_bit c.loop-row.marks k || list_any (λ (pp : Pp). k == spot pp) pps) map)

pub returns : goal.returns
returns c = λ k.
    let rows = c.as_slice-row-items.result.now in
    let whole : take c.loop-row.row-index rows ≡ rows = take_all c.loop-row.row-index rows (omega arith) in
    c.loop-row.invariant k
    ∙ ap (λ b. b || list_any (λ (pp : Pp). k == spot pp) (partitions_in (take c.loop-row.row-index rows))) (has-none 16256 k)
    ∙ ap (λ (rs : List LvRow). list_any (λ (pp : Pp). k == spot pp) (partitions_in rs)) (whole ∙ c.as_slice-row-items.ensures)
