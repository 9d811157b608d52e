use Rattle.std.proofs.Common.{◌≡◌, ◌<◌, cond, List, [], ◌∷◌, ◌++◌, append-nil, length, map, take, get_or, sym, ap, ◌∙◌, arith, Global, Vec}
use Rattle.std.specs.Prelude.{filter}
use Rattle.std.specs.declared.collections.VecDeque.{VecDeque}
use Rattle.std.proofs.lemmas.List.{map-append, take_all}
use Rattle.lvm_num.specs.declared.place.Pp.{Pp}
use Rattle.lvm_num.specs.declared.descriptor.PvRow.{PvRow}
use Rattle.lvm_num.specs.Descriptor.{IsMember, partitions_used}
use Rattle.lvm_num.specs.Disks.{has}
use Rattle.lvm_map.specs.FirstFit.{free_of, may_take}
use Rattle.lvm_map.proofs.FirstFitLemmas.UsedMarks.{used_bounded, marks_free}
use Rattle.lvm_map.proofs.FreePartitionsLemmas.Members.{no_row, gathered, member_at}
use Rattle.lvm_map.proofs.free_partitions.FreePartitions.of.Goals as goal
use Rattle.lvm_map.proofs.free_partitions.FreePartitions.of.Goals.{then-may_take+in_ok-free_of+in_ok-push, else-may_take}

abbrev items : VecDeque Pp Global → List Pp
items free = free.items

pub may_take-requires : goal.may_take-requires
may_take-requires c = (member_at c.args.d.now c.requires c.as_slice-row-items.result.now c.as_slice-row-items.ensures c.loop-row.row-index (omega arith)).disk

pub free_of-requires : goal.free_of-requires
free_of-requires c = member_at c.args.d.now c.requires c.as_slice-row-items.result.now c.as_slice-row-items.ensures c.loop-row.row-index (omega arith)

pub loop-row-preserved : goal.loop-row-preserved
loop-row-preserved c =
    let rows = c.as_slice-row-items.result.now in
    let i = c.loop-row.row-index in
    let used = partitions_used c.args.d.now in
    let row = get_or rows i no_row in
    let lt : i < length rows = omega arith in
    let member : IsMember row = member_at c.args.d.now c.requires rows c.as_slice-row-items.ensures i lt in
    let test : c.may_take.result ≡ may_take (has c.args.usable) [] row = c.may_take.ensures in
    gathered (free_of used) (may_take (has c.args.usable) []) rows i no_row (map items c.loop-row.members.items) (map items c.if-may_take.members.items) lt c.loop-row.invariant
    (elim c.if-may_take.branch [
      | then-may_take+in_ok-free_of+in_ok-push w ↦
          let own : items w.in_ok-free_of.field-0 ≡ free_of used row =
          w.in_ok-free_of.ensures
          ∙ marks_free c.used_marks-marks.result used row c.used_marks-marks.ensures (used_bounded c.args.d.now c.requires) member.partitions in
          ap (λ (v : Vec (VecDeque Pp Global) Global). map items v.items) w.members-is
          ∙ ap (λ (qs : List (VecDeque Pp Global)). map items qs) w.in_ok-push.ensures.items
          ∙ map-append items c.loop-row.members.items (w.in_ok-free_of.field-0 ∷ [])
          ∙ ap (λ (free : List Pp). map items c.loop-row.members.items ++ free ∷ []) own
          ∙ ap (λ b. map items c.loop-row.members.items ++ cond b (free_of used row ∷ []) []) (sym w.if-may_take.true ∙ test)
      | else-may_take w ↦
          ap (λ (v : Vec (VecDeque Pp Global) Global). map items v.items) w.members-is
          ∙ sym (append-nil (map items c.loop-row.members.items))
          ∙ ap (λ b. map items c.loop-row.members.items ++ cond b (free_of used row ∷ []) []) (sym w.if-may_take.false ∙ test)
    ])

pub returns : goal.returns
returns c =
    let rows = c.as_slice-row-items.result.now in
    let whole : take c.loop-row.row-index rows ≡ rows = take_all c.loop-row.row-index rows (omega arith) in
    c.loop-row.invariant
    ∙ ap (λ (rs : List PvRow). map (free_of (partitions_used c.args.d.now)) (filter (may_take (has c.args.usable) []) rs)) (whole ∙ c.as_slice-row-items.ensures)
