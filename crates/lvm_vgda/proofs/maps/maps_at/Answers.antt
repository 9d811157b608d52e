use Rattle.std.proofs.Common.{◌≡◌, ◌*◌, ◌+◌, ◌<◌, ◌≤◌, ◌++◌, ◌∷◌, ℕ, [], List, length, set, take, drop, Result, Ok, refl, sym, ap, subst, ◌∙◌, arith}
use Rattle.std.proofs.lemmas.List.{drop_all, take_all, length-set}
use Rattle.std.proofs.lemmas.Result.{err_from_is_err_and}
use Rattle.lvm_num.specs.declared.place.Pp.{Pp}
use Rattle.lvm_num.specs.declared.descriptor.LvRow.{LvRow}
use Rattle.lvm_num.specs.Descriptor.{partitions_in}
use Rattle.lvm_num.specs.DescriptorBytes.{partitions_at, maps_at}
use Rattle.lvm_num.specs.Reading.{Rest}
use Rattle.lvm_vgda.specs.passed.Fields.{rest_of, Fails}
use Rattle.lvm_vgda.specs.Used.{Uses}
use Rattle.lvm_vgda.proofs.DescriptorBytesLemmas.MapLoops.{same_partitions, mapped, with_front, taken, taken_partitions, left_over, next_row, maps_go_on, maps_end, maps_done, own_copies}
use Rattle.lvm_vgda.proofs.maps.maps_at.Goals as goal

pub partitions_at-requires-clause-copies : goal.partitions_at-requires-clause-copies
partitions_at-requires-clause-copies c =
    let old = c.loop-k.rows.items in
    let some = own_copies c.args.rows.items c.loop-k.rows.items c.loop-k.k c.index-row.result.now (omega arith) c.requires.copies c.index-row.ensures c.loop-k.invariant.left in
    omega (arith, some, c.from-copies.ensures)

pub returns-in_err-map : goal.returns-in_err-map
returns-in_err-map c =
    let p = err_from_is_err_and c.from_residual.result c.from_residual.ensures.1 in
    let row = c.index-row.result.now in
    let old = c.loop-k.rows.items in
    let used = partitions_in (take c.loop-k.k old) in
    let lt : c.loop-k.k < length c.loop-k.rows.items = omega (arith, c.loop-k.invariant.size, c.len-k-end.ensures) in
    let there = next_row old c.loop-k.k row row [] [] lt c.index-row.ensures c.index-row.ensures refl c.args.rows.items c.loop-k.invariant.left in
    let fails : Fails c.in_err-map.field-0.0 (partitions_at c.args.members.now (partitions_in (take c.loop-k.k c.loop-k.rows.items)) c.from-copies.result (c.from.result * c.from-in-loop-k.result) [] (rest_of c.loop-k.rest)) =
    c.in_err-map.ensures.read used c.loop-k.invariant.used in
    let same = same_partitions c.args.members.now used row.copies row.lps c.from-copies.result c.from.result c.from-in-loop-k.result (rest_of c.loop-k.rest) c.from-copies.ensures c.from.ensures c.from-in-loop-k.ensures in
    rw (p.1, p.2)
    (maps_end c.args.members.now used c.args.rows.items c.loop-k.k row (rest_of c.loop-k.rest) (take c.loop-k.k old) (maps_at c.args.members.now [] c.args.rows.items (rest_of c.args.unread)) there c.loop-k.invariant.read
    c.in_err-map.field-0.0 (subst (λ (read : Result (List Pp × Rest) ℕ). Fails c.in_err-map.field-0.0 read) same fails))

pub loop-k-preserved : goal.loop-k-preserved
loop-k-preserved c =
    let row = c.index-row.result.now in
    let seen = c.index_mut.result.now in
    let old = c.loop-k.rows.items in
    let k = c.loop-k.k in
    let own = c.in_ok-map.map.items in
    let map = c.new.result in
    let all = c.args.rows.items in
    let total = maps_at c.args.members.now [] c.args.rows.items (rest_of c.args.unread) in
    let used = partitions_in (take k old) in
    let lt : c.loop-k.k < length c.loop-k.rows.items = omega (arith, c.loop-k.invariant.size, c.len-k-end.ensures) in
    let parts = taken_partitions old k row seen own map lt c.index-row.ensures c.index_mut.ensures.value c.new.ensures in
    let front = taken old k row seen own map lt c.index-row.ensures c.index_mut.ensures.value c.new.ensures in
    let there = next_row old k row seen own map lt c.index-row.ensures c.index_mut.ensures.value c.new.ensures all c.loop-k.invariant.left in
    let read : partitions_at c.args.members.now (partitions_in (take c.loop-k.k c.loop-k.rows.items)) c.from-copies.result (c.from.result * c.from-in-loop-k.result) [] (rest_of c.loop-k.rest) ≡ Ok (c.in_ok-map.map.items, rest_of c.in_ok-map.after) =
    c.in_ok-map.ensures.read used c.loop-k.invariant.used in
    let same = same_partitions c.args.members.now used row.copies row.lps c.from-copies.result c.from.result c.from-in-loop-k.result (rest_of c.loop-k.rest) c.from-copies.ensures c.from.ensures c.from-in-loop-k.ensures in
    let next = maps_go_on c.args.members.now used all k row (rest_of c.loop-k.rest) (take k old) total there c.loop-k.invariant.read own (rest_of c.in_ok-map.after) (sym same ∙ read) in
    record {
      size = length-set old k (mapped seen map) ∙ c.loop-k.invariant.size;
      left = left_over old k row seen own map lt c.index-row.ensures c.index_mut.ensures.value c.new.ensures all c.loop-k.invariant.left;
      used = subst (Uses c.partitions_at.new.used) (sym parts) (c.in_ok-map.ensures.used used c.loop-k.invariant.used);
      read =
          ap (λ (rows : List LvRow). with_front rows (maps_at c.args.members.now (partitions_in (take (k + 1) (set old k (mapped seen map)))) (drop (k + 1) all) (rest_of c.in_ok-map.after))) front
          ∙ ap (λ (pps : List Pp). with_front (take k old ++ mapped row own ∷ []) (maps_at c.args.members.now pps (drop (k + 1) all) (rest_of c.in_ok-map.after))) parts
          ∙ next;
    }

pub returns : goal.returns
returns c =
    let old = c.loop-k.rows.items in
    let long : length c.args.rows.items ≤ c.loop-k.k = omega (arith, c.len-k-end.ensures) in
    let none : drop c.loop-k.k c.args.rows.items ≡ [] = drop_all c.loop-k.k c.args.rows.items long in
    let whole : take c.loop-k.k c.loop-k.rows.items ≡ c.loop-k.rows.items = take_all c.loop-k.k c.loop-k.rows.items (omega (arith, long, c.loop-k.invariant.size)) in
    maps_done c.args.members.now (partitions_in (take c.loop-k.k old)) (drop c.loop-k.k c.args.rows.items) (rest_of c.loop-k.rest) (take c.loop-k.k old) (maps_at c.args.members.now [] c.args.rows.items (rest_of c.args.unread)) none c.loop-k.invariant.read
    ∙ ap (λ (rows : List LvRow). Ok (rows, rest_of c.loop-k.rest)) whole
