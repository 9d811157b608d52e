use Rattle.std.proofs.Common.{◌≡◌, ◌≤◌, List, length, map, take, get_or, sym, ap, subst, ◌∙◌, arith, Global}
use Rattle.std.specs.Prelude.{All, sum_by}
use Rattle.std.specs.declared.collections.VecDeque.{VecDeque}
use Rattle.std.proofs.lemmas.List.{length-map, take_all}
use Rattle.std.proofs.lemmas.List.Sums.{sum_by_more}
use Rattle.lvm_num.specs.declared.place.Pp.{Pp}
use Rattle.lvm_map.proofs.FreePartitionsLemmas.Members.{list_at, sum-lists}
use Rattle.lvm_map.proofs.free_partitions.FreePartitions.free.Goals as goal

abbrev items : VecDeque Pp Global → List Pp
items free = free.items

-- how many partitions of this member are free
size : (c : goal.After-len) → c.len.result ≡ length (get_or c.deref-member-items.result.now c.loop-member.member-index c.member-item.result).items
size c = omega (arith, c.len.ensures, c.member-item.result.ok, ap (λ (q : VecDeque Pp Global). length q.items) c.member-item.is)

small : (c : goal.After-len) → c.len.result ≤ 1016
small c =
    let all : All (λ (free : List Pp). length free ≤ 1016) (map items c.self.inside.members.items) = rw (c.self.view_is) c.requires.each in
    let here = list_at items c.deref-member-items.result.now c.loop-member.member-index c.member-item.result (omega arith)
    (subst (λ (qs : List (VecDeque Pp Global)). All (λ (free : List Pp). length free ≤ 1016) (map items qs)) (sym c.deref-member-items.ensures.value) all) in
    omega (arith, here, size c)

pub overflow_cast-free : goal.overflow_cast-free
overflow_cast-free c = omega (arith, small c)

pub overflow_add-free : goal.overflow_add-free
overflow_add-free c =
    let count = ap (λ (lists : List (List Pp)). length lists) c.self.view_is in
    let members : length c.deref-member-items.result.now ≤ 128 =
    omega (arith, c.requires.members, count, length-map c.self.inside.members.items items, ap (λ (qs : List (VecDeque Pp Global)). length qs) c.deref-member-items.ensures.value) in
    omega (arith, small c)

pub loop-member-preserved : goal.loop-member-preserved
loop-member-preserved c = record {
  is =
      let next = sum_by_more (λ (q : VecDeque Pp Global). length q.items) c.deref-member-items.result.now c.loop-member.member-index c.member-item.result (omega arith) in
      omega (arith, next, size c);
  most = omega (arith, small c);
}

pub returns : goal.returns
returns c =
    let qs = c.deref-member-items.result.now in
    let whole : take c.loop-member.member-index qs ≡ qs = take_all c.loop-member.member-index qs (omega arith) in
    rw (← c.self.view_is)
    (c.loop-member.invariant.is
    ∙ ap (λ (them : List (VecDeque Pp Global)). sum_by (λ (q : VecDeque Pp Global). length q.items) them) (whole ∙ c.deref-member-items.ensures.value)
    ∙ sym (sum-lists items c.self.inside.members.items))
