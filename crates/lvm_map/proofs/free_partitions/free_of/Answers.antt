use Rattle.std.proofs.Common.{◌≡◌, cond, not, [], ◌∷◌, ◌++◌, append-nil, sym, ap, ◌∙◌}
use Rattle.lvm_num.specs.declared.place.Pp.{Pp}
use Rattle.lvm_num.specs.Bits.{has_bit}
use Rattle.lvm_num.specs.Marks.{spot}
use Rattle.lvm_map.proofs.FirstFitLemmas.UsedMarks.{filter-next}
use Rattle.lvm_map.proofs.free_partitions.free_of.Goals as goal
use Rattle.lvm_map.proofs.free_partitions.free_of.Goals.{then-not-has_bit+in_ok-push_back, else-not-has_bit}

pub loop-k-preserved : goal.loop-k-preserved
loop-k-preserved c =
    let pp : Pp = record { disk = c.args.row.disk; pp = c.loop-k.k } in
    let test : c.has_bit.result ≡ has_bit c.args.marks.now (spot pp) = c.has_bit.ensures ∙ ap (has_bit c.args.marks.now) c.spot_of.ensures in
    filter-next (λ (x : Pp). not (has_bit c.args.marks.now (spot x))) c.args.row c.loop-k.k c.loop-k.free.items c.if-not-has_bit.free.items c.loop-k.invariant
    (elim c.if-not-has_bit.branch [
      | then-not-has_bit+in_ok-push_back w ↦
          ap (λ q. q.items) w.free-is
          ∙ w.in_ok-push_back.ensures.items
          ∙ ap (λ b. c.loop-k.free.items ++ cond (not b) (pp ∷ []) []) (sym w.if-not-has_bit.true ∙ test)
      | else-not-has_bit w ↦
          ap (λ q. q.items) w.free-is
          ∙ sym (append-nil c.loop-k.free.items)
          ∙ ap (λ b. c.loop-k.free.items ++ cond (not b) (pp ∷ []) []) (sym w.if-not-has_bit.false ∙ test)
    ])
