use Rattle.std.proofs.Common.{◌≡◌, cond, not, [], ◌∷◌, ◌++◌, append-nil, sym, ap, ◌∙◌}
use Rattle.lvm_num.specs.declared.place.Pp.{Pp}
use Rattle.lvm_num.specs.Descriptor.{partitions_used}
use Rattle.lvm_map.specs.FirstFit.{is_among}
use Rattle.lvm_map.proofs.FirstFitLemmas.UsedMarks.{filter-next}
use Rattle.lvm_move_plan.proofs.free.free_of.Goals as goal
use Rattle.lvm_move_plan.proofs.free.free_of.Goals.{then-not-is_used+in_ok-push, else-not-is_used}

pub loop-k-preserved : goal.loop-k-preserved
loop-k-preserved c =
    let pp : Pp = record { disk = c.args.row.disk; pp = c.loop-k.k } in
    let test : c.is_used.result ≡ is_among (partitions_used c.args.d.now) pp = c.is_used.ensures in
    filter-next (λ (x : Pp). not (is_among (partitions_used c.args.d.now) x)) c.args.row c.loop-k.k c.loop-k.free.items c.if-not-is_used.free.items c.loop-k.invariant
    (elim c.if-not-is_used.branch [
      | then-not-is_used+in_ok-push w ↦
          ap (λ q. q.items) w.free-is
          ∙ w.in_ok-push.ensures.items
          ∙ ap (λ b. c.loop-k.free.items ++ cond (not b) (pp ∷ []) []) (sym w.if-not-is_used.true ∙ test)
      | else-not-is_used w ↦
          ap (λ q. q.items) w.free-is
          ∙ sym (append-nil c.loop-k.free.items)
          ∙ ap (λ b. c.loop-k.free.items ++ cond (not b) (pp ∷ []) []) (sym w.if-not-is_used.false ∙ test)
    ])
