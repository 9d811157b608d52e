-- The destination of a move may stand in the place of its copy.
use Rattle.std.proofs.Common.{◌≡◌, ◌≢◌, inl, inr, ◌&&◌, ◌==◌, ◌≤◌, ◌<◌, ◌-◌, ◌*◌, ℕ, zero, suc, Bool, true, false, not, if◌then◌else◌, List, [], ◌∷◌, Some, None, drop, get_or, length, slice_get, refl, sym, ap, subst, ◌∙◌, arith}
use Rattle.std.specs.Option.{option_map_or}
use Rattle.std.proofs.lemmas.Bool.{and_from as and_of, cases_lt, eq-eqb, eqb-false}
use Rattle.std.proofs.lemmas.List.{length-take}
use Rattle.std.proofs.lemmas.Map.Keys.{any_passes_from_place}
use Rattle.lvm_num.specs.declared.descriptor.LvRow.{LvRow}
use Rattle.lvm_num.specs.declared.place.Pp.{Pp}
use Rattle.lvm_num.specs.Descriptor.{IsLaidOut, IsValid, copies_of, is_pp}
use Rattle.lvm_num.proofs.Booleans.{not_so}
use Rattle.lvm_num.proofs.Lists.{index_is}
use Rattle.lvm_num.proofs.MarksLemmas.Maps.{find-Some}
use Rattle.lvm_moved.specs.Moved.{MayStandOn}
use Rattle.lvm_session.specs.declared.bringing.OpenCopy.{OpenCopy}
use Rattle.lvm_session.specs.Calls.{copy_at}
use Rattle.lvm_session.specs.Judging.{copies_in}
use Rattle.lvm_session.specs.Sound.{IsCopy, IsMove, IsOfKind}
use Rattle.lvm_session.specs.State.{Core}
use Rattle.lvm_keeps_events.proofs.EndsLemmas.CopyReadFail.{pp_is}
use Rattle.lvm_move_keeps.specs.Moved.{MoveHasMoved}
use Rattle.lvm_move_keeps.proofs.MovedLemmas.{has_moved}

below : {X : Type 0} (xs : List X) (k : ℕ) (x : X) → slice_get xs k ≡ Some x → k < length xs
below [] k x at = absurd (cc at)
below (y ∷ xs) zero x at = omega arith
below (y ∷ xs) (suc k) x at = let rest = below xs k x at in omega (arith, rest)

module _ (core : Core) (c : OpenCopy) (valid : IsValid core.descriptor) (its : IsCopy core c) (moves : c.moves ≡ true) where
  move : IsMove core c
  move = subst (λ b. IsOfKind b core c) moves its.kind

  abbrev copies : List Pp
  copies = copies_of its.row c.lp

  copies_is : copies_in core.descriptor c.lv c.lp ≡ copies
  copies_is = ap (λ m. option_map_or (λ (r : LvRow). copies_of r c.lp) m []) its.volume

  place : (1 ≤ c.copy) × (slice_get copies (c.copy - 1) ≡ Some move.from)
  place = by (c.copy == 0) refl (ap (λ ps. copy_at ps c.copy) (sym copies_is) ∙ move.its)
    where
      by : (b : Bool) → (c.copy == 0) ≡ b → (if b then None else slice_get copies (c.copy - 1)) ≡ Some move.from → (1 ≤ c.copy) × (slice_get copies (c.copy - 1) ≡ Some move.from)
      by true e at = absurd (cc at)
      by false e at = let apart = eqb-false c.copy 0 e in (omega (arith, apart), at)

  few : c.copy ≤ its.row.copies
  few =
      let low = below copies (c.copy - 1) move.from place.1 in
      let some = place.0 in
      let long = length-take its.row.copies (drop (c.lp * its.row.copies) its.row.map) in
      omega (arith, low, some, long)

  found : ((its.row.number == c.lv) ≡ true) × ((k : ℕ) × (k < length core.descriptor.lvs) × ((e : LvRow) → get_or core.descriptor.lvs k e ≡ its.row))
  found = find-Some (λ (r : LvRow). r.number == c.lv) core.descriptor.lvs its.row its.volume

  laid : IsLaidOut its.row
  laid = subst IsLaidOut (found.1.2 its.row) (valid.maps.laid_out found.1.0 its.row found.1.1)

  -- two copies stand on different disks
  differ : (i j : ℕ) (p : Pp) → i < j → slice_get copies i ≡ Some p → slice_get copies j ≡ Some p → ⊥
  differ i j p less one two = laid.strict c.lp its.lp i j p less (below copies j p two) (ap (λ (q : Pp). q.disk) (index_is copies i p p one ∙ sym (index_is copies j p p two)))

  other : (k : ℕ) (p : Pp) → slice_get copies k ≡ Some p → k ≢ c.copy - 1 → is_pp p move.from ≡ false
  other k p at apart = by (is_pp p move.from) refl
    where
      by : (b : Bool) → is_pp p move.from ≡ b → is_pp p move.from ≡ false
      by false e = e
      by true e =
          let same : p ≡ move.from = sym (pp_is p move.from e) in
          let its_place : slice_get copies (c.copy - 1) ≡ Some p = place.1 ∙ ap (λ (q : Pp). Some q) (sym same) in
          elim (cases_lt k (c.copy - 1)) [
            | inl low ↦ absurd (differ k (c.copy - 1) p low at its_place)
            | inr high ↦ elim (cases_lt (c.copy - 1) k) [
              | inl past ↦ absurd (differ (c.copy - 1) k p past its_place at)
              | inr equal ↦ absurd (apart (omega (arith, high, equal)))
            ]
          ]

  pub may_stand : MayStandOn core.descriptor c.lv c.lp c.copy c.pp
  may_stand = record {
    row = its.row;
    volume = its.volume;
    within = its.lp;
    some = place.0;
    copy = few;
    free = move.free;
    inside = (move.member, move.member_is, move.inside);
    apart = λ k p at elsewhere same. not_so (sym move.apart ∙ any_passes_from_place (λ (q : Pp). not (is_pp q move.from) && q.disk == c.pp.disk) (copies_in core.descriptor c.lv c.lp) k p (ap (λ ps. slice_get ps k) copies_is ∙ at)
        (and_of (not (is_pp p move.from)) (p.disk == c.pp.disk) (ap not (other k p at elsewhere)) (eq-eqb p.disk c.pp.disk same)));
  }

pub move_has_moved : MoveHasMoved
move_has_moved core c valid its moves = has_moved core.descriptor c.lv c.lp c.copy c.pp valid (may_stand core c valid its moves)
