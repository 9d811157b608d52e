-- The volumes of a valid group are laid out, and what any of its maps has is used.
use Rattle.std.proofs.Common.{◌≡◌, ℕ, zero, suc, ◌+◌, ◌<◌, ◌≤◌, Bool, ◌||◌, List, [], ◌∷◌, ◌++◌, length, get_or, take, flat_map, Some, None, true, false, cond, refl, sym, ap, subst, ◌∙◌, arith}
use Rattle.std.specs.Prelude.{◌==◌, All, find}
use Rattle.std.specs.List.{list_any}
use Rattle.std.proofs.lemmas.List.Folds.{list_any-append}
use Rattle.lvm_num.specs.declared.place.Pp.{Pp}
use Rattle.lvm_num.specs.declared.descriptor.LvRow.{LvRow}
use Rattle.lvm_num.specs.declared.descriptor.Descriptor.{Descriptor}
use Rattle.lvm_num.specs.Descriptor.{IsLaidOut, volume_of}
use Rattle.lvm_num.proofs.MarksLemmas.Maps.{find-Some}
use Rattle.lvm_move_plan.specs.declared.standing.VolumeCopy.{VolumeCopy}
use Rattle.lvm_move_plan.specs.declared.plan.PlannedMove.{PlannedMove}
use Rattle.lvm_move_plan.specs.Planned.{moves_to}

-- the volume of a number is laid out, where all are
pub laid_out : (d : Descriptor) (lv : ℕ) (row : LvRow) → All IsLaidOut d.lvs → volume_of d lv ≡ Some row → IsLaidOut row
laid_out d lv row all is =
    let found = find-Some (λ (r : LvRow). r.number == lv) d.lvs row is in
    subst IsLaidOut (found.1.2 row) (all found.1.0 row found.1.1)

-- what one of some lists has, all of them have together
pub any_flat : {X A : Type 0} (p : A → Bool) (f : X → List A) (xs : List X) → list_any (λ x. list_any p (f x)) xs ≡ list_any p (flat_map f xs)
any_flat p f [] = refl
any_flat p f (x ∷ xs) = ap (λ b. list_any p (f x) || b) (any_flat p f xs) ∙ sym (list_any-append p (f x) (flat_map f xs))

-- ---- the moves

-- with one copy more
moves_step : (copies : List VolumeCopy) (free : List Pp) (i : ℕ) (c : VolumeCopy) (p : Pp) → i < length copies → i < length free
    → moves_to (take (suc i) copies) (take (suc i) free) ≡ moves_to (take i copies) (take i free) ++ record { copy = get_or copies i c; to = get_or free i p } ∷ []
moves_step [] free i c p lt le = absurd (omega (arith, lt))
moves_step (x ∷ copies) [] i c p lt le = absurd (omega (arith, le))
moves_step (x ∷ copies) (y ∷ free) zero c p lt le = refl
moves_step (x ∷ copies) (y ∷ free) (suc i) c p lt le = ap (λ (l : List PlannedMove). record { copy = x; to = y } ∷ l) (moves_step copies free i c p (omega (arith, lt)) (omega (arith, le)))

pub moves_more : (copies : List VolumeCopy) (free : List Pp) (i : ℕ) (c : VolumeCopy) (p : Pp) (before after : List PlannedMove) → i < length copies → i < length free
    → after ≡ before ++ record { copy = get_or copies i c; to = get_or free i p } ∷ [] → before ≡ moves_to (take i copies) (take i free) → after ≡ moves_to (take (i + 1) copies) (take (i + 1) free)
moves_more copies free i c p before after lt le is so_far =
    let next : suc i ≡ i + 1 = omega arith in
    is ∙ ap (λ (l : List PlannedMove). l ++ record { copy = get_or copies i c; to = get_or free i p } ∷ []) so_far ∙ sym (moves_step copies free i c p lt le)
    ∙ ap (λ (n : ℕ). moves_to (take n copies) (take n free)) next

-- behind the last copy nothing more is taken
pub moves_whole : (copies : List VolumeCopy) (free : List Pp) (n : ℕ) → length copies ≤ n → moves_to (take n copies) (take n free) ≡ moves_to copies free
moves_whole [] free n le = by n
  where
    by : (m : ℕ) → moves_to (take m []) (take m free) ≡ []
    by zero = refl
    by (suc m) = refl
moves_whole (x ∷ copies) free zero le = absurd (omega (arith, le))
moves_whole (x ∷ copies) [] (suc n) le = refl
moves_whole (x ∷ copies) (y ∷ free) (suc n) le = ap (λ (l : List PlannedMove). record { copy = x; to = y } ∷ l) (moves_whole copies free n (omega (arith, le)))

-- ---- the first that is so

module _ {X : Type 0} (p : X → Bool) where
  -- none of those before it is
  pub find_here : (xs : List X) (i : ℕ) (e : X) → i < length xs → find p (take i xs) ≡ None → p (get_or xs i e) ≡ true → find p xs ≡ Some (get_or xs i e)
  find_here [] i e lt none is = absurd (omega (arith, lt))
  find_here (x ∷ xs) zero e lt none is = ap (λ b. cond b (Some x) (find p xs)) is
  find_here (x ∷ xs) (suc i) e lt none is = by (λ rest. find_here xs i e (omega (arith, lt)) rest is) (p x) refl
    where
      by : (find p (take i xs) ≡ None → find p xs ≡ Some (get_or xs i e)) → (b : Bool) → p x ≡ b → cond (p x) (Some x) (find p xs) ≡ Some (get_or xs i e)
      by on true t = absurd (let no : Some x ≡ None = sym (ap (λ b. cond b (Some x) (find p (take i xs))) t) ∙ none in cc no)
      by on false f = ap (λ b. cond b (Some x) (find p xs)) f ∙ on (sym (ap (λ b. cond b (Some x) (find p (take i xs))) f) ∙ none)

  find_step : (xs : List X) (i : ℕ) (e : X) → i < length xs → find p (take i xs) ≡ None → p (get_or xs i e) ≡ false → find p (take (suc i) xs) ≡ None
  find_step [] i e lt none isnt = absurd (omega (arith, lt))
  find_step (x ∷ xs) zero e lt none isnt = ap (λ b. cond b (Some x) None) isnt
  find_step (x ∷ xs) (suc i) e lt none isnt = by (λ rest. find_step xs i e (omega (arith, lt)) rest isnt) (p x) refl
    where
      by : (find p (take i xs) ≡ None → find p (take (suc i) xs) ≡ None) → (b : Bool) → p x ≡ b → cond (p x) (Some x) (find p (take (suc i) xs)) ≡ None
      by on true t = absurd (let no : Some x ≡ None = sym (ap (λ b. cond b (Some x) (find p (take i xs))) t) ∙ none in cc no)
      by on false f = ap (λ b. cond b (Some x) (find p (take (suc i) xs))) f ∙ on (sym (ap (λ b. cond b (Some x) (find p (take i xs))) f) ∙ none)

  -- nor is it
  pub find_more : (xs : List X) (i : ℕ) (e : X) → i < length xs → find p (take i xs) ≡ None → p (get_or xs i e) ≡ false → find p (take (i + 1) xs) ≡ None
  find_more xs i e lt none isnt = let next : suc i ≡ i + 1 = omega arith in ap (λ (n : ℕ). find p (take n xs)) (sym next) ∙ find_step xs i e lt none isnt
