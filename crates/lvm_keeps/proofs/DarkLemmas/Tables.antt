-- The table of open requests as one of them changes.
use Rattle.std.proofs.Common.{◌≡◌, ◌<◌, ◌==◌, ℕ, zero, suc, Bool, true, false, ◌&&◌, ◌||◌, List, [], ◌∷◌, ◌++◌, Some, slice_get, slice_set, sym, ◌∙◌, ap, subst, refl, arith, if◌then◌else◌}
use Rattle.std.specs.List.{list_any, remove, AllByRecursion}
use Rattle.std.proofs.lemmas.Bool.{eqb-true}
use Rattle.lvm_num.proofs.Lists.{all_weaker, all_at}
use Rattle.lvm_session.specs.declared.open.Open.{Open}
use Rattle.lvm_session.specs.Judging.{is_waiting, place_of, held_of}
use Rattle.lvm_session.specs.Dark.{IsAscending}
use Rattle.lvm_session.specs.passed.Hold.{Row}
use Rattle.lvm_session.specs.Sound.{waiting_rows}
use Rattle.lvm_keeps.proofs.Lists.{all_removed}

-- one that has another's number stands as well among later ones
module _ (x y : Open) (same : y.request.id ≡ x.request.id) where
  below_set : (n : ℕ) (os : List Open) (k : ℕ) → slice_get os k ≡ Some x → AllByRecursion (λ (later : Open). n < later.request.id) os → AllByRecursion (λ (later : Open). n < later.request.id) (slice_set os k y)
  below_set n [] k there all = all
  below_set n (o ∷ os) zero there all = let is : o ≡ x = cc there in (subst (λ i. n < i) (ap (λ (z : Open). z.request.id) is ∙ sym same) all.0, all.1)
  below_set n (o ∷ os) (suc k) there all = (all.0, below_set n os k there all.1)

  pub ascending_set : (os : List Open) (k : ℕ) → slice_get os k ≡ Some x → IsAscending os → IsAscending (slice_set os k y)
  ascending_set [] k there all = all
  ascending_set (o ∷ os) zero there all = let is : o ≡ x = cc there in (subst (λ i. AllByRecursion (λ (later : Open). i < later.request.id) os) (ap (λ (z : Open). z.request.id) is ∙ sym same) all.0, all.1)
  ascending_set (o ∷ os) (suc k) there all = (below_set o.request.id os k there all.0, ascending_set os k there all.1)

split : (o : Open) (os : List Open) → waiting_rows (o ∷ os) ≡ waiting_rows (o ∷ []) ++ waiting_rows os
split o os = by (is_waiting o)
  where
    row : Row
    row = record { id = place_of o.request.id; ask = held_of o.request.ask }

    by : (b : Bool) → (if b then row ∷ waiting_rows os else waiting_rows os) ≡ (if b then row ∷ [] else []) ++ waiting_rows os
    by true = refl
    by false = refl

-- and has the row of one that asks for the same, and waits as it does
pub rows_set : (os : List Open) (k : ℕ) (x y : Open) → slice_get os k ≡ Some x → waiting_rows (y ∷ []) ≡ waiting_rows (x ∷ []) → waiting_rows (slice_set os k y) ≡ waiting_rows os
rows_set [] k x y there same = refl
rows_set (o ∷ os) zero x y there same = let is : o ≡ x = cc there in more_rows y o os (same ∙ ap (λ (z : Open). waiting_rows (z ∷ [])) (sym is))
  where
    more_rows : (a b : Open) (rest : List Open) → waiting_rows (a ∷ []) ≡ waiting_rows (b ∷ []) → waiting_rows (a ∷ rest) ≡ waiting_rows (b ∷ rest)
    more_rows a b rest is = split a rest ∙ ap (λ (rows : List Row). rows ++ waiting_rows rest) is ∙ sym (split b rest)
rows_set (o ∷ os) (suc k) x y there same = split o (slice_set os k y) ∙ ap (λ (rows : List Row). waiting_rows (o ∷ []) ++ rows) (rows_set os k x y there same) ∙ sym (split o os)

-- ---- one goes

-- the others have other numbers
pub apart : (os : List Open) (k : ℕ) (o : Open) → slice_get os k ≡ Some o → IsAscending os → AllByRecursion (λ (x : Open). x.request.id ≡ o.request.id → ⊥) (remove os k)
apart [] k o there all = absurd (cc there)
apart (x ∷ os) zero o there all = let is : x ≡ o = cc there in
    all_weaker (λ (later : Open). x.request.id < later.request.id) (λ (later : Open). later.request.id ≡ o.request.id → ⊥) (λ later low e. let same : x.request.id ≡ o.request.id = ap (λ (z : Open). z.request.id) is in absurd (omega (arith, low, e, same))) os all.0
apart (x ∷ os) (suc k) o there all = (λ e. let low = all_at (λ (later : Open). x.request.id < later.request.id) os k o all.0 there in absurd (omega (arith, low, e)), apart os k o there all.1)

pub ascending_removed : (os : List Open) (k : ℕ) → IsAscending os → IsAscending (remove os k)
ascending_removed [] zero all = tt
ascending_removed [] (suc k) all = tt
ascending_removed (x ∷ os) zero all = all.1
ascending_removed (x ∷ os) (suc k) all = (all_removed (λ (later : Open). x.request.id < later.request.id) os k all.0, ascending_removed os k all.1)

pub rows_removed : (os : List Open) (k : ℕ) (o : Open) → slice_get os k ≡ Some o → is_waiting o ≡ false → waiting_rows (remove os k) ≡ waiting_rows os
rows_removed [] k o there none = absurd (cc there)
rows_removed (x ∷ os) zero o there none = let is : x ≡ o = cc there in sym (ap (λ b. if b then record { id = place_of x.request.id; ask = held_of x.request.ask } ∷ waiting_rows os else waiting_rows os) (ap is_waiting is ∙ none))
rows_removed (x ∷ os) (suc k) o there none = split x (remove os k) ∙ ap (λ (rows : List Row). waiting_rows (x ∷ []) ++ rows) (rows_removed os k o there none) ∙ sym (split x os)

-- one of a number that none has isn't found
pub none_named : (n : ℕ) (t : Open → Bool) (os : List Open) {X : Type 0} → AllByRecursion (λ (x : Open). x.request.id ≡ n → ⊥) os → list_any (λ (x : Open). x.request.id == n && t x) os ≡ true → X
none_named n t [] all some = absurd cc
none_named n t (x ∷ os) {X} all some = by (x.request.id == n) refl (λ e. none_named n t os all.1 e)
  where
    by : (b : Bool) → (x.request.id == n) ≡ b → (list_any (λ (y : Open). y.request.id == n && t y) os ≡ true → X) → X
    by true is rest = absurd (all.0 (eqb-true x.request.id n is))
    by false is rest = rest (sym (ap (λ b. b && t x || list_any (λ (y : Open). y.request.id == n && t y) os) is) ∙ some)
