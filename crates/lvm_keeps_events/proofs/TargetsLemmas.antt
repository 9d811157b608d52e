-- A target of a request whose transfer comes to be at another state.
use Rattle.std.proofs.Common.{◌≡◌, ◌≤◌, ◌+◌, ℕ, zero, suc, Bool, true, false, ◌&&◌, ◌||◌, List, [], ◌∷◌, Option, Some, None, map, slice_get, slice_set, refl, sym, ◌∙◌, ap, subst, arith}
use Rattle.std.specs.Prelude.{count_by, slice_index_or}
use Rattle.std.specs.List.{list_all, list_any, remove, AllByRecursion}
use Rattle.lvm_num.specs.declared.place.Pp.{Pp}
use Rattle.lvm_num.proofs.Booleans.{not_so}
use Rattle.lvm_sched.specs.declared.writes.TargetState.{TargetState}
use Rattle.lvm_path.specs.declared.target.Target.{Target}
use Rattle.lvm_path.specs.Targets.{states_of, with_state}
use Rattle.lvm_session.specs.declared.open.Open.{Open}
use Rattle.lvm_session.specs.Judging.{pps_of}
use Rattle.lvm_session.specs.Sound.{count_if}
use Rattle.lvm_keeps.proofs.Lists.{count_cons}

-- ---- lists

module _ {A : Type 0} where
  pub all_true_set : (t : A → Bool) (xs : List A) (k : ℕ) (x y : A) → slice_get xs k ≡ Some x → t y ≡ t x → list_all t (slice_set xs k y) ≡ list_all t xs
  all_true_set t [] k x y there same = refl
  all_true_set t (z ∷ xs) zero x y there same = let is : z ≡ x = cc there in ap (λ b. b && list_all t xs) (same ∙ ap t (sym is))
  all_true_set t (z ∷ xs) (suc k) x y there same = ap (λ b. t z && b) (all_true_set t xs k x y there same)

  -- one that fails is set
  pub not_all_set : (t : A → Bool) (xs : List A) (k : ℕ) (x y : A) → slice_get xs k ≡ Some x → t y ≡ false → list_all t (slice_set xs k y) ≡ false
  not_all_set t [] k x y there fails = absurd (cc there)
  not_all_set t (z ∷ xs) zero x y there fails = ap (λ b. b && list_all t xs) fails
  not_all_set t (z ∷ xs) (suc k) x y there fails = ap (λ b. t z && b) (not_all_set t xs k x y there fails) ∙ and_false (t z)
    where
      and_false : (a : Bool) → a && false ≡ false
      and_false true = refl
      and_false false = refl

  -- one that passes is set
  pub any_here : (t : A → Bool) (xs : List A) (k : ℕ) (x y : A) → slice_get xs k ≡ Some x → t y ≡ true → list_any t (slice_set xs k y) ≡ true
  any_here t [] k x y there passes = absurd (cc there)
  any_here t (z ∷ xs) zero x y there passes = ap (λ b. b || list_any t xs) passes
  any_here t (z ∷ xs) (suc k) x y there passes = ap (λ b. t z || b) (any_here t xs k x y there passes) ∙ or_true (t z)
    where
      or_true : (a : Bool) → a || true ≡ true
      or_true true = refl
      or_true false = refl

  pub count_none : (t : A → Bool) (xs : List A) → list_any t xs ≡ false → count_by t xs ≡ 0
  count_none t [] none = refl
  count_none t (x ∷ xs) none = by (λ e. count_none t xs e) (t x) refl none
    where
      by : (list_any t xs ≡ false → count_by t xs ≡ 0) → (b : Bool) → t x ≡ b → b || list_any t xs ≡ false → count_by t (x ∷ xs) ≡ 0
      by others true is e = not_so (sym e)
      by others false is e = let rest = others e in let more = count_cons t x xs in let one : count_if (t x) ≡ 0 = ap count_if is in omega (arith, rest, more, one)

  pub neither : (t u : A → Bool) (xs : List A) → list_any t xs ≡ false → list_any u xs ≡ false → list_any (λ (x : A). t x || u x) xs ≡ false
  neither t u [] a b = refl
  neither t u (x ∷ xs) a b = by (λ e f. neither t u xs e f) (t x) (u x) refl refl a b
    where
      by : (list_any t xs ≡ false → list_any u xs ≡ false → list_any (λ (y : A). t y || u y) xs ≡ false) → (p q : Bool) → t x ≡ p → u x ≡ q → p || list_any t xs ≡ false → q || list_any u xs ≡ false → (t x || u x) || list_any (λ (y : A). t y || u y) xs ≡ false
      by others true q i j e f = not_so (sym e)
      by others false true i j e f = not_so (sym f)
      by others false false i j e f = ap (λ c. (c || u x) || list_any (λ (y : A). t y || u y) xs) i ∙ ap (λ c. c || list_any (λ (y : A). t y || u y) xs) j ∙ others e f

-- ---- the only one that a test may find

-- which passes no request of another number
pub only_at : (t : Open → Bool) (os : List Open) (k : ℕ) (o : Open) → slice_get os k ≡ Some o → AllByRecursion (λ (x : Open). x.request.id ≡ o.request.id → ⊥) (remove os k)
    → ((x : Open) → (x.request.id ≡ o.request.id → ⊥) → t x ≡ false) → list_any t os ≡ t o
only_at t [] k o there others none = absurd (cc there)
only_at t (x ∷ os) zero o there others none = let is : x ≡ o = cc there in ap (λ b. t x || b) (none_in os others) ∙ or_false (t x) ∙ ap t is
  where
    or_false : (a : Bool) → a || false ≡ a
    or_false true = refl
    or_false false = refl

    none_in : (xs : List Open) → AllByRecursion (λ (y : Open). y.request.id ≡ o.request.id → ⊥) xs → list_any t xs ≡ false
    none_in [] all = refl
    none_in (y ∷ xs) all = ap (λ b. b || list_any t xs) (none y all.0) ∙ none_in xs all.1
only_at t (x ∷ os) (suc k) o there others none = ap (λ b. b || list_any t os) (none x others.0) ∙ only_at t os k o there others.1 none

-- ---- targets

-- the same but for how far it is
abbrev pub at_state : Target → TargetState → Target
at_state t state = record t { state = state }

pub set_state : (ts : List Target) (k : ℕ) (t : Target) (state : TargetState) → slice_get ts k ≡ Some t → with_state ts k state ≡ slice_set ts k (at_state t state)
set_state [] k t state there = absurd (cc there)
set_state (x ∷ ts) zero t state there = let is : x ≡ t = cc there in ap (λ (y : Target). at_state y state ∷ ts) is
set_state (x ∷ ts) (suc k) t state there = ap (λ (rest : List Target). x ∷ rest) (set_state ts k t state there)

pub states_at : (ts : List Target) (k : ℕ) (t : Target) → slice_get ts k ≡ Some t → slice_get (states_of ts) k ≡ Some t.state
states_at [] k t there = absurd (cc there)
states_at (x ∷ ts) zero t there = let is : x ≡ t = cc there in ap (λ (y : Target). Some y.state) is
states_at (x ∷ ts) (suc k) t there = states_at ts k t there

-- on the same partitions
pub pps_set : (ts : List Target) (k : ℕ) (t : Target) (state : TargetState) → slice_get ts k ≡ Some t → pps_of (slice_set ts k (at_state t state)) ≡ pps_of ts
pps_set [] k t state there = refl
pps_set (x ∷ ts) zero t state there = let is : x ≡ t = cc there in ap (λ (y : Target). y.pp ∷ pps_of ts) (sym is)
pps_set (x ∷ ts) (suc k) t state there = ap (λ (rest : List Pp). x.pp ∷ rest) (pps_set ts k t state there)

pub pp_at : (ts : List Target) (k : ℕ) (t : Target) (state : TargetState) → slice_get ts k ≡ Some t → (i : ℕ) (d : Target) → (slice_index_or (slice_set ts k (at_state t state)) i d).pp ≡ (slice_index_or ts i d).pp
pp_at [] k t state there i d = refl
pp_at (x ∷ ts) zero t state there zero d = let is : x ≡ t = cc there in ap (λ (y : Target). y.pp) (sym is)
pp_at (x ∷ ts) zero t state there (suc i) d = refl
pp_at (x ∷ ts) (suc k) t state there zero d = refl
pp_at (x ∷ ts) (suc k) t state there (suc i) d = pp_at ts k t state there i d
