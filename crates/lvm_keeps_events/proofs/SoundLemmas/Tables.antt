-- The table of open requests, and its rows in the hold queue, as one request lands.
use Rattle.std.proofs.Common.{◌≡◌, ◌==◌, ◌<◌, ℕ, zero, suc, Bool, true, false, ◌||◌, not, nat_lt, List, [], ◌∷◌, Some, slice_get, slice_set, refl, sym, ◌∙◌, ap, subst, arith, if◌then◌else◌}
use Rattle.std.specs.List.{list_any, remove, AllByRecursion}
use Rattle.std.proofs.lemmas.Bool.{eq-eqb, lt-ltb, ltb-true, ne_eqb}
use Rattle.lvm_num.proofs.Lists.{all_weaker}
use Rattle.lvm_hold.specs.declared.queue.Row.{Row}
use Rattle.lvm_hold.specs.Waiting.{without}
use Rattle.lvm_session.specs.declared.open.Open.{Open}
use Rattle.lvm_session.specs.Judging.{held_of, is_waiting, place_of}
use Rattle.lvm_session.specs.Dark.{IsAscending}
use Rattle.lvm_session.specs.Sound.{waiting_rows, with_row}

-- ---- lists

module _ {A : Type 0} where
  -- one is set, and of the others something more is known
  pub all_set_beside : (P D Q : A → Type 0) → ((x : A) → D x → P x → Q x) → (xs : List A) (k : ℕ) (y : A) → Q y → AllByRecursion D (remove xs k) → AllByRecursion P xs → AllByRecursion Q (slice_set xs k y)
  all_set_beside P D Q on [] k y its others all = tt
  all_set_beside P D Q on (x ∷ xs) zero y its others all = (its, both xs others all.1)
    where
      both : (zs : List A) → AllByRecursion D zs → AllByRecursion P zs → AllByRecursion Q zs
      both [] a b = tt
      both (z ∷ zs) a b = (on z a.0 b.0, both zs a.1 b.1)
  all_set_beside P D Q on (x ∷ xs) (suc k) y its others all = (on x others.0 all.0, all_set_beside P D Q on xs k y its others.1 all.1)

  -- one that fails is set
  pub any_set_less : (t : A → Bool) (xs : List A) (k : ℕ) (y : A) → t y ≡ false → list_any t (slice_set xs k y) ≡ true → list_any t xs ≡ true
  any_set_less t [] k y fails some = some
  any_set_less t (x ∷ xs) zero y fails some = by (t x) (sym (ap (λ b. b || list_any t xs) fails) ∙ some)
    where
      by : (b : Bool) → list_any t xs ≡ true → b || list_any t xs ≡ true
      by true e = refl
      by false e = e
  any_set_less t (x ∷ xs) (suc k) y fails some = by (t x) (λ e. any_set_less t xs k y fails e) some
    where
      by : (b : Bool) → (list_any t (slice_set xs k y) ≡ true → list_any t xs ≡ true) → b || list_any t (slice_set xs k y) ≡ true → b || list_any t xs ≡ true
      by true rest e = refl
      by false rest e = rest e

-- of the others none passes
pub only_set : (t : Open → Bool) (os : List Open) (k : ℕ) (o y : Open) → slice_get os k ≡ Some o → AllByRecursion (λ (x : Open). x.request.id ≡ o.request.id → ⊥) (remove os k)
    → ((x : Open) → (x.request.id ≡ o.request.id → ⊥) → t x ≡ false) → list_any t (slice_set os k y) ≡ t y
only_set t [] k o y there others none = absurd (cc there)
only_set t (x ∷ os) zero o y there others none = ap (λ b. t y || b) (none_in os others) ∙ or_false (t y)
  where
    or_false : (a : Bool) → a || false ≡ a
    or_false true = refl
    or_false false = refl

    none_in : (xs : List Open) → AllByRecursion (λ (z : Open). z.request.id ≡ o.request.id → ⊥) xs → list_any t xs ≡ false
    none_in [] all = refl
    none_in (z ∷ xs) all = ap (λ b. b || list_any t xs) (none z all.0) ∙ none_in xs all.1
only_set t (x ∷ os) (suc k) o y there others none = ap (λ b. b || list_any t (slice_set os k y)) (none x others.0) ∙ only_set t os k o y there others.1 none

-- ---- rows

-- each place is before the later ones
abbrev pub AreAscending : List Row → Type 0
AreAscending [] = Unit {0}
AreAscending (row ∷ rows) = AllByRecursion (λ (later : Row). row.id < later.id) rows × AreAscending rows

row_for : Open → Row
row_for o = record { id = place_of o.request.id; ask = held_of o.request.ask }

later_rows : (n : ℕ) (os : List Open) → AllByRecursion (λ (o : Open). n < o.request.id) os → AllByRecursion (λ (row : Row). place_of n < row.id) (waiting_rows os)
later_rows n [] all = tt
later_rows n (o ∷ os) all = by (is_waiting o) (later_rows n os all.1)
  where
    by : (b : Bool) → AllByRecursion (λ (row : Row). place_of n < row.id) (waiting_rows os)
        → AllByRecursion (λ (row : Row). place_of n < row.id) (if b then record { id = place_of o.request.id; ask = held_of o.request.ask } ∷ waiting_rows os else waiting_rows os)
    by true rest = (let low = all.0 in omega (arith, low), rest)
    by false rest = rest

pub rows_ascend : (os : List Open) → IsAscending os → AreAscending (waiting_rows os)
rows_ascend [] all = tt
rows_ascend (o ∷ os) all = by (is_waiting o) (rows_ascend os all.1)
  where
    by : (b : Bool) → AreAscending (waiting_rows os) → AreAscending (if b then record { id = place_of o.request.id; ask = held_of o.request.ask } ∷ waiting_rows os else waiting_rows os)
    by true rest = (later_rows o.request.id os all.0, rest)
    by false rest = rest

without_later : (n : ℕ) (rows : List Row) → AllByRecursion (λ (row : Row). n < row.id) rows → without n rows ≡ rows
without_later n [] all = refl
without_later n (row ∷ rows) all =
    ap (λ b. if not b then row ∷ without n rows else without n rows) (ne_eqb row.id n (λ e. let low = all.0 in absurd (omega (arith, low, e)))) ∙ ap (λ (rest : List Row). row ∷ rest) (without_later n rows all.1)

-- the row of one that lands goes
pub landed_rows : (os : List Open) (k : ℕ) (o y : Open) → slice_get os k ≡ Some o → is_waiting o ≡ true → is_waiting y ≡ false → IsAscending os → waiting_rows (slice_set os k y) ≡ without (place_of o.request.id) (waiting_rows os)
landed_rows [] k o y there waits over all = absurd (cc there)
landed_rows (x ∷ os) zero o y there waits over all =
    let is : x ≡ o = cc there in
    ap (λ b. if b then record { id = place_of y.request.id; ask = held_of y.request.ask } ∷ waiting_rows os else waiting_rows os) over
    ∙ sym (ap (λ b. without (place_of o.request.id) (if b then record { id = place_of x.request.id; ask = held_of x.request.ask } ∷ waiting_rows os else waiting_rows os)) (ap is_waiting is ∙ waits)
    ∙ ap (λ b. if not b then record { id = place_of x.request.id; ask = held_of x.request.ask } ∷ without (place_of o.request.id) (waiting_rows os) else without (place_of o.request.id) (waiting_rows os))
    (eq-eqb (place_of x.request.id) (place_of o.request.id) (ap (λ (z : Open). place_of z.request.id) is))
    ∙ without_later (place_of o.request.id) (waiting_rows os) (later_rows o.request.id os (subst (λ (z : Open). AllByRecursion (λ (later : Open). z.request.id < later.request.id) os) is all.0)))
landed_rows (x ∷ os) (suc k) o y there waits over all = by (is_waiting x) (landed_rows os k o y there waits over all.1)
  where
    other : (place_of x.request.id == place_of o.request.id) ≡ false
    other = ne_eqb (place_of x.request.id) (place_of o.request.id) (λ e. let low = below os k there all.0 in absurd (omega (arith, low, e)))
      where
        below : (zs : List Open) (j : ℕ) → slice_get zs j ≡ Some o → AllByRecursion (λ (later : Open). x.request.id < later.request.id) zs → x.request.id < o.request.id
        below [] j at less = absurd (cc at)
        below (z ∷ zs) zero at less = let is : z ≡ o = cc at in subst (λ (w : Open). x.request.id < w.request.id) is less.0
        below (z ∷ zs) (suc j) at less = below zs j at less.1

    by : (b : Bool) → waiting_rows (slice_set os k y) ≡ without (place_of o.request.id) (waiting_rows os)
        → (if b then record { id = place_of x.request.id; ask = held_of x.request.ask } ∷ waiting_rows (slice_set os k y) else waiting_rows (slice_set os k y))
        ≡ without (place_of o.request.id) (if b then record { id = place_of x.request.id; ask = held_of x.request.ask } ∷ waiting_rows os else waiting_rows os)
    by true rest = ap (λ (rows : List Row). record { id = place_of x.request.id; ask = held_of x.request.ask } ∷ rows) rest
        ∙ sym (ap (λ b. if not b then record { id = place_of x.request.id; ask = held_of x.request.ask } ∷ without (place_of o.request.id) (waiting_rows os) else without (place_of o.request.id) (waiting_rows os)) other)
    by false rest = rest

-- a step stays at its place
pub step_stays : (step : Row) (n : ℕ) (rows : List Row) → (step.id ≡ n → ⊥) → AreAscending rows → without n (with_row step rows) ≡ with_row step (without n rows)
step_stays step n [] other all = ap (λ b. if not b then step ∷ [] else []) (ne_eqb step.id n other)
step_stays step n (row ∷ rows) other all = by (nat_lt step.id row.id) (row.id == n) refl refl (step_stays step n rows other all.1)
  where
    first_of_later : (zs : List Row) → AllByRecursion (λ (z : Row). step.id < z.id) zs → with_row step zs ≡ step ∷ zs
    first_of_later [] less = refl
    first_of_later (z ∷ zs) less = ap (λ b. if b then step ∷ z ∷ zs else z ∷ with_row step zs) (lt-ltb step.id z.id less.0)

    kept_later : (m : ℕ) (zs : List Row) → AllByRecursion (λ (z : Row). m < z.id) zs → AllByRecursion (λ (z : Row). m < z.id) (without n zs)
    kept_later m [] less = tt
    kept_later m (z ∷ zs) less = pick (z.id == n) (kept_later m zs less.1)
      where
        pick : (b : Bool) → AllByRecursion (λ (w : Row). m < w.id) (without n zs) → AllByRecursion (λ (w : Row). m < w.id) (if not b then z ∷ without n zs else without n zs)
        pick true rest = rest
        pick false rest = (less.0, rest)

    by : (a b : Bool) → nat_lt step.id row.id ≡ a → (row.id == n) ≡ b → without n (with_row step rows) ≡ with_row step (without n rows)
        → without n (if a then step ∷ row ∷ rows else row ∷ with_row step rows) ≡ with_row step (if not b then row ∷ without n rows else without n rows)
    by true b before is rest =
        ap (λ c. if not c then step ∷ without n (row ∷ rows) else without n (row ∷ rows)) (ne_eqb step.id n other)
        ∙ ap (λ c. step ∷ (if not c then row ∷ without n rows else without n rows)) is ∙ sym (goes b)
      where
        less : step.id < row.id
        less = ltb-true step.id row.id before

        goes : (c : Bool) → with_row step (if not c then row ∷ without n rows else without n rows) ≡ step ∷ (if not c then row ∷ without n rows else without n rows)
        goes false = ap (λ d. if d then step ∷ row ∷ without n rows else row ∷ with_row step (without n rows)) before
        goes true = first_of_later (without n rows) (kept_later step.id rows (all_weaker (λ (z : Row). row.id < z.id) (λ (z : Row). step.id < z.id) (λ z low. omega (arith, low, less)) rows all.0))
    by false true before is rest = ap (λ c. if not c then row ∷ without n (with_row step rows) else without n (with_row step rows)) is ∙ rest
    by false false before is rest =
        ap (λ c. if not c then row ∷ without n (with_row step rows) else without n (with_row step rows)) is ∙ ap (λ (zs : List Row). row ∷ zs) rest
        ∙ sym (ap (λ c. if c then step ∷ row ∷ without n rows else row ∷ with_row step (without n rows)) before)
