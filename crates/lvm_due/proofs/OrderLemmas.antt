-- The requests that wait stand in the hold queue.
use Rattle.std.proofs.Common.{◌≡◌, ◌<◌, ◌+◌, ℕ, zero, suc, Bool, true, false, if◌then◌else◌, nat_lt, List, [], ◌∷◌, Option, Some, None, slice_get, refl, sym, subst, arith}
use Rattle.std.specs.Prelude.{All, Contains}
use Rattle.std.specs.List.{AllByRecursion}
use Rattle.std.proofs.lemmas.Bool.{ltb-true}
use Rattle.std.proofs.lemmas.List.Elements.{All-nil, All-cons, All-head, All-tail}
use Rattle.lvm_hold.specs.declared.queue.Row.{Row}
use Rattle.lvm_hold.specs.Order.{IsAscending}
use Rattle.lvm_due.specs.passed.Session.{OpenCopy, Open, Core, held_of, is_waiting, place_of, has_row, step_row, IsAscending as AreAscending, rows_of, waiting_rows, with_row, IsCopy}

abbrev row_of : Open → Row
row_of o = record { id = place_of o.request.id; ask = held_of o.request.ask }

-- ---- the rows of requests

rows_above : (n : ℕ) (os : List Open) → AllByRecursion (λ (later : Open). n < later.request.id) os → All (λ (r : Row). place_of n < r.id) (waiting_rows os)
rows_above n [] all = All-nil (λ (r : Row). place_of n < r.id)
rows_above n (o ∷ os) all = let low = all.0 in by_test (is_waiting o) (omega (arith, low)) (rows_above n os all.1)
  where
    by_test : (b : Bool) → place_of n < place_of o.request.id → All (λ (r : Row). place_of n < r.id) (waiting_rows os) → All (λ (r : Row). place_of n < r.id) (if b then row_of o ∷ waiting_rows os else waiting_rows os)
    by_test true above rest = All-cons (λ (r : Row). place_of n < r.id) (row_of o) (waiting_rows os) above rest
    by_test false above rest = rest

pub rows_ascend : (os : List Open) → AreAscending os → IsAscending (waiting_rows os)
rows_ascend [] order = tt
rows_ascend (o ∷ os) order = by_test (is_waiting o) (rows_above o.request.id os order.0) (rows_ascend os order.1)
  where
    by_test : (b : Bool) → All (λ (r : Row). place_of o.request.id < r.id) (waiting_rows os) → IsAscending (waiting_rows os) → IsAscending (if b then row_of o ∷ waiting_rows os else waiting_rows os)
    by_test true above rest = (above, rest)
    by_test false above rest = rest

-- no row of a request has an odd place
rows_even : (n : ℕ) (os : List Open) → All (λ (r : Row). r.id ≡ place_of n + 1 → ⊥) (waiting_rows os)
rows_even n [] = All-nil (λ (r : Row). r.id ≡ place_of n + 1 → ⊥)
rows_even n (o ∷ os) = by_test (is_waiting o) (rows_even n os)
  where
    differs : place_of o.request.id ≡ place_of n + 1 → ⊥
    differs same = absurd (omega (arith, same))

    by_test : (b : Bool) → All (λ (r : Row). r.id ≡ place_of n + 1 → ⊥) (waiting_rows os) → All (λ (r : Row). r.id ≡ place_of n + 1 → ⊥) (if b then row_of o ∷ waiting_rows os else waiting_rows os)
    by_test true rest = All-cons (λ (r : Row). r.id ≡ place_of n + 1 → ⊥) (row_of o) (waiting_rows os) differs rest
    by_test false rest = rest

first_of : (row : Row) (rows : List Row) → Contains (row ∷ rows) row
first_of row rows = (zero, omega arith, refl)

later_of : (first : Row) (rows : List Row) (row : Row) → Contains rows row → Contains (first ∷ rows) row
later_of first rows row among = let within = among.1 in (suc among.0, omega (arith, within), among.2)

pub row_waits : (os : List Open) (k : ℕ) (o : Open) → slice_get os k ≡ Some o → is_waiting o ≡ true → Contains (waiting_rows os) (row_of o)
row_waits [] k o there waits = absurd (cc there)
row_waits (x ∷ os) zero o there waits =
    let same : x ≡ o = cc there in
    subst (λ (y : Open). Contains (if is_waiting y then row_of y ∷ waiting_rows os else waiting_rows os) (row_of o)) (sym same)
    (subst (λ b. Contains (if b then row_of o ∷ waiting_rows os else waiting_rows os) (row_of o)) (sym waits) (first_of (row_of o) (waiting_rows os)))
row_waits (x ∷ os) (suc k) o there waits = by_test (is_waiting x) (row_waits os k o there waits)
  where
    by_test : (b : Bool) → Contains (waiting_rows os) (row_of o) → Contains (if b then row_of x ∷ waiting_rows os else waiting_rows os) (row_of o)
    by_test true rest = later_of (row_of x) (waiting_rows os) (row_of o) rest
    by_test false rest = rest

-- ---- with the row of a step

above_step : (step : Row) (n : ℕ) (rows : List Row) → n < step.id → All (λ (r : Row). n < r.id) rows → All (λ (r : Row). n < r.id) (with_row step rows)
above_step step n [] less all = All-cons (λ (r : Row). n < r.id) step [] less (All-nil (λ (r : Row). n < r.id))
above_step step n (row ∷ rows) less all = by_test (nat_lt step.id row.id) (above_step step n rows less (All-tail (λ (r : Row). n < r.id) row rows all))
  where
    by_test : (b : Bool) → All (λ (r : Row). n < r.id) (with_row step rows) → All (λ (r : Row). n < r.id) (if b then step ∷ row ∷ rows else row ∷ with_row step rows)
    by_test true rest = All-cons (λ (r : Row). n < r.id) step (row ∷ rows) less all
    by_test false rest = All-cons (λ (r : Row). n < r.id) row (with_row step rows) (All-head (λ (r : Row). n < r.id) row rows all) rest

step_ascends : (step : Row) (rows : List Row) → IsAscending rows → All (λ (r : Row). r.id ≡ step.id → ⊥) rows → IsAscending (with_row step rows)
step_ascends step [] order differ = (All-nil (λ (r : Row). step.id < r.id), tt)
step_ascends step (row ∷ rows) order differ = by_test (nat_lt step.id row.id) refl (step_ascends step rows order.1 (All-tail (λ (r : Row). r.id ≡ step.id → ⊥) row rows differ))
  where
    apart : row.id ≡ step.id → ⊥
    apart = All-head (λ (r : Row). r.id ≡ step.id → ⊥) row rows differ

    before : nat_lt step.id row.id ≡ true → All (λ (r : Row). step.id < r.id) (row ∷ rows)
    before less = All-cons (λ (r : Row). step.id < r.id) row rows (ltb-true step.id row.id less) (λ k d within. let low = ltb-true step.id row.id less in let high = order.0 k d within in omega (arith, low, high))

    behind : nat_lt step.id row.id ≡ false → row.id < step.id
    behind less = grind (arith, less, apart)

    by_test : (b : Bool) → nat_lt step.id row.id ≡ b → IsAscending (with_row step rows) → IsAscending (if b then step ∷ row ∷ rows else row ∷ with_row step rows)
    by_test true is rest = (before is, order)
    by_test false is rest = (above_step step row.id rows (behind is) order.0, rest)

step_beside : (step : Row) (rows : List Row) (row : Row) → Contains rows row → Contains (with_row step rows) row
step_beside step [] row among = let within = among.1 in absurd (omega (arith, within))
step_beside step (first ∷ rows) row (zero, within, is) = by_test (nat_lt step.id first.id)
  where
    by_test : (b : Bool) → Contains (if b then step ∷ first ∷ rows else first ∷ with_row step rows) row
    by_test true = later_of step (first ∷ rows) row (zero, within, is)
    by_test false = subst (λ (r : Row). Contains (first ∷ with_row step rows) r) is (first_of first (with_row step rows))
step_beside step (first ∷ rows) row (suc k, within, is) = by_test (nat_lt step.id first.id) (step_beside step rows row (k, omega (arith, within), is))
  where
    by_test : (b : Bool) → Contains (with_row step rows) row → Contains (if b then step ∷ first ∷ rows else first ∷ with_row step rows) row
    by_test true rest = later_of step (first ∷ rows) row (suc k, within, is)
    by_test false rest = later_of first (with_row step rows) row rest

-- ---- the queue

module _ (core : Core) (copy : (c : OpenCopy) → core.copy ≡ Some c → IsCopy core c) where
  pub queue_ascends : AreAscending core.requests → IsAscending (rows_of core)
  queue_ascends order = by_copy core.copy copy
    where
      plain : IsAscending (waiting_rows core.requests)
      plain = rows_ascend core.requests order

      by_row : (c : OpenCopy) → IsCopy core c → (b : Bool) → IsAscending (if b then with_row (step_row core c) (waiting_rows core.requests) else waiting_rows core.requests)
      by_row c its true = step_ascends (step_row core c) (waiting_rows core.requests) plain (subst (λ n. All (λ (r : Row). r.id ≡ n → ⊥) (waiting_rows core.requests)) (sym its.place.2) (rows_even its.place.0 core.requests))
      by_row c its false = plain

      by_copy : (o : Option OpenCopy) → ((c : OpenCopy) → o ≡ Some c → IsCopy core c)
          → IsAscending (Rattle.std.specs.Option.option_map_or (λ (c : OpenCopy). if has_row core c then with_row (step_row core c) (waiting_rows core.requests) else waiting_rows core.requests) o (waiting_rows core.requests))
      by_copy None its = plain
      by_copy (Some c) its = by_row c (its c refl) (has_row core c)

pub queue_has : (core : Core) (k : ℕ) (o : Open) → slice_get core.requests k ≡ Some o → is_waiting o ≡ true → Contains (rows_of core) (row_of o)
queue_has core k o there waits = by_copy core.copy
  where
    plain : Contains (waiting_rows core.requests) (row_of o)
    plain = row_waits core.requests k o there waits

    by_row : (c : OpenCopy) (b : Bool) → Contains (if b then with_row (step_row core c) (waiting_rows core.requests) else waiting_rows core.requests) (row_of o)
    by_row c true = step_beside (step_row core c) (waiting_rows core.requests) (row_of o) plain
    by_row c false = plain

    by_copy : (copy : Option OpenCopy) → Contains (Rattle.std.specs.Option.option_map_or (λ (c : OpenCopy). if has_row core c then with_row (step_row core c) (waiting_rows core.requests) else waiting_rows core.requests) copy (waiting_rows core.requests)) (row_of o)
    by_copy None = plain
    by_copy (Some c) = by_row c (has_row core c)
