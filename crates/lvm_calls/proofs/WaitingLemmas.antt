-- The hold queue has a place behind all rows for the next request.
use Rattle.std.proofs.Common.{◌≡◌, ◌<◌, ◌≤◌, ◌+◌, ◌*◌, ℕ, Bool, true, false, if◌then◌else◌, nat_lt, List, [], ◌∷◌, Option, Some, None, length, refl, subst, sym, ap, arith}
use Rattle.std.specs.Prelude.{All, IfSome}
use Rattle.std.specs.List.{AllByRecursion}
use Rattle.std.specs.Option.{option_map_or}
use Rattle.std.proofs.lemmas.List.Elements.{All-nil, All-cons, All-head, All-tail}
use Rattle.lvm_vol.specs.Log.{next_id}
use Rattle.lvm_hold.specs.declared.queue.Row.{Row}
use Rattle.lvm_hold.specs.Waiting.{AreBelow}
use Rattle.lvm_session.specs.declared.bringing.OpenCopy.{OpenCopy}
use Rattle.lvm_session.specs.declared.open.Open.{Open}
use Rattle.lvm_session.specs.State.{Core}
use Rattle.lvm_session.specs.Judging.{held_of, is_waiting, place_of}
use Rattle.lvm_session.specs.Bringing.{has_row, step_row}
use Rattle.lvm_session.specs.Sound.{IsCopy, IsGoing, waiting_rows, with_row}

abbrev pub row_of : Open → Row
row_of o = record { id = place_of o.request.id; ask = held_of o.request.ask }

rows_low : (n : ℕ) (os : List Open) → AllByRecursion (λ (o : Open). o.request.id < n) os → All (λ (r : Row). r.id < 2 * n) (waiting_rows os)
rows_low n [] all = All-nil (λ (r : Row). r.id < 2 * n)
rows_low n (o ∷ os) all = let low = all.0 in by_test (is_waiting o) (omega (arith, low)) (rows_low n os all.1)
  where
    by_test : (b : Bool) → place_of o.request.id < 2 * n → All (λ (r : Row). r.id < 2 * n) (waiting_rows os) → All (λ (r : Row). r.id < 2 * n) (if b then row_of o ∷ waiting_rows os else waiting_rows os)
    by_test true low rest = All-cons (λ (r : Row). r.id < 2 * n) (row_of o) (waiting_rows os) low rest
    by_test false low rest = rest

step_low : (n : ℕ) (step : Row) (rows : List Row) → step.id < n → All (λ (r : Row). r.id < n) rows → All (λ (r : Row). r.id < n) (with_row step rows)
step_low n step [] low all = All-cons (λ (r : Row). r.id < n) step [] low (All-nil (λ (r : Row). r.id < n))
step_low n step (row ∷ rows) low all = by_test (nat_lt step.id row.id) (step_low n step rows low (All-tail (λ (r : Row). r.id < n) row rows all))
  where
    by_test : (b : Bool) → All (λ (r : Row). r.id < n) (with_row step rows) → All (λ (r : Row). r.id < n) (if b then step ∷ row ∷ rows else row ∷ with_row step rows)
    by_test true rest = All-cons (λ (r : Row). r.id < n) step (row ∷ rows) low all
    by_test false rest = All-cons (λ (r : Row). r.id < n) row (with_row step rows) (All-head (λ (r : Row). r.id < n) row rows all) rest

pub few_waiting : (os : List Open) → length (waiting_rows os) ≤ length os
few_waiting [] = omega arith
few_waiting (o ∷ os) = by_test (is_waiting o) (few_waiting os)
  where
    by_test : (b : Bool) → length (waiting_rows os) ≤ length os → length (if b then row_of o ∷ waiting_rows os else waiting_rows os) ≤ length (o ∷ os)
    by_test true few = omega (arith, few)
    by_test false few = omega (arith, few)

long_with : (step : Row) (rows : List Row) → length (with_row step rows) ≡ length rows + 1
long_with step [] = refl
long_with step (row ∷ rows) = by_test (nat_lt step.id row.id) (long_with step rows)
  where
    by_test : (b : Bool) → length (with_row step rows) ≡ length rows + 1 → length (if b then step ∷ row ∷ rows else row ∷ with_row step rows) ≡ length (row ∷ rows) + 1
    by_test true rest = omega arith
    by_test false rest = omega (arith, rest)

module _ (core : Core) (going : IsGoing core) where
  abbrev rows_by : Option OpenCopy → List Row
  rows_by copy = option_map_or (λ (c : OpenCopy). if has_row core c then with_row (step_row core c) (waiting_rows core.requests) else waiting_rows core.requests) copy (waiting_rows core.requests)

  pub queue_low : AllByRecursion (λ (o : Open). o.request.id < next_id core.history) core.requests → AreBelow core.queue.rows (2 * next_id core.history)
  queue_low all = subst (All (λ (r : Row). r.id < 2 * next_id core.history)) (sym going.queue) (by_copy core.copy going.copy)
    where
      low : All (λ (r : Row). r.id < 2 * next_id core.history) (waiting_rows core.requests)
      low = rows_low (next_id core.history) core.requests all

      by_copy : (copy : Option OpenCopy) → IfSome copy (IsCopy core) → All (λ (r : Row). r.id < 2 * next_id core.history) (rows_by copy)
      by_copy None its = low
      by_copy (Some c) its = by_row (has_row core c)
        where
          place : c.place < 2 * next_id core.history
          place = let less = its.place.1 in let is = its.place.2 in omega (arith, less, is)

          by_row : (b : Bool) → All (λ (r : Row). r.id < 2 * next_id core.history) (if b then with_row (step_row core c) (waiting_rows core.requests) else waiting_rows core.requests)
          by_row true = step_low (2 * next_id core.history) (step_row core c) (waiting_rows core.requests) place low
          by_row false = low

  pub queue_room : length core.requests < core.most → length core.queue.rows < core.queue.room
  queue_room free =
      let same = ap length going.queue in
      let few = by_copy core.copy in
      let room = going.fitting.queue in
      omega (arith, same, few, room, free)
    where
      by_copy : (copy : Option OpenCopy) → length (rows_by copy) ≤ length core.requests + 1
      by_copy None = let few = few_waiting core.requests in omega (arith, few)
      by_copy (Some c) = by_row (has_row core c)
        where
          by_row : (b : Bool) → length (if b then with_row (step_row core c) (waiting_rows core.requests) else waiting_rows core.requests) ≤ length core.requests + 1
          by_row true = let few = few_waiting core.requests in let long = long_with (step_row core c) (waiting_rows core.requests) in omega (arith, few, long)
          by_row false = let few = few_waiting core.requests in omega (arith, few)
