-- The step of the copy leaves the hold queue, and the next one has a place there.
use Rattle.std.proofs.Common.{◌≡◌, ◌<◌, ◌+◌, ◌-◌, ◌*◌, ℕ, Bool, true, false, not, if◌then◌else◌, List, [], ◌∷◌, Option, Some, length, refl, sym, ◌∙◌, ap, subst, arith}
use Rattle.std.specs.Prelude.{◌&&◌, ◌||◌, All, nat_lt}
use Rattle.std.specs.List.{AllByRecursion}
use Rattle.std.specs.Option.{option_map_or}
use Rattle.std.proofs.lemmas.Bool.{eq-eqb, ne_eqb}
use Rattle.std.proofs.lemmas.List.Elements.{All-cons, All-head, All-nil, All-tail}
use Rattle.lvm_vol.specs.Log.{next_id}
use Rattle.lvm_hold.specs.declared.queue.Row.{Row}
use Rattle.lvm_hold.specs.Waiting.{AreBelow, without}
use Rattle.lvm_session.specs.declared.bringing.OpenCopy.{OpenCopy}
use Rattle.lvm_session.specs.declared.open.Open.{Open}
use Rattle.lvm_session.specs.State.{Core}
use Rattle.lvm_session.specs.Judging.{is_running, is_waiting, place_of}
use Rattle.lvm_session.specs.Bringing.{has_row, is_out, is_whole, step_place, step_row}
use Rattle.lvm_session.specs.Sound.{IsCopy, IsGoing, waiting_rows, with_row}
use Rattle.lvm_calls.proofs.LogLemmas.{below_next}
use Rattle.lvm_calls.proofs.WaitingLemmas.{few_waiting, row_of}

-- ---- it leaves

none_leaves : (id : ℕ) (rows : List Row) → All (λ (r : Row). r.id ≡ id → ⊥) rows → without id rows ≡ rows
none_leaves id [] none = refl
none_leaves id (row ∷ rows) none =
    ap (λ (b : Bool). if not b then row ∷ without id rows else without id rows) (ne_eqb row.id id (All-head (λ (r : Row). r.id ≡ id → ⊥) row rows none))
    ∙ ap (λ (rs : List Row). row ∷ rs) (none_leaves id rows (All-tail (λ (r : Row). r.id ≡ id → ⊥) row rows none))

it_leaves : (step : Row) (rows : List Row) → All (λ (r : Row). r.id ≡ step.id → ⊥) rows → without step.id (with_row step rows) ≡ rows
it_leaves step [] none = ap (λ (b : Bool). if not b then step ∷ [] else []) (eq-eqb step.id step.id refl)
it_leaves step (row ∷ rows) none = by_test (it_leaves step rows (All-tail (λ (r : Row). r.id ≡ step.id → ⊥) row rows none)) (nat_lt step.id row.id)
  where
    by_test : without step.id (with_row step rows) ≡ rows → (b : Bool) → without step.id (if b then step ∷ row ∷ rows else row ∷ with_row step rows) ≡ row ∷ rows
    by_test rest true = ap (λ (b : Bool). if not b then step ∷ without step.id (row ∷ rows) else without step.id (row ∷ rows)) (eq-eqb step.id step.id refl) ∙ none_leaves step.id (row ∷ rows) none
    by_test rest false =
        ap (λ (b : Bool). if not b then row ∷ without step.id (with_row step rows) else without step.id (with_row step rows)) (ne_eqb row.id step.id (All-head (λ (r : Row). r.id ≡ step.id → ⊥) row rows none))
        ∙ ap (λ (rs : List Row). row ∷ rs) rest

-- a step stands at an odd place, and requests at even ones
others : (place id : ℕ) (os : List Open) → place ≡ place_of id + 1 → All (λ (r : Row). r.id ≡ place → ⊥) (waiting_rows os)
others place id [] odd = All-nil (λ (r : Row). r.id ≡ place → ⊥)
others place id (o ∷ os) odd = by_test (is_waiting o) (others place id os odd)
  where
    by_test : (b : Bool) → All (λ (r : Row). r.id ≡ place → ⊥) (waiting_rows os) → All (λ (r : Row). r.id ≡ place → ⊥) (if b then row_of o ∷ waiting_rows os else waiting_rows os)
    by_test true rest = All-cons (λ (r : Row). r.id ≡ place → ⊥) (row_of o) (waiting_rows os) (λ same. omega (arith, same, odd)) rest
    by_test false rest = rest

-- the rows of requests below a number stand before the place behind them
rows_before : (n : ℕ) (os : List Open) → AllByRecursion (λ (o : Open). o.request.id < n) os → All (λ (r : Row). r.id < 2 * n - 1) (waiting_rows os)
rows_before n [] all = All-nil (λ (r : Row). r.id < 2 * n - 1)
rows_before n (o ∷ os) all = let low = all.0 in by_test (is_waiting o) (omega (arith, low)) (rows_before n os all.1)
  where
    by_test : (b : Bool) → place_of o.request.id < 2 * n - 1 → All (λ (r : Row). r.id < 2 * n - 1) (waiting_rows os) → All (λ (r : Row). r.id < 2 * n - 1) (if b then row_of o ∷ waiting_rows os else waiting_rows os)
    by_test true low rest = All-cons (λ (r : Row). r.id < 2 * n - 1) (row_of o) (waiting_rows os) low rest
    by_test false low rest = rest

module _ (core : Core) (going : IsGoing core) (c : OpenCopy) (is_open : core.copy ≡ Some c) (its : IsCopy core c) (out : is_out c.step ≡ true) where
  -- once it has left, the requests are left
  left_are : without c.place core.queue.rows ≡ waiting_rows core.requests
  left_are =
      let has : has_row core c ≡ true = ap (λ (b : Bool). b || (is_running c && not (is_whole core c))) out in
      ap (without c.place) (going.queue
      ∙ ap (λ (copy : Option OpenCopy). option_map_or (λ (d : OpenCopy). if has_row core d then with_row (step_row core d) (waiting_rows core.requests) else waiting_rows core.requests) copy (waiting_rows core.requests)) is_open
      ∙ ap (λ (b : Bool). if b then with_row (step_row core c) (waiting_rows core.requests) else waiting_rows core.requests) has)
      ∙ it_leaves (step_row core c) (waiting_rows core.requests) (others c.place its.place.0 core.requests its.place.2)

  -- and the next step may enter behind them
  pub left_before : AreBelow (without c.place core.queue.rows) (step_place core)
  left_before = subst (λ (rows : List Row). AreBelow rows (step_place core)) (sym left_are) (rows_before (next_id core.history) core.requests (below_next core.history core.requests going.told.ordered going.told.requests))

  pub left_room : length (without c.place core.queue.rows) < core.queue.room
  left_room =
      let same = ap length left_are in
      let few = few_waiting core.requests in
      let table = going.fitting.table in
      let room = going.fitting.queue in
      omega (arith, same, few, table, room)
