-- The table as all its requests are aged, and the hold queue as a step enters behind them.
use Rattle.std.proofs.Common.{◌≡◌, ◌<◌, ◌+◌, ◌-◌, ◌*◌, ◌++◌, ℕ, Bool, true, false, if◌then◌else◌, List, [], ◌∷◌, Option, None, length, map, take, drop, get_or, slice_set, sym, ◌∙◌, ap, subst, arith}
use Rattle.std.specs.Prelude.{All}
use Rattle.std.specs.List.{AllByRecursion}
use Rattle.std.specs.Option.{option_map_or}
use Rattle.std.proofs.lemmas.Grind.{common_steps}
use Rattle.std.proofs.lemmas.List.{get_or_default}
use Rattle.std.proofs.lemmas.List.Edits.{map_over_more}
use Rattle.std.proofs.lemmas.List.Elements.{All-cons, All-nil}
use Rattle.lvm_vol.specs.Log.{next_id}
use Rattle.lvm_hold.specs.declared.queue.Row.{Row}
use Rattle.lvm_hold.specs.Waiting.{AreBelow}
use Rattle.lvm_session.specs.declared.bringing.OpenCopy.{OpenCopy}
use Rattle.lvm_session.specs.declared.open.Open.{Open}
use Rattle.lvm_session.specs.State.{Core}
use Rattle.lvm_session.specs.Bringing.{has_row, step_place, step_row}
use Rattle.lvm_session.specs.Judging.{is_waiting, place_of}
use Rattle.lvm_session.specs.Calls.{aged}
use Rattle.lvm_session.specs.Ends.{with_step}
use Rattle.lvm_session.specs.Sound.{IsGoing, waiting_rows, with_row}
use Rattle.lvm_calls.proofs.LogLemmas.{below_next}
use Rattle.lvm_calls.proofs.WaitingLemmas.{few_waiting, row_of}

-- one more is aged
pub aged_more : (all now : List Open) (i : ℕ) (d : Open) → i < length all → now ≡ map aged (take i all) ++ drop i all → slice_set now i (aged (get_or now i d)) ≡ map aged (take (i + 1) all) ++ drop (i + 1) all
aged_more all now i d below so_far = map_over_more aged all now i (get_or now i d) below so_far (get_or_default now i d (get_or now i d) within)
  where
    fits : length (map aged (take i all) ++ drop i all) ≡ length all
    fits = grind (arith, common_steps)

    within : i < length now
    within = let same = ap length so_far in let long = fits in omega (arith, below, same, long)

-- the rows of requests below a number stand before the place behind them
rows_before : (n : ℕ) (os : List Open) → AllByRecursion (λ (o : Open). o.request.id < n) os → All (λ (r : Row). r.id < 2 * n - 1) (waiting_rows os)
rows_before n [] all = All-nil (λ (r : Row). r.id < 2 * n - 1)
rows_before n (o ∷ os) all = let low = all.0 in by_test (is_waiting o) (omega (arith, low)) (rows_before n os all.1)
  where
    by_test : (b : Bool) → place_of o.request.id < 2 * n - 1 → All (λ (r : Row). r.id < 2 * n - 1) (waiting_rows os) → All (λ (r : Row). r.id < 2 * n - 1) (if b then row_of o ∷ waiting_rows os else waiting_rows os)
    by_test true low rest = All-cons (λ (r : Row). r.id < 2 * n - 1) (row_of o) (waiting_rows os) low rest
    by_test false low rest = rest

module _ (core : Core) (going : IsGoing core) (none : core.copy ≡ None) where
  pub rows_are : core.queue.rows ≡ waiting_rows core.requests
  rows_are = going.queue ∙ ap (λ (copy : Option OpenCopy). option_map_or (λ (c : OpenCopy). if has_row core c then with_row (step_row core c) (waiting_rows core.requests) else waiting_rows core.requests) copy (waiting_rows core.requests)) none

  -- a step may enter behind all that are inside
  pub queue_before : AreBelow core.queue.rows (step_place core)
  queue_before = subst (λ (rows : List Row). AreBelow rows (step_place core)) (sym rows_are) (rows_before (next_id core.history) core.requests (below_next core.history core.requests going.told.ordered going.told.requests))

  -- which have room for one more
  pub queue_room : length core.queue.rows < core.queue.room
  queue_room =
      let same = ap length rows_are in
      let few = few_waiting core.requests in
      let table = going.fitting.table in
      let room = going.fitting.queue in
      omega (arith, same, few, table, room)

-- ---- what the opening leaves

pub step_enters : (core after new : Core) (c k : OpenCopy) → after ≡ record core { requests = map aged core.requests } → new ≡ with_step after c → c ≡ k → new ≡ with_step (record core { requests = map aged core.requests }) k
step_enters core after new c k ages enters is = enters ∙ ap (λ (x : Core). with_step x c) ages ∙ ap (with_step (record core { requests = map aged core.requests })) is
