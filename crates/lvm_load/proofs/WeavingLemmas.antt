-- A session goes on over turns and calls, and the work that is left in it.
use Rattle.std.proofs.Common.{◌≡◌, ◌≤◌, ◌<◌, ◌+◌, ◌-◌, ◌*◌, ◌⊎◌, ◌&&◌, not, inl, inr, ℕ, Bool, true, false, cond, List, length, Option, Some, None, refl, sym, ap, ◌∙◌, subst, arith}
use Rattle.std.specs.Prelude.{MatchOption, count_by, position, sum_by}
use Rattle.std.specs.List.{remove}
use Rattle.std.specs.Option.{option_map_or}
use Rattle.std.proofs.lemmas.List.Sums.{sum_by-remove}
use Rattle.std.proofs.lemmas.Option.{slice_get_within}
use Rattle.lvm_num.specs.declared.descriptor.PvRow.{PvRow}
use Rattle.lvm_vol.specs.declared.entry.Outcome.{Outcome}
use Rattle.lvm_session.specs.declared.open.Open.{Open}
use Rattle.lvm_session.specs.declared.open.Power.{Power}
use Rattle.lvm_session.specs.declared.open.Power.TheVariants as power
use Rattle.lvm_session.specs.declared.answers.Taken.{Taken}
use Rattle.lvm_session.specs.declared.answers.Taken.TheVariants as taken
use Rattle.lvm_session.specs.declared.answers.Turned.{Turned}
use Rattle.lvm_session.specs.declared.answers.Turned.TheVariants as turned
use Rattle.lvm_session.specs.Calls.{TakeAt, TakeGives, TakesLanded, after_take, is_asked}
use Rattle.lvm_session.specs.Enabled.{is_lost}
use Rattle.lvm_path.specs.declared.request.Phase.{Phase}
use Rattle.lvm_path.specs.declared.request.Phase.TheVariants as phase
use Rattle.lvm_path.specs.declared.request.Request.{Request}
use Rattle.lvm_path.specs.Asks.{is_write}
use Rattle.lvm_path.specs.Targets.{is_begun}
use Rattle.lvm_session.specs.Judging.{copies_for, is_changed, is_waiting, destinations_for}
use Rattle.lvm_session.specs.Left.{begun_left, copy_left, if_so, is_held, lacks_dirty, left_by, left_of, phase_left, read_left, request_left, status_left, destination_turns, turns_of, update_work, work_left}
use Rattle.lvm_session.specs.State.{Core, State, is_there}
use Rattle.lvm_session.specs.Turns.{Finds, FindsNothing}
use Rattle.lvm_driver.specs.passed.Going.{RunsOn}
use Rattle.lvm_driver.proofs.passed.Going.{path_frames, runs_both, runs_none, stays_unstuck}
use Rattle.lvm_keeps_events.specs.Telling.{TurnTells}
use Rattle.lvm_load.specs.declared.client.Client.{Client}
use Rattle.lvm_load.specs.Weaving.{NextClient, NoClient, NoneOpen, Takes, TakesFor, TakesEach, Turns, Waits, idle_after, turns_left}

-- what goes on over turns and calls
pub record Runs (first now : State) : Type 0 where
  pub unstuck : now.core.power ≡ power.Stuck → ⊥
  pub runs : RunsOn first now

pub at_first : (first : State) → (first.core.power ≡ power.Stuck → ⊥) → Runs first first
at_first first unstuck = record { unstuck = unstuck; runs = runs_none first }

pub and_then : (first old new : State) → Runs first old → RunsOn old new → Runs first new
and_then first old new so_far runs = record {
  unstuck = stays_unstuck old.core new.core (path_frames runs).keeps.power so_far.unstuck;
  runs = runs_both first old new so_far.runs runs;
}

-- ---- an answer that is taken

-- no more is left where one is removed
fewer : {X : Type 0} (f : X → ℕ) (xs : List X) (k : ℕ) (x : X) → k < length xs → sum_by f (remove xs k) ≤ sum_by f xs
fewer f xs k x within = let both = sum_by-remove f xs k x within in omega (arith, both)

mono : (a b c d d1 e : ℕ) → d1 ≤ d → a + b + c + d1 + e ≤ a + b + c + d + e
mono a b c d d1 e less = omega (arith, less)

module _ (core : Core) (place id : ℕ) (o : Open) (within : place < length core.requests) where
  -- what a request leaves to be done doesn't hang on the others, nor on the history
  phase_same : (p : Phase) (r : Request) → phase_left p (after_take core place id) r ≡ phase_left p core r
  phase_same phase.Held r = refl
  phase_same phase.WantEntry r = refl
  phase_same phase.WantRecord r = refl
  phase_same phase.Data r = refl
  phase_same phase.WantStatus r = refl
  phase_same phase.Landed r = refl

  abbrev beside_phase : Request → ℕ
  beside_phase r = update_work + sum_by (turns_of core) (copies_for core r.ask) + sum_by (destination_turns core) (destinations_for core r.ask) + if_so (lacks_dirty core r.ask) update_work + if_so (not (is_held r.phase) && is_changed core r) 12

  request_same : (q : Open) → request_left (after_take core place id) q ≡ request_left core q
  request_same q = ap (λ (n : ℕ). if_so (is_waiting q) (cond (is_write q.request.ask) (cond (is_begun q.request.targets.items) (begun_left q.request) (beside_phase q.request + n)) (read_left q.request.phase q.request)))
      (phase_same q.request.phase q.request)

  requests_same : request_left (after_take core place id) ≡ request_left core
  requests_same = λ i q. request_same q i

  less_work : work_left (after_take core place id) ≤ work_left core
  less_work =
      let there = (update_work + 1) * count_by (λ (row : PvRow). is_there core row.disk) core.descriptor.pvs in
      let copy = option_map_or (copy_left core) core.copy 0 in
      subst (λ (f : Open → ℕ). length core.flying + there + status_left core + sum_by f (remove core.requests place) + copy ≤ work_left core) (sym requests_same)
      (mono (length core.flying) there (status_left core) (sum_by (request_left core) core.requests) (sum_by (request_left core) (remove core.requests place)) copy (fewer (request_left core) core.requests place o within))

  less_lost : length core.flying + count_by is_waiting (remove core.requests place) ≤ length core.flying + count_by is_waiting core.requests
  less_lost = let less = fewer (λ (r : Open). cond (is_waiting r) 1 0) core.requests place o within in omega (arith, less)

  by_votes : (lost : Bool) → cond lost (length core.flying + count_by is_waiting (remove core.requests place)) (work_left (after_take core place id)) ≤ cond lost (length core.flying + count_by is_waiting core.requests) (work_left core)
  by_votes true = less_lost
  by_votes false = less_work

  by_power : (p : Power) → left_by p (after_take core place id) ≤ left_by p core
  by_power power.On = by_votes (is_lost core)
  by_power power.Off = omega arith
  by_power power.Dark = omega arith
  by_power power.Stuck = omega arith

  take_left : left_of (after_take core place id) ≤ left_of core
  take_left = by_power core.power

same_left : (old new : Core) → new ≡ old → left_of new ≤ left_of old
same_left old new is = let same = ap left_of is in omega (arith, same)

-- no more work is left where an answer is taken
pub take_leaves : (old new : Core) (client id : ℕ) (how : Taken) → TakeGives old new client id how → left_of new ≤ left_of old
take_leaves old new client id how gives = by (position (is_asked client id) old.requests) gives
  where
    landed : (place : ℕ) (o : Open) → place < length old.requests → (l : Option Outcome) → TakesLanded old new place o how l → left_of new ≤ left_of old
    landed place o within None takes = same_left old new takes.1
    landed place o within (Some so) takes = let less = take_left old place o.request.id o within in let same = ap left_of takes.1 in omega (arith, less, same)

    by : (p : Option ℕ) → MatchOption p ((how ≡ taken.Unknown) × (new ≡ old)) (λ (place : ℕ). TakeAt old new place how) → left_of new ≤ left_of old
    by None none = same_left old new none.1
    by (Some place) at = landed place at.0 (slice_get_within old.requests place at.0 at.1) at.0.landed at.2

-- ---- a turn

same_core : {old new : State} → Finds old new ⊎ FindsNothing old new → new.core ≡ old.core
same_core (inl finds) = finds.is
same_core (inr nothing) = ap (λ (s : State). s.core) nothing.is

over_left : (core : Core) (p : Power) → core.power ≡ p → left_by p core ≡ 0 → left_of core ≡ 0
over_left core p is none = ap (λ (q : Power). left_by q core) is ∙ none

-- fewer turns are left after each, while fewer than a million have moved nothing
pub turn_leaves : (old new : State) (answer : Turned) (idle : ℕ) → TurnTells old new answer → idle < 1000000 → turns_left new.core (idle_after answer idle) < turns_left old.core idle
turn_leaves old new turned.Moved idle tells few = let less = tells.moved refl in omega (arith, less, few)
turn_leaves old new turned.Idle idle tells few = let same = ap left_of (same_core (tells.idle.0 refl).still) in omega (arith, same, few)
turn_leaves old new turned.Dark idle tells few = let none = over_left new.core power.Dark tells.power_is refl in omega (arith, none, few)
turn_leaves old new turned.Off idle tells few = let none = over_left new.core power.Off tells.power_is refl in omega (arith, none, few)

-- ---- the answers of many

taken_leaves : (k : ℕ) (old new : State) (clients after : List Client) → TakesFor k old new clients after → left_of new.core ≤ left_of old.core
taken_leaves k old new clients after (NoneOpen none same still) = let is = ap (λ (s : State). left_of s.core) same in omega (arith, is)
taken_leaves k old new clients after (Waits id is gives shelf still) = take_leaves old.core new.core (k + 1) id taken.NotYet gives
taken_leaves k old new clients after (Takes c id how at is gives other shelf set) = take_leaves old.core new.core (k + 1) id how gives

pub landed_leaves : (first : State) (clients : List Client) (n : ℕ) (new : State) (after : List Client) → TakesEach first clients n new after → left_of new.core ≤ left_of first.core
landed_leaves first clients n new after NoClient = omega arith
landed_leaves first clients n new after (NextClient {k = k} {old = old} {before = before} so_far takes) =
    let less = landed_leaves first clients k old before so_far in
    let fewer = taken_leaves k old new before after takes in
    omega (arith, less, fewer)

pub shrinks : (left0 left1 left2 idle0 idle1 : ℕ) → left1 * 1000001 + (1000000 - idle1) < left0 * 1000001 + (1000000 - idle0) → left2 ≤ left1
    → left2 * 1000001 + (1000000 - idle1) < left0 * 1000001 + (1000000 - idle0)
shrinks left0 left1 left2 idle0 idle1 less fewer = omega (arith, less, fewer)

-- ---- how many turns have moved nothing

idle_bound : (answer : Turned) (n : ℕ) → n < 1000000 → idle_after answer n ≤ 1000000
idle_bound turned.Moved n few = omega arith
idle_bound turned.Idle n few = omega (arith, few)
idle_bound turned.Dark n few = omega (arith, few)
idle_bound turned.Off n few = omega (arith, few)

pub turn_bound : (old new : State) (clients after : List Client) (idle idle1 : ℕ) → Turns old new clients after idle idle1 → idle < 1000000 → idle1 ≤ 1000000
turn_bound old new clients after idle idle1 made few = subst (λ (n : ℕ). n ≤ 1000000) (sym made.idle_is) (idle_bound made.answer idle few)
