-- A session in which nothing is out doesn't stand still.
use Rattle.std.proofs.Common.{◌≡◌, ◌++◌, ◌⊎◌, inl, inr, ◌==◌, ◌≤◌, ◌<◌, ◌+◌, ◌*◌, ◌/◌, ◌&&◌, ◌||◌, ℕ, zero, suc, Bool, true, false, not, nat_le, nat_lt, filter, find, List, [], ◌∷◌, Option, Some, None, length, slice_get, if◌then◌else◌, refl, sym, ◌∙◌, ap, subst, arith}
use Rattle.std.specs.Prelude.{IfSome, bytes_eq, count_by, is_none, is_some, position, slice_index_or, unwrap_or}
use Rattle.std.specs.List.{list_all, list_any, AllByRecursion}
use Rattle.std.specs.Option.{option_map, option_map_or}
use Rattle.std.proofs.Math.Nat.{div-div-eq-div-mul}
use Rattle.std.proofs.lemmas.Bool.{eq-eqb, eqb-true, ltb-true, or_parts}
use Rattle.std.proofs.lemmas.Bool.Decides.{nat_tests}
use Rattle.lvm_num.specs.Buffer.{Buffer}
use Rattle.lvm_num.specs.declared.descriptor.Descriptor.{Descriptor}
use Rattle.lvm_num.specs.declared.descriptor.Mode.{Mode}
use Rattle.lvm_num.specs.declared.descriptor.Mode.TheVariants as mode
use Rattle.lvm_num.specs.declared.descriptor.Policy.{Policy}
use Rattle.lvm_num.specs.declared.descriptor.Policy.TheVariants as policy
use Rattle.lvm_num.specs.declared.descriptor.PvRow.{PvRow}
use Rattle.lvm_num.specs.declared.place.Pp.{Pp}
use Rattle.lvm_num.specs.declared.status.Status.{Status}
use Rattle.lvm_num.specs.declared.status.StatusRow.{StatusRow}
use Rattle.lvm_num.specs.Disks.{has}
use Rattle.lvm_num.specs.Status.{calls_dirty, calls_missing, calls_stale}
use Rattle.lvm_num.specs.Descriptor.{is_member, is_pp}
use Rattle.lvm_num.specs.Geometry.{partition_of}
use Rattle.lvm_num.specs.Votes.{is_enough_to_write, votes_in}
use Rattle.lvm_disk.specs.Device.{Flight}
use Rattle.lvm_vol.specs.declared.entry.Outcome.{Outcome}
use Rattle.lvm_vol.specs.declared.entry.Outcome.TheVariants as outcome
use Rattle.lvm_hold.specs.Conflicts.{IsInGroup, conflicts, have_common_block, is_write as is_writing}
use Rattle.lvm_hold.specs.declared.queue.Row.{Row}
use Rattle.lvm_hold.specs.Waiting.{is_blocked}
use Rattle.lvm_mwc.specs.declared.entries.CacheEntry.{CacheEntry}
use Rattle.lvm_mwc.specs.Cache.{flight_on, is_named}
use Rattle.lvm_mwc.specs.Entries.{Differ, has_entry, is_entry, is_unpinned, pins_of}
use Rattle.lvm_mwc.proofs.FirstsLemmas.{none_at}
use Rattle.lvm_sched.specs.declared.writes.TargetState.{TargetState}
use Rattle.lvm_sched.specs.declared.writes.TargetState.TheVariants as stage
use Rattle.lvm_sched.specs.Writes.{is_flying, is_waiting as is_unstarted, next_target}
use Rattle.lvm_path.specs.declared.ask.Ask.{Ask}
use Rattle.lvm_path.specs.declared.facts.Facts.{Facts}
use Rattle.lvm_path.specs.declared.facts.Next.{Next}
use Rattle.lvm_path.specs.declared.facts.Next.TheVariants as next
use Rattle.lvm_path.specs.declared.request.Phase.{Phase}
use Rattle.lvm_path.specs.declared.request.Phase.TheVariants as phase
use Rattle.lvm_path.specs.declared.request.Request.{Request}
use Rattle.lvm_path.specs.declared.target.Target.{Target}
use Rattle.lvm_path.specs.Asks.{at_of, count_of, is_write, lv_of}
use Rattle.lvm_path.specs.Targets.{are_over, is_begun, is_done, is_failed, is_over as is_ended, states_of}
use Rattle.lvm_path.specs.Next.{next_chosen, next_data, next_in, next_read, next_write, start_or_wait}
use Rattle.lvm_status.specs.Update.{is_held, is_owed, is_there as is_there_so, seen}
use Rattle.lvm_session.specs.declared.bringing.CopyEnd.{CopyEnd}
use Rattle.lvm_session.specs.declared.bringing.CopyEnd.TheVariants as ending
use Rattle.lvm_session.specs.declared.bringing.OpenCopy.{OpenCopy}
use Rattle.lvm_session.specs.declared.bringing.Step.{Step}
use Rattle.lvm_session.specs.declared.bringing.Step.TheVariants as step
use Rattle.lvm_session.specs.declared.event.Event.{Event}
use Rattle.lvm_session.specs.declared.event.Event.TheVariants as event
use Rattle.lvm_session.specs.declared.flown.Flown.{Flown}
use Rattle.lvm_session.specs.declared.flown.Owner.{Owner}
use Rattle.lvm_session.specs.declared.flown.Owner.TheVariants as owner
use Rattle.lvm_session.specs.declared.open.Open.{Open}
use Rattle.lvm_session.specs.declared.open.Power.TheVariants as power
use Rattle.lvm_session.specs.State.{Core, State, is_there}
use Rattle.lvm_session.specs.Judging.{is_sure_at, aims, all_but_sure, copies_for, copies_in, counts_failed, facts_of, group_in, group_of, has_dirty_mark, has_names, held_of, is_beside, is_beside_copy, is_caught, stays_fresh, is_failing, is_held_back, is_held_by_move, is_kept, is_marked, is_missing, is_move_done, is_past_held, is_pending, is_running, is_settled, is_stale, is_sure, is_under_way, is_usable, is_waiting, is_wanted_stale, lp_of, mode_of, next_for, destination_aims, place_of, destinations_if, pps_of, same_pps}
use Rattle.lvm_session.specs.Bringing.{end_of, ends_if, hand_of, has_row, is_cleared, is_idle, is_out, is_whole, next_source, sources_of, step_of, step_row}
use Rattle.lvm_session.specs.Enabled.{Part, admission_at, can_pin, copy_read, copy_write, data_at, data_start, first_event, first_from, first_of, has_buffer, is_admit, is_free_step, is_lost, is_pin, is_status_due, is_unnamed, landing, landing_at, may_be_admitted, may_pin, may_read, may_write, note_at, note_due, note_start, or_next, outcome_next, parts_to_settle, parts_to_start, pinning_at, same_row, same_rows, same_status, target_due, target_next, wants_record}
use Rattle.lvm_session.specs.Dark.{hand_of_copy}
use Rattle.lvm_session.specs.Owners.{AreRows, flies, same_owner, target_flies}
use Rattle.lvm_session.specs.Requests.{IsAimed, IsMarkedDestination, IsOpenOne, IsPhase, IsRecorded, IsRequest, IsTarget, is_failed_and_sure, is_wanted_due, is_wanted_dirty, mode_for, wants_status, will_be_kept}
use Rattle.lvm_session.specs.Sound.{IsCopy, IsGoing, IsOfKind, IsSound, count_if, has_number, is_dark, is_hand, pins, waiting_rows, with_row}
use Rattle.lvm_session.proofs.MovesLemmas.{IsOpenPlace, move_of, place_open}
use Rattle.std.proofs.lemmas.Slice.Eq.{bytes_eq-Decides}
use Rattle.lvm_num.proofs.Booleans.{and_false, and_true, not_so, none_if, same_by_if}
use Rattle.lvm_num.proofs.Lists.{none_each, all_false, all_at}
use Rattle.lvm_keeps.specs.Falls.{NeverStandsStill}
use Rattle.lvm_keeps.proofs.Lists.{count_cons}
use Rattle.lvm_keeps.proofs.Small.{both, is_false}
use Rattle.lvm_keeps.proofs.VotesLemmas.{enough_more, more_votes}
use Rattle.lvm_keeps_events.proofs.JudgingLemmas.DuesMarks.{is_sure_done}
use Rattle.lvm_keeps_events.proofs.TargetsLemmas.{count_none}
use Rattle.lvm_keeps_events.proofs.JudgingLemmas.Chosen.{there_now}
use Rattle.lvm_keeps_events.proofs.KeepsLemmas.Admission.{some_long}
use Rattle.lvm_keeps_events.proofs.Lists.{by_places, or_true}
use Rattle.lvm_keeps_events.proofs.UncaughtLemmas.{kept_of}

-- ---- tests and lists

or_none : (a b : Option Event) → or_next a b ≡ None → (a ≡ None) × (b ≡ None)
or_none None b e = (refl, e)
or_none (Some it) b e = absurd (cc e)

module _ {A : Type 0} where
  none_any : (t : A → Bool) (xs : List A) → AllByRecursion (λ (x : A). t x ≡ false) xs → list_any t xs ≡ false
  none_any t [] all = refl
  none_any t (x ∷ xs) all = ap (λ b. b || list_any t xs) all.0 ∙ none_any t xs all.1

-- of none an event is made
none_made : (make : ℕ → Open → Option Event) (k : ℕ) (os : List Open) → first_from make k os ≡ None → (place : ℕ) (o : Open) → slice_get os place ≡ Some o → make (k + place) o ≡ None
none_made make k [] none place o there = absurd (cc there)
none_made make k (x ∷ os) none zero o there = let is : x ≡ o = cc there in (let same : k + 0 ≡ k = omega arith in ap (λ n. make n o) same) ∙ ap (make k) (sym is) ∙ (or_none (make k x) (first_from make (k + 1) os) none).0
none_made make k (x ∷ os) none (suc place) o there = (let same : k + suc place ≡ k + 1 + place = omega arith in ap (λ n. make n o) same) ∙ none_made make (k + 1) os (or_none (make k x) (first_from make (k + 1) os) none).1 place o there

no_option : {A : Type 0} (f : A → Event) (m : Option A) → option_map f m ≡ None → m ≡ None
no_option f None is = refl
no_option f (Some x) is = absurd (cc is)

-- ---- targets of which none is out

none_flies : (ts : List Target) → ((k : ℕ) → option_map_or (λ (t : Target). is_flying t.state) (slice_get ts k) false ≡ false) → list_any (λ (t : Target). is_flying t.state) ts ≡ false
none_flies [] each = refl
none_flies (t ∷ ts) each = ap (λ b. b || list_any (λ (u : Target). is_flying u.state) ts) (each zero) ∙ none_flies ts (λ k. each (suc k))

states_fly : (ts : List Target) → list_any is_flying (states_of ts) ≡ list_any (λ (t : Target). is_flying t.state) ts
states_fly [] = refl
states_fly (t ∷ ts) = ap (λ b. is_flying t.state || b) (states_fly ts)

states_wait : (ts : List Target) → list_any is_unstarted (states_of ts) ≡ list_any (λ (t : Target). is_unstarted t.state) ts
states_wait [] = refl
states_wait (t ∷ ts) = ap (λ b. is_unstarted t.state || b) (states_wait ts)

-- a write that starts none has started all
no_target : (how : Policy) (ts : List Target) → list_any (λ (t : Target). is_flying t.state) ts ≡ false → next_target how (states_of ts) ≡ None → list_any (λ (t : Target). is_unstarted t.state) ts ≡ false
no_target how ts idle none = sym (states_wait ts) ∙ by how none
  where
    at : position is_unstarted (states_of ts) ≡ None → list_any is_unstarted (states_of ts) ≡ false
    at e = (none_at is_unstarted (states_of ts) e).any

    by : (p : Policy) → next_target p (states_of ts) ≡ None → list_any is_unstarted (states_of ts) ≡ false
    by policy.Sequential e = at (sym (ap (λ (b : Bool). if b then None else position is_unstarted (states_of ts)) (states_fly ts ∙ idle)) ∙ e)
    by policy.Parallel e = at e
    by policy.ParallelWrite e = at e
    by policy.RoundRobin e = at e

all_ended : (ts : List Target) → list_any (λ (t : Target). is_flying t.state) ts ≡ false → list_any (λ (t : Target). is_unstarted t.state) ts ≡ false → are_over ts ≡ true
all_ended [] a b = refl
all_ended (t ∷ ts) a b = by t.state (or_parts (is_flying t.state) (list_any (λ (u : Target). is_flying u.state) ts) a) (or_parts (is_unstarted t.state) (list_any (λ (u : Target). is_unstarted u.state) ts) b) (λ e f. all_ended ts e f)
  where
    by : (st : TargetState) → (is_flying st ≡ false) × (list_any (λ (u : Target). is_flying u.state) ts ≡ false) → (is_unstarted st ≡ false) × (list_any (λ (u : Target). is_unstarted u.state) ts ≡ false)
        → (list_any (λ (u : Target). is_flying u.state) ts ≡ false → list_any (λ (u : Target). is_unstarted u.state) ts ≡ false → are_over ts ≡ true) → is_ended st && are_over ts ≡ true
    by stage.Waiting p q rest = not_so (sym q.0)
    by stage.Flying p q rest = not_so (sym p.0)
    by stage.Done p q rest = rest p.1 q.1
    by stage.Failed p q rest = rest p.1 q.1

over_begun : (ts : List Target) → 1 ≤ length ts → are_over ts ≡ true → is_begun ts ≡ true
over_begun [] some over = absurd (omega (arith, some))
over_begun (t ∷ ts) some over = by t.state over
  where
    by : (st : TargetState) → is_ended st && are_over ts ≡ true → not (is_unstarted st) || is_begun ts ≡ true
    by stage.Waiting e = not_so e
    by stage.Flying e = not_so e
    by stage.Done e = refl
    by stage.Failed e = refl

some_there : (ts : List Target) (n : ℕ) (t : Target) → slice_get ts n ≡ Some t → 1 ≤ length ts
some_there [] n t there = absurd (cc there)
some_there (x ∷ ts) n t there = omega arith

some_waits : (ts : List Target) → 1 ≤ length ts → is_begun ts ≡ false → list_any (λ (t : Target). is_unstarted t.state) ts ≡ true
some_waits [] some e = absurd (omega (arith, some))
some_waits (t ∷ ts) some e = by t.state e
  where
    by : (st : TargetState) → not (is_unstarted st) || is_begun ts ≡ false → is_unstarted st || list_any (λ (u : Target). is_unstarted u.state) ts ≡ true
    by stage.Waiting f = refl
    by stage.Flying f = not_so (sym f)
    by stage.Done f = not_so (sym f)
    by stage.Failed f = not_so (sym f)

-- ---- a write whose staleness is settled, where what is wanted is committed

-- a place to which a move copies isn't sure where the write that is kept or lost is due there
abbrev pub IsPlaceMarked : Core → Bool → Target → Type 0
IsPlaceMarked core kept t = t.moves && (if kept then is_failed t.state && is_sure core t.pp else is_sure core t.pp) ≡ false

module _ (core : Core) (wanted : (p : Pp) → is_wanted_stale core p ≡ is_stale core p) (settled : (p : Pp) → is_settled core p ≡ is_stale core p) where
  sure_is : (p : Pp) → is_sure core p ≡ not (is_stale core p)
  sure_is p = ap (λ b. not (is_stale core p) && not b) (wanted p) ∙ by (is_stale core p)
    where
      by : (b : Bool) → not b && not b ≡ not b
      by true = refl
      by false = refl

  failed_at : (m f u : Bool) → m && (f && u) ≡ false → f && (not m && u) ≡ (f && u)
  failed_at false f u e = refl
  failed_at true true u e = sym e
  failed_at true false u e = refl

  sure_at : (m u : Bool) → m && u ≡ false → (not m && u) ≡ u
  sure_at false u e = refl
  sure_at true u e = sym e

  kept_marked : (ts : List Target) → AllByRecursion (IsPlaceMarked core true) ts → count_by (is_failed_and_sure core) ts ≤ 0 → list_all (λ (t : Target). not (counts_failed core t) || is_settled core t.pp) ts ≡ true
  kept_marked [] places few = refl
  kept_marked (t ∷ ts) places few =
      ap (λ b. b && list_all (λ (u : Target). not (counts_failed core u) || is_settled core u.pp) ts) one ∙ kept_marked ts places.1 (let more = count_cons (is_failed_and_sure core) t ts in omega (arith, more, few))
    where
      not_sure : is_failed t.state && not (is_stale core t.pp) ≡ false
      not_sure = by (is_failed t.state && is_sure_at core t) (failed_at t.moves (is_failed t.state) (is_sure core t.pp) places.0 ∙ ap (λ b. is_failed t.state && b) (sure_is t.pp)) (let more = count_cons (is_failed_and_sure core) t ts in omega (arith, more, few))
        where
          by : (b : Bool) → b ≡ (is_failed t.state && not (is_stale core t.pp)) → count_if b ≤ 0 → is_failed t.state && not (is_stale core t.pp) ≡ false
          by false e low = sym e
          by true e low = absurd (omega (arith, low))

      one : not (counts_failed core t) || is_settled core t.pp ≡ true
      one = ap (λ b. not (is_failed t.state || (t.usable && is_wanted_stale core t.pp)) || b) (settled t.pp) ∙ ap (λ b. not (is_failed t.state || (t.usable && b)) || is_stale core t.pp) (wanted t.pp) ∙ by (is_failed t.state) t.usable (is_stale core t.pp) not_sure
        where
          by : (f u st : Bool) → f && not st ≡ false → not (f || (u && st)) || st ≡ true
          by true u true e = or_true (not true)
          by true u false e = not_so (sym e)
          by false true true e = refl
          by false true false e = refl
          by false false st e = refl

  none_sure : (ts : List Target) → AllByRecursion (IsPlaceMarked core false) ts → are_over ts ≡ true → list_any (is_sure_done core) ts ≡ false → count_by (is_failed_and_sure core) ts ≤ 0 → list_all (λ (t : Target). is_settled core t.pp) ts ≡ true
  none_sure [] places over kept few = refl
  none_sure (t ∷ ts) places over kept few =
      let a = both (is_ended t.state) (are_over ts) over in
      let b = or_parts (is_sure_done core t) (list_any (is_sure_done core) ts) kept in
      let more = count_cons (is_failed_and_sure core) t ts in
      ap (λ c. c && list_all (λ (u : Target). is_settled core u.pp) ts) (settled t.pp ∙ by (is_done t.state) (is_failed t.state) (is_sure_at core t) (is_stale core t.pp) (sure_at t.moves (is_sure core t.pp) places.0 ∙ sure_is t.pp) a.0 b.0 (omega (arith, more, few))) ∙ none_sure ts places.1 a.1 b.1 (omega (arith, more, few))
    where
      by : (d f u st : Bool) → u ≡ not st → d || f ≡ true → d && u ≡ false → count_if (f && u) ≤ 0 → st ≡ true
      by d f u true e over_so not_kept low = refl
      by true f true false e over_so not_kept low = not_so (sym not_kept)
      by false true true false e over_so not_kept low = absurd (omega (arith, low))
      by false false true false e over_so not_kept low = not_so over_so
      by d f false false e over_so not_kept low = not_so e

  lost_marked : (ts : List Target) → AllByRecursion (IsPlaceMarked core false) ts → are_over ts ≡ true → list_any (is_sure_done core) ts ≡ false → count_by (is_failed_and_sure core) ts ≤ 1 → list_all (λ (t : Target). is_settled core t.pp) (all_but_sure core ts) ≡ true
  lost_marked [] places over kept few = refl
  lost_marked (t ∷ ts) places over kept few = by (is_sure_at core t) refl (λ low. lost_marked ts places.1 a.1 b.1 low)
    where
      a : (is_ended t.state ≡ true) × (are_over ts ≡ true)
      a = both (is_ended t.state) (are_over ts) over

      b : (is_sure_done core t ≡ false) × (list_any (is_sure_done core) ts ≡ false)
      b = or_parts (is_sure_done core t) (list_any (is_sure_done core) ts) kept

      failed : (d f u : Bool) → u ≡ true → d || f ≡ true → d && u ≡ false → count_if (f && u) ≡ 1
      failed true f true e over_so not_kept = not_so (sym not_kept)
      failed false true true e over_so not_kept = refl
      failed false false true e over_so not_kept = not_so over_so
      failed d f false e over_so not_kept = not_so e

      by : (c : Bool) → is_sure_at core t ≡ c → (count_by (is_failed_and_sure core) ts ≤ 1 → list_all (λ (u : Target). is_settled core u.pp) (all_but_sure core ts) ≡ true)
          → list_all (λ (u : Target). is_settled core u.pp) (if c then ts else t ∷ all_but_sure core ts) ≡ true
      by true is rest = none_sure ts places.1 a.1 b.1 (let more = count_cons (is_failed_and_sure core) t ts in let one = failed (is_done t.state) (is_failed t.state) (is_sure_at core t) is a.0 b.0 in omega (arith, more, one, few))
      by false is rest = ap (λ c. c && list_all (λ (u : Target). is_settled core u.pp) (all_but_sure core ts)) (settled t.pp ∙ stale_so (is_stale core t.pp) (sym (sure_at t.moves (is_sure core t.pp) places.0 ∙ sure_is t.pp) ∙ is)) ∙ rest (let more = count_cons (is_failed_and_sure core) t ts in omega (arith, more, few))
        where
          stale_so : (st : Bool) → not st ≡ false → st ≡ true
          stale_so true e = refl
          stale_so false e = not_so (sym e)

  all_marked : (r : Request) → AllByRecursion (IsPlaceMarked core (is_kept core r)) r.targets.items → are_over r.targets.items ≡ true → is_wanted_due core r ≡ true → is_marked core r ≡ true
  all_marked r places over due = by (is_kept core r) refl places due
    where
      at_most : (n m : ℕ) → nat_le n m ≡ true → n ≤ m
      at_most n m e = grind (arith, nat_tests, e)

      at_most_one : (n : ℕ) (b : Bool) → nat_le n (if b then 0 else 1) ≡ true → n ≤ 1
      at_most_one n true e = let none = at_most n 0 e in omega (arith, none)
      at_most_one n false e = at_most n 1 e

      by : (b : Bool) → is_kept core r ≡ b → AllByRecursion (IsPlaceMarked core b) r.targets.items → nat_le (count_by (is_failed_and_sure core) r.targets.items) (if b || will_be_kept core r then 0 else 1) ≡ true
          → (if b then list_all (λ (t : Target). not (counts_failed core t) || is_settled core t.pp) r.targets.items else list_all (λ (t : Target). is_settled core t.pp) (all_but_sure core r.targets.items)) ≡ true
      by true is all e = kept_marked r.targets.items all (at_most (count_by (is_failed_and_sure core) r.targets.items) 0 e)
      by false is all e = lost_marked r.targets.items all over is (at_most_one (count_by (is_failed_and_sure core) r.targets.items) (will_be_kept core r) e)

-- ---- a cache of which nothing is pinned

found_none : (es : List CacheEntry) (lv group : ℕ) → has_entry es lv group ≡ false → pins_of es lv group ≡ 0
found_none [] lv group none = refl
found_none (e ∷ es) lv group none = let it = or_parts (is_entry lv group e) (has_entry es lv group) none in ap (λ b. option_map_or (λ (x : CacheEntry). x.pins) (if b then Some e else find (is_entry lv group) es) 0) it.0 ∙ found_none es lv group it.1

unpinned_all : (es : List CacheEntry) → Differ es → ((lv group : ℕ) → pins_of es lv group ≡ 0) → count_by (λ (e : CacheEntry). not (is_unpinned e)) es ≡ 0
unpinned_all [] differ none = refl
unpinned_all (e ∷ es) differ none =
    let more = count_cons (λ (x : CacheEntry). not (is_unpinned x)) e es in
    let rest = unpinned_all es differ.1 others in
    let zero_here : count_if (not (e.pins == 0)) ≡ 0 = ap (λ n. count_if (not (n == 0))) first in
    omega (arith, more, rest, zero_here)
  where
    own : is_entry e.lv e.group e ≡ true
    own = ap (λ b. b && e.group == e.group) (eq-eqb e.lv e.lv refl) ∙ eq-eqb e.group e.group refl

    first : e.pins ≡ 0
    first = sym (ap (λ b. option_map_or (λ (x : CacheEntry). x.pins) (if b then Some e else find (is_entry e.lv e.group) es) 0) own) ∙ none e.lv e.group

    others : (lv group : ℕ) → pins_of es lv group ≡ 0
    others lv group = by (e.lv == lv) (e.group == group) refl refl
      where
        by : (a b : Bool) → (e.lv == lv) ≡ a → (e.group == group) ≡ b → pins_of es lv group ≡ 0
        by true true i j = ap (λ n. pins_of es n group) (sym (eqb-true e.lv lv i)) ∙ ap (λ n. pins_of es e.lv n) (sym (eqb-true e.group group j)) ∙ found_none es e.lv e.group differ.0
        by true false i j = sym (ap (λ b. option_map_or (λ (x : CacheEntry). x.pins) (if b then Some e else find (is_entry lv group) es) 0) (ap (λ b. b && e.group == group) i ∙ j)) ∙ none lv group
        by false b i j = sym (ap (λ b. option_map_or (λ (x : CacheEntry). x.pins) (if b then Some e else find (is_entry lv group) es) 0) (ap (λ b. b && e.group == group) i)) ∙ none lv group

-- ---- statuses that say the same are one

row_is : (a b : StatusRow) → same_row a b ≡ true → a ≡ b
row_is a b e =
    let first = both (a.disk == b.disk && (if a.missing then b.missing else not b.missing)) (bytes_eq a.stale b.stale) e in
    let second = both (a.disk == b.disk) (if a.missing then b.missing else not b.missing) first.0 in
    ap (λ n. record a { disk = n }) (eqb-true a.disk b.disk second.0) ∙ ap (λ (t : Bool). record a { disk = b.disk; missing = t }) (same_by_if a.missing b.missing second.1)
    ∙ ap (λ (x : List ℕ). record b { stale = x }) ((bytes_eq-Decides a.stale b.stale).0 first.1)

rows_are : (xs ys : List StatusRow) → same_rows xs ys ≡ true → xs ≡ ys
rows_are [] [] e = refl
rows_are [] (y ∷ ys) e = not_so e
rows_are (x ∷ xs) [] e = not_so e
rows_are (x ∷ xs) (y ∷ ys) e = let it = both (same_row x y) (same_rows xs ys) e in ap (λ (r : StatusRow). r ∷ xs) (row_is x y it.0) ∙ ap (λ (rs : List StatusRow). y ∷ rs) (rows_are xs ys it.1)

status_is : (a b : Status) → same_status a b ≡ true → a ≡ b
status_is a b e =
    let third = both (a.id == b.id && (if a.big then b.big else not b.big) && bytes_eq a.dirty b.dirty) (same_rows a.rows b.rows) e in
    let second = both (a.id == b.id && (if a.big then b.big else not b.big)) (bytes_eq a.dirty b.dirty) third.0 in
    let first = both (a.id == b.id) (if a.big then b.big else not b.big) second.0 in
    ap (λ n. record a { id = n }) (eqb-true a.id b.id first.0) ∙ ap (λ (t : Bool). record a { id = b.id; big = t }) (same_by_if a.big b.big first.1)
    ∙ ap (λ (x : List ℕ). record a { id = b.id; big = b.big; dirty = x }) ((bytes_eq-Decides a.dirty b.dirty).0 second.1) ∙ ap (λ (rs : List StatusRow). record b { rows = rs }) (rows_are a.rows b.rows third.1)

-- ---- rows of the hold queue

-- a row of it is a waiting request's, or that of the step of the copy
from_waiting : (t : Row → Bool) (os : List Open) → list_any t (waiting_rows os) ≡ true → (k : ℕ) × (o : Open) × (slice_get os k ≡ Some o) × (is_waiting o ≡ true) × (t (record { id = place_of o.request.id; ask = held_of o.request.ask }) ≡ true)
from_waiting t [] e = not_so e
from_waiting t (o ∷ os) e = by (is_waiting o) refl (λ f. from_waiting t os f) e
  where
    by : (b : Bool) → is_waiting o ≡ b
        → (list_any t (waiting_rows os) ≡ true → (k : ℕ) × (x : Open) × (slice_get os k ≡ Some x) × (is_waiting x ≡ true) × (t (record { id = place_of x.request.id; ask = held_of x.request.ask }) ≡ true))
        → list_any t (if b then record { id = place_of o.request.id; ask = held_of o.request.ask } ∷ waiting_rows os else waiting_rows os) ≡ true
        → (k : ℕ) × (x : Open) × (slice_get (o ∷ os) k ≡ Some x) × (is_waiting x ≡ true) × (t (record { id = place_of x.request.id; ask = held_of x.request.ask }) ≡ true)
    by false w rest f = let it = rest f in (suc it.0, it.1, it.2, it.3, it.4)
    by true w rest f = of (t (record { id = place_of o.request.id; ask = held_of o.request.ask })) refl f
      where
        of : (c : Bool) → t (record { id = place_of o.request.id; ask = held_of o.request.ask }) ≡ c → c || list_any t (waiting_rows os) ≡ true
            → (k : ℕ) × (x : Open) × (slice_get (o ∷ os) k ≡ Some x) × (is_waiting x ≡ true) × (t (record { id = place_of x.request.id; ask = held_of x.request.ask }) ≡ true)
        of true is g = (zero, o, refl, w, is)
        of false is g = let it = rest g in (suc it.0, it.1, it.2, it.3, it.4)

from_step : (t : Row → Bool) (step : Row) (rows : List Row) → list_any t (with_row step rows) ≡ true → (t step ≡ true) ⊎ (list_any t rows ≡ true)
from_step t step [] e = by (t step) refl e
  where
    by : (b : Bool) → t step ≡ b → b || false ≡ true → (t step ≡ true) ⊎ (false ≡ true)
    by true is f = inl is
    by false is f = inr f
from_step t step (row ∷ rows) e = by (nat_lt step.id row.id) (λ f. from_step t step rows f) e
  where
    pick : (a b : Bool) → t step ≡ a → a || b ≡ true → (t step ≡ true) ⊎ (b ≡ true)
    pick true b is f = inl is
    pick false b is f = inr f

    later : (a : Bool) → (t step ≡ true) ⊎ (list_any t rows ≡ true) → (t step ≡ true) ⊎ (a || list_any t rows ≡ true)
    later a (inl is) = inl is
    later true (inr is) = inr refl
    later false (inr is) = inr is

    by : (b : Bool) → (list_any t (with_row step rows) ≡ true → (t step ≡ true) ⊎ (list_any t rows ≡ true)) → list_any t (if b then step ∷ row ∷ rows else row ∷ with_row step rows) ≡ true → (t step ≡ true) ⊎ (t row || list_any t rows ≡ true)
    by true rest f = pick (t step) (t row || list_any t rows) refl f
    by false rest f = of (t row) f
      where
        of : (a : Bool) → a || list_any t (with_row step rows) ≡ true → (t step ≡ true) ⊎ (a || list_any t rows ≡ true)
        of true g = inr refl
        of false g = rest g

-- ---- blocks of one track group lie in one logical partition

same_partition : (mib a b : ℕ) → a / 256 ≡ b / 256 → partition_of mib a ≡ partition_of mib b
same_partition mib a b group = in_groups a ∙ ap (λ n. n / (8 * mib)) group ∙ sym (in_groups b)
  where
    in_groups : (n : ℕ) → n / (2048 * mib) ≡ n / 256 / (8 * mib)
    in_groups n = (let size : 2048 * mib ≡ 256 * (8 * mib) = omega arith in ap (λ m. n / m) size) ∙ sym (div-div-eq-div-mul n 256 (8 * mib))

-- ---- the parts of a turn that start a transfer, behind the first ones

abbrev parts_after_status : List Part
parts_after_status = note_start ∷ data_start ∷ copy_read ∷ copy_write ∷ []

abbrev parts_after_notes : List Part
parts_after_notes = data_start ∷ copy_read ∷ copy_write ∷ []

abbrev parts_after_data : List Part
parts_after_data = copy_read ∷ copy_write ∷ []

-- ---- where no move is done none waits that doesn't wait for one

pub none_waits_at_all : (core : Core) → ((ask : Ask) → is_held_by_move core ask ≡ false) → (os : List Open) → list_any (λ (o : Open). is_waiting o && not (is_held_by_move core o.request.ask)) os ≡ false → list_any is_waiting os ≡ false
none_waits_at_all core free [] e = refl
none_waits_at_all core free (o ∷ os) e =
    let it = or_parts (is_waiting o && not (is_held_by_move core o.request.ask)) (list_any (λ (x : Open). is_waiting x && not (is_held_by_move core x.request.ask)) os) e in
    ap (λ b. b || list_any is_waiting os) (sym (and_true (is_waiting o)) ∙ sym (ap (λ b. is_waiting o && not b) (free o.request.ask)) ∙ it.0) ∙ none_waits_at_all core free os it.1

-- ---- a session in which nothing is out, and of which no event may be made

module _ (s : State) (sound : IsSound s) (on : s.core.power ≡ power.On) (votes : is_lost s.core ≡ false) (none : first_event s.core ≡ None) (idle : s.device.flights ≡ []) where
  abbrev core : Core
  core = s.core

  going : IsGoing core
  going = (sound.on on).going

  one : (place : ℕ) (o : Open) → slice_get core.requests place ≡ Some o → IsOpenOne core o
  one place o there = all_at (IsOpenOne core) core.requests place o going.requests there

  -- ---- nothing is out

  flying_none : core.flying ≡ []
  flying_none = by core.flying s.device.flights (sound.on on).rows idle
    where
      by : (rows : List Flown) (flights : List Flight) → AreRows core rows flights → flights ≡ [] → rows ≡ []
      by [] flights all e = refl
      by (row ∷ rows) [] all e = absurd all
      by (row ∷ rows) (f ∷ flights) all e = absurd (cc e)

  none_out : (who : Owner) → flies core who ≡ false
  none_out who = by (flies core who) (sym (ap (λ (rows : List Flown). count_by (λ (f : Flown). same_owner who f.owner) rows) flying_none) ∙ going.owned who)
    where
      by : (b : Bool) → count_by (λ (f : Flown). same_owner who f.owner) [] ≡ count_if b → b ≡ false
      by false e = refl
      by true e = absurd (omega (arith, e))

  none_fly : (place : ℕ) (o : Open) → slice_get core.requests place ≡ Some o → list_any (λ (t : Target). is_flying t.state) o.request.targets.items ≡ false
  none_fly place o there = none_flies o.request.targets.items (λ k. by k (all_at (λ (x : Open). x.request.id == o.request.id && target_flies k x ≡ false) core.requests place o (all_false (λ (x : Open). x.request.id == o.request.id && target_flies k x) core.requests (none_out (owner.Data o.request.id k))) there))
    where
      by : (k : ℕ) → o.request.id == o.request.id && target_flies k o ≡ false → target_flies k o ≡ false
      by k e = sym (ap (λ b. b && target_flies k o) (eq-eqb o.request.id o.request.id refl)) ∙ e

  -- ---- no event may be made

  settle_start : (first_of parts_to_settle core ≡ None) × (first_of parts_to_start core ≡ None)
  settle_start = or_none (first_of parts_to_settle core) (first_of parts_to_start core) (sym (ap (λ (b : Bool). if b then landing core else or_next (first_of parts_to_settle core) (first_of parts_to_start core)) votes) ∙ none)

  no_landing : (place : ℕ) (o : Open) → slice_get core.requests place ≡ Some o → outcome_next (next_for core o) ≡ None
  no_landing place o there = by (outcome_next (next_for core o)) (none_made (landing_at core) 0 core.requests (or_none (landing core) _ settle_start.0).0 place o there)
    where
      by : (m : Option Outcome) → option_map (event.Land (0 + place)) m ≡ None → m ≡ None
      by m e = no_option (event.Land (0 + place)) m e

  no_admission : (place : ℕ) (o : Open) → slice_get core.requests place ≡ Some o → is_admit (next_for core o) ≡ false
  no_admission place o there = none_if (may_be_admitted core o) (event.Admit (0 + place)) (none_made (admission_at core) 0 core.requests (or_none (first_from (admission_at core) 0 core.requests) _ (or_none (landing core) _ settle_start.0).1).0 place o there)

  no_pinning : (place : ℕ) (o : Open) → slice_get core.requests place ≡ Some o → may_pin core o ≡ false
  no_pinning place o there = none_if (may_pin core o) (event.Pin (0 + place))
      (none_made (pinning_at core) 0 core.requests (or_none (first_from (pinning_at core) 0 core.requests) None (or_none (first_from (admission_at core) 0 core.requests) _ (or_none (landing core) _ settle_start.0).1).1).0 place o there)

  -- ---- a buffer is in the pool

  -- the last part of a turn takes none
  starts : (if has_buffer core then (if is_status_due core then Some event.StartStatus else None) else None) ≡ None
  starts = (or_none (if has_buffer core then (if is_status_due core then Some event.StartStatus else None) else None) _ settle_start.1).0

  starts_1 : first_of parts_after_status core ≡ None
  starts_1 = (or_none (if has_buffer core then (if is_status_due core then Some event.StartStatus else None) else None) (first_of parts_after_status core) settle_start.1).1

  starts_2 : first_of parts_after_notes core ≡ None
  starts_2 = (or_none (if has_buffer core then first_from (note_at core) 0 core.requests else None) (first_of parts_after_notes core) starts_1).1

  starts_3 : first_of parts_after_data core ≡ None
  starts_3 = (or_none (if has_buffer core then first_from (data_at core) 0 core.requests else None) (first_of parts_after_data core) starts_2).1

  starts_4 : first_of (copy_write ∷ []) core ≡ None
  starts_4 = (or_none (if has_buffer core then (if option_map_or (may_read core) core.copy false then Some event.ReadCopy else None) else None) (first_of (copy_write ∷ []) core) starts_3).1

  no_write : option_map_or may_write core.copy false ≡ false
  no_write = none_if (option_map_or may_write core.copy false) event.WriteCopy (or_none (if option_map_or may_write core.copy false then Some event.WriteCopy else None) None starts_4).0

  no_copy_hand : hand_of_copy core.copy ≡ None
  no_copy_hand = by core.copy going.copy no_write
    where
      by : (m : Option OpenCopy) → IfSome m (IsCopy core) → option_map_or may_write m false ≡ false → hand_of_copy m ≡ None
      by None its e = refl
      by (Some c) its e = of (is_running c) (hand_of c.step) refl refl e
        where
          of : (a : Bool) (h : Option Buffer) → is_running c ≡ a → hand_of c.step ≡ h → a && is_some h ≡ false → hand_of c.step ≡ None
          of a None i j f = j
          of false (Some buf) i j f = its.hand i
          of true (Some buf) i j f = not_so (sym f)

  -- a read that has its blocks lands
  no_hand : (place : ℕ) (o : Open) → slice_get core.requests place ≡ Some o → o.got ≡ None
  no_hand place o there = by (is_waiting o) refl
    where
      of_got : (m : Option Buffer) → is_some m ≡ false → m ≡ None
      of_got None e = refl
      of_got (Some buf) e = absurd cc

      in_phase : (r : IsRequest core o) (p : Phase) → o.request.phase ≡ p → IsPhase p o → (b : Bool) → list_any (λ (t : Target). is_done t.state) o.request.targets.items ≡ b → not (is_write o.request.ask) && b ≡ false
      in_phase r phase.Held is its b e = ap (λ c. not (is_write o.request.ask) && c) (sym e ∙ ap (λ (ts : List Target). list_any (λ (t : Target). is_done t.state) ts) its.0) ∙ and_false (not (is_write o.request.ask))
      in_phase r phase.WantEntry is its b e = ap (λ c. not c && b) its.2
      in_phase r phase.WantRecord is its b e = ap (λ c. not c && b) its.1
      in_phase r phase.WantStatus is its b e = ap (λ c. not c && b) its.0
      in_phase r phase.Landed is its b e = absurd its
      in_phase r phase.Data is its false e = and_false (not (is_write o.request.ask))
      in_phase r phase.Data is its true e = of_write (is_write o.request.ask) refl
        where
          of_write : (w : Bool) → is_write o.request.ask ≡ w → not w && true ≡ false
          of_write true i = refl
          of_write false i = absurd (let no : Some outcome.Got ≡ None =
              sym (ap (λ p. outcome_next (next_in p (facts_of core o.request) o.request)) is ∙ ap (λ (b : Bool). outcome_next (if b then next_data (facts_of core o.request) o.request else next_read o.request.targets.items)) i
              ∙ ap (λ (b : Bool). outcome_next (if b then next.Land outcome.Got else if list_any (λ (t : Target). is_flying t.state) o.request.targets.items then next.Wait else option_map_or next.Start (position (λ (t : Target). is_unstarted t.state) o.request.targets.items) (next.Land outcome.ReadFailed))) e)
              ∙ no_landing place o there in cc no)

      by : (b : Bool) → is_waiting o ≡ b → o.got ≡ None
      by false is = ((one place o there).over is).hand
      by true is = let r = (one place o there).waits is in of_got o.got (r.shape.hand ∙ in_phase r o.request.phase refl r.shape.phase_is (list_any (λ (t : Target). is_done t.state) o.request.targets.items) refl)

  buffer : has_buffer core ≡ true
  buffer = by core.pool sound.fitting.a_buffer first_free
    where
      hands_none : count_by (λ (o : Open). is_hand 0 o.got) core.requests ≡ 0
      hands_none = count_none (λ (o : Open). is_hand 0 o.got) core.requests (none_any (λ (o : Open). is_hand 0 o.got) core.requests (by_places (λ (o : Open). is_hand 0 o.got ≡ false) core.requests (λ k o there. ap (is_hand 0) (no_hand k o there))))

      first_free : count_if (slice_index_or core.pool 0 false) ≡ 0
      first_free =
          let all = sound.none_lost (ap is_dark on) 0 in
          let a : count_by (λ (f : Flight). has_number 0 f.buf) s.device.flights ≡ 0 = ap (λ (fs : List Flight). count_by (λ (f : Flight). has_number 0 f.buf) fs) idle in
          let b : count_by (has_number 0) s.device.freed ≡ 0 = ap (λ (bs : List Buffer). count_by (has_number 0) bs) (sound.lit (ap is_dark on)).freed in
          let c : count_if (is_hand 0 (hand_of_copy core.copy)) ≡ 0 = ap (λ h. count_if (is_hand 0 h)) no_copy_hand in
          let d = hands_none in
          omega (arith, all, a, b, c, d)

      by : (pool : List Bool) → 1 ≤ length pool → count_if (slice_index_or pool 0 false) ≡ 0 → list_any not pool ≡ true
      by [] some free = absurd (omega (arith, some))
      by (true ∷ pool) some free = absurd (omega (arith, free))
      by (false ∷ pool) some free = refl

  -- ---- what may be started with it

  no_status : is_status_due core ≡ false
  no_status = none_if (is_status_due core) event.StartStatus (sym (ap (λ (b : Bool). if b then (if is_status_due core then Some event.StartStatus else None) else None) buffer) ∙ starts)

  no_notes : first_from (note_at core) 0 core.requests ≡ None
  no_notes = sym (ap (λ (b : Bool). if b then first_from (note_at core) 0 core.requests else None) buffer) ∙ (or_none (if has_buffer core then first_from (note_at core) 0 core.requests else None) (first_of parts_after_notes core) starts_1).0

  no_data : first_from (data_at core) 0 core.requests ≡ None
  no_data = sym (ap (λ (b : Bool). if b then first_from (data_at core) 0 core.requests else None) buffer) ∙ (or_none (if has_buffer core then first_from (data_at core) 0 core.requests else None) (first_of parts_after_data core) starts_2).0

  no_read : option_map_or (may_read core) core.copy false ≡ false
  no_read = none_if (option_map_or (may_read core) core.copy false) event.ReadCopy (sym (ap (λ (b : Bool). if b then (if option_map_or (may_read core) core.copy false then Some event.ReadCopy else None) else None) buffer)
      ∙ (or_none (if has_buffer core then (if option_map_or (may_read core) core.copy false then Some event.ReadCopy else None) else None) (first_of (copy_write ∷ []) core) starts_3).0)

  no_note : (place : ℕ) (o : Open) → slice_get core.requests place ≡ Some o → note_due core o ≡ None
  no_note place o there = no_option (event.StartNote (0 + place)) (note_due core o) (none_made (note_at core) 0 core.requests no_notes place o there)

  no_start : (place : ℕ) (o : Open) → slice_get core.requests place ≡ Some o → target_due core o ≡ None
  no_start place o there = no_option (event.StartData (0 + place)) (target_due core o) (none_made (data_at core) 0 core.requests no_data place o there)

  -- ---- what is wanted is committed

  settled_status : (core.status.in_flight ≡ None) × (core.status.wanted ≡ core.status.committed)
  settled_status = by core.status.in_flight refl
    where
      same_so : (b : Bool) → not b ≡ false → b ≡ true
      same_so true e = refl
      same_so false e = not_so (sym e)

      -- an update of which nothing is owed is held by the members that are there
      held : (t : Status) → core.status.in_flight ≡ Some t → list_any (λ (r : PvRow). has core.status.writes.unstarted r.disk) core.status.group.pvs ≡ false → is_held (seen core.status) ≡ true
      held t flies_so unstarted = enough_more core.status.group (votes_in core.status.group (is_there core)) (votes_in core.status.group (seen core.status).written)
          (more_votes core.status.group (is_there core) (seen core.status).written core.status.group.pvs (each core.status.group.pvs (all_false (λ (r : PvRow). has core.status.writes.unstarted r.disk) core.status.group.pvs unstarted))) enough
        where
          group_is : core.status.group ≡ record core.descriptor { lvs = [] }
          group_is = going.fitting.group

          enough : is_enough_to_write core.status.group (votes_in core.status.group (is_there core)) ≡ true
          enough = ap (λ (d : Descriptor). is_enough_to_write d (votes_in d (is_there core))) group_is ∙ same_so (is_enough_to_write core.descriptor (votes_in core.descriptor (is_there core))) votes

          there_is : (d : ℕ) → is_there core d ≡ true → is_there_so (seen core.status) d ≡ true
          there_is d e = ap (λ (g : Descriptor). is_member g d && not (calls_missing core.status.wanted d)) group_is ∙ e

          each : (rows : List PvRow) → AllByRecursion (λ (r : PvRow). has core.status.writes.unstarted r.disk ≡ false) rows → AllByRecursion (λ (r : PvRow). is_there core r.disk ≡ true → (seen core.status).written r.disk ≡ true) rows
          each [] all = tt
          each (r ∷ rows) all = (λ e. sym (ap (λ b. b || (has core.status.writes.started r.disk || has core.status.writes.written r.disk)) all.0 ∙ ap (λ b. b || has core.status.writes.written r.disk) (none_out (owner.Status r.disk))) ∙ going.status.each t flies_so r.disk (there_is r.disk e), each rows all.1)

      not_owed : list_any (λ (r : PvRow). has core.status.writes.unstarted r.disk) core.status.group.pvs ≡ false → is_owed (seen core.status) ≡ false
      not_owed unstarted = of core.status.group.pvs unstarted
        where
          of : (rows : List PvRow) → list_any (λ (r : PvRow). has core.status.writes.unstarted r.disk) rows ≡ false → list_any (λ (r : PvRow). has core.status.writes.unstarted r.disk || has core.status.writes.started r.disk) rows ≡ false
          of [] e = refl
          of (r ∷ rows) e = let it = or_parts (has core.status.writes.unstarted r.disk) (list_any (λ (q : PvRow). has core.status.writes.unstarted q.disk) rows) e in
              ap (λ b. (b || has core.status.writes.started r.disk) || list_any (λ (q : PvRow). has core.status.writes.unstarted q.disk || has core.status.writes.started q.disk) rows) it.0
              ∙ ap (λ b. b || list_any (λ (q : PvRow). has core.status.writes.unstarted q.disk || has core.status.writes.started q.disk) rows) (none_out (owner.Status r.disk)) ∙ of rows it.1

      open_none : (t : Status) → core.status.in_flight ≡ Some t → list_any (λ (r : PvRow). has core.status.writes.unstarted r.disk) core.status.group.pvs ≡ false → (is_owed (seen core.status) ≡ true) ⊎ (is_held (seen core.status) ≡ false) → false ≡ true
      open_none t is unstarted (inl owed) = sym (not_owed unstarted) ∙ owed
      open_none t is unstarted (inr unheld) = sym unheld ∙ held t is unstarted

      by : (m : Option Status) → core.status.in_flight ≡ m → (core.status.in_flight ≡ None) × (core.status.wanted ≡ core.status.committed)
      by None is = (is, status_is core.status.wanted core.status.committed (same_so (same_status core.status.wanted core.status.committed) (sym (ap (λ m. if is_none m then not (same_status core.status.wanted core.status.committed) else list_any (λ (r : PvRow). has core.status.writes.unstarted r.disk) core.status.group.pvs) is) ∙ no_status)))
      by (Some t) is = not_so (open_none t is (sym (ap (λ m. if is_none m then not (same_status core.status.wanted core.status.committed) else list_any (λ (r : PvRow). has core.status.writes.unstarted r.disk) core.status.group.pvs) is) ∙ no_status) (going.status.open_still t is))

  wanted_is : (p : Pp) → is_wanted_stale core p ≡ is_stale core p
  wanted_is p = ap (λ x. calls_stale x p) settled_status.1

  settled_is : (p : Pp) → is_settled core p ≡ is_stale core p
  settled_is p = ap (λ m. is_stale core p && calls_stale (unwrap_or m core.status.committed) p) settled_status.0 ∙ by (is_stale core p)
    where
      by : (b : Bool) → b && b ≡ b
      by true = refl
      by false = refl

  -- ---- no write is under way

  module _ (place : ℕ) (o : Open) (there : slice_get core.requests place ≡ Some o) (waiting : is_waiting o ≡ true) where
    its : IsRequest core o
    its = (one place o there).waits waiting

    abbrev k : Facts
    k = facts_of core o.request

    abbrev targets : List Target
    targets = o.request.targets.items

    -- what it does next is what its phase says
    next_is : (p : Phase) → o.request.phase ≡ p → next_for core o ≡ next_in p k o.request
    next_is p is = ap (λ q. next_in q k o.request) is

    phase_of : (p : Phase) → o.request.phase ≡ p → IsPhase p o
    phase_of p is = subst (λ q. IsPhase q o) is its.shape.phase_is

    -- one whose write may go to its targets starts one, unless all have been started
    write_starts : next_for core o ≡ next_write o.request.policy targets → list_any (λ (t : Target). is_unstarted t.state) targets ≡ false
    write_starts is = no_target o.request.policy targets (none_fly place o there) (by (next_target o.request.policy (states_of targets)) (sym (ap target_next is) ∙ no_start place o there))
      where
        by : (m : Option ℕ) → target_next (start_or_wait m) ≡ None → m ≡ None
        by None e = refl
        by (Some j) e = absurd (cc e)

    not_begun : is_write o.request.ask ≡ true → is_begun targets ≡ false
    not_begun write = by (is_begun targets) refl
      where
        in_phase : (p : Phase) → o.request.phase ≡ p → IsPhase p o → is_begun targets ≡ true → true ≡ false
        in_phase phase.Held is its_phase begun = sym begun ∙ ap is_begun its_phase.0
        in_phase phase.WantEntry is its_phase begun = sym begun ∙ its_phase.0
        in_phase phase.WantRecord is its_phase begun = sym begun ∙ its_phase.0
        in_phase phase.Data is its_phase begun =
            sym (all_ended targets (none_fly place o there) (write_starts (next_is phase.Data is ∙ ap (λ (b : Bool). if b then next_data k o.request else next_read targets) write ∙ ap (λ (b : Bool). if b then next_write o.request.policy targets else next_chosen k (if k.pending then next.Wait else next_write o.request.policy targets)) begun))) ∙ its_phase.1 write
        in_phase phase.WantStatus is its_phase begun = absurd (let no : Some (if k.kept then outcome.Done else outcome.Lost) ≡ None = sym (ap outcome_next (next_is phase.WantStatus is) ∙ ap (λ (b : Bool). outcome_next (if b then next.Land (if k.kept then outcome.Done else outcome.Lost) else next.Wait)) marked_so) ∙ no_landing place o there in cc no)
          where
            -- where no failed target is sure a copy that stays fresh is one that succeeded
            kept_there : (t : Target) (n : ℕ) → slice_get targets n ≡ Some t → t.moves ≡ true → list_any (is_failed_and_sure core) targets ≡ false → is_kept core o.request ≡ true
            kept_there t n t_there moves none = kept_of core going o (one place o there) (ap wants_status is) none (over_begun targets (some_there targets n t t_there) its_phase.1) (of_aim t.moves moves (all_at (IsTarget core o.request.ask) targets n t its.shape.targets t_there).copy)
              where
                of_aim : (b : Bool) → b ≡ true → IsAimed b core o.request.ask t → list_any (stays_fresh core) (copies_for core o.request.ask) ≡ true
                of_aim false never aimed = not_so never
                of_aim true is_destination aimed = (λ i. list_any (stays_fresh core) (copies_in core.descriptor (eqb-true (lv_of o.request.ask) at.copy.lv beside_it.0 i) (eqb-true (lp_of core o.request.ask) at.copy.lp beside_it.1 i))) ∙ (move_of core at.copy bring at.moves).fresh
                  where
                    at : IsOpenPlace core o.request.ask t.pp
                    at = place_open core o.request.ask t.pp aimed.0

                    bring : IsCopy core at.copy
                    bring = subst (λ (m : Option OpenCopy). IfSome m (IsCopy core)) at.is_open going.copy

                    beside_it : ((lv_of o.request.ask == at.copy.lv) ≡ true) × ((lp_of core o.request.ask == at.copy.lp) ≡ true)
                    beside_it = both (lv_of o.request.ask == at.copy.lv) (lp_of core o.request.ask == at.copy.lp) at.beside

            -- a place that the write has missed isn't sure, and none that it hasn't is where it is lost
            place_marked : (n : ℕ) (t : Target) → slice_get targets n ≡ Some t → (b : Bool) → is_kept core o.request ≡ b → IsPlaceMarked core b t
            place_marked n t t_there true kept = of t.moves (is_failed t.state) (list_any (is_failed_and_sure core) targets) (is_sure core t.pp) (all_at (IsMarkedDestination core o.request) targets n t ((its.judged write).missed (ap wants_status is)) t_there)
              where
                of : (a f l s : Bool) → (a && (f || l)) && s ≡ false → a && (f && s) ≡ false
                of false f l s e = refl
                of true true l s e = e
                of true false l s e = refl
            place_marked n t t_there false lost = of t.moves (is_failed t.state) (list_any (is_failed_and_sure core) targets) (is_sure core t.pp) refl refl (all_at (IsMarkedDestination core o.request) targets n t ((its.judged write).missed (ap wants_status is)) t_there)
              where
                of : (a f l s : Bool) → t.moves ≡ a → list_any (is_failed_and_sure core) targets ≡ l → (a && (f || l)) && s ≡ false → a && s ≡ false
                of false f l s i j e = refl
                of true f true s i j e = sym (ap (λ b. b && s) (or_true f)) ∙ e
                of true true false s i j e = e
                of true false false s i j e = not_so (sym lost ∙ kept_there t n t_there i j)

            places_marked : AllByRecursion (IsPlaceMarked core (is_kept core o.request)) targets
            places_marked = by_places (IsPlaceMarked core (is_kept core o.request)) targets (λ n t t_there. place_marked n t t_there (is_kept core o.request) refl)

            marked_so : is_marked core o.request ≡ true
            marked_so = all_marked core wanted_is settled_is o.request places_marked its_phase.1 ((its.judged write).due (ap wants_status is))
        in_phase phase.Landed is its_phase begun = absurd its_phase

        by : (b : Bool) → is_begun targets ≡ b → b ≡ false
        by false e = refl
        by true e = in_phase o.request.phase refl its.shape.phase_is e

  none_failing : (e : Open) (place : ℕ) → slice_get core.requests place ≡ Some e → is_failing core e ≡ false
  none_failing e place there = by (is_waiting e) (is_write e.request.ask) refl refl
    where
      by : (a b : Bool) → is_waiting e ≡ a → is_write e.request.ask ≡ b → a && b && is_begun e.request.targets.items && list_any (counts_failed core) e.request.targets.items ≡ false
      by false b i j = refl
      by true false i j = refl
      by true true i j = ap (λ c. c && list_any (counts_failed core) e.request.targets.items) (not_begun place e there i j)

  -- ---- nothing is admitted on the logical partition of a move that is done

  not_admitted : (place : ℕ) (o : Open) → slice_get core.requests place ≡ Some o → is_waiting o ≡ true → is_held_by_move core o.request.ask ≡ true → is_past_held o.request.phase ≡ false
  not_admitted place o there waiting by_move = by core.copy by_move
    where
      middle : (a b c : Bool) → a ≡ true → c ≡ true → a && b && c ≡ false → b ≡ false
      middle a false c i j e = refl
      middle true true true i j e = e
      middle true true false i j e = not_so j
      middle false true c i j e = not_so i

      by : (m : Option OpenCopy) → option_map_or (λ (c : OpenCopy). is_move_done core c && is_beside_copy core o.request.ask c) m false ≡ true → is_past_held o.request.phase ≡ false
      by None e = not_so e
      by (Some c) e =
          let done = both (is_move_done core c) (is_beside_copy core o.request.ask c) e in
          let calm = is_false (is_under_way core c) (both (c.moves && is_running c && is_whole core c && stays_fresh core c.pp) (not (is_under_way core c)) done.0).1 in
          middle (is_waiting o) (is_past_held o.request.phase) (is_beside_copy core o.request.ask c) waiting done.1
          (all_at (λ (x : Open). is_waiting x && is_past_held x.request.phase && is_beside_copy core x.request.ask c ≡ false) core.requests place o
          (all_false (λ (x : Open). is_waiting x && is_past_held x.request.phase && is_beside_copy core x.request.ask c) core.requests calm) there)

  -- two requests of which one is in the way of the other lie in one logical partition, so that such a move holds both or none
  with_other : (a b : Open) → IsOpenOne core a → IsOpenOne core b → conflicts (held_of a.request.ask) (held_of b.request.ask) ≡ true → is_held_by_move core b.request.ask ≡ false → is_held_by_move core a.request.ask ≡ false
  with_other a b its_a its_b clash free =
      let common = both ((lv_of a.request.ask == lv_of b.request.ask) && nat_lt (at_of a.request.ask) (at_of b.request.ask + count_of b.request.ask)) (nat_lt (at_of b.request.ask) (at_of a.request.ask + count_of a.request.ask))
      (both (have_common_block (held_of a.request.ask) (held_of b.request.ask)) (is_writing (held_of a.request.ask) || is_writing (held_of b.request.ask)) clash).0 in
      let first = both (lv_of a.request.ask == lv_of b.request.ask) (nat_lt (at_of a.request.ask) (at_of b.request.ask + count_of b.request.ask)) common.0 in
      let group = one_group its_a.laid.blocks its_b.laid.blocks (ltb-true (at_of a.request.ask) (at_of b.request.ask + count_of b.request.ask) first.1) (ltb-true (at_of b.request.ask) (at_of a.request.ask + count_of a.request.ask) common.1) in
      ap (λ n. option_map_or (λ (c : OpenCopy). is_move_done core c && (n == c.lv && lp_of core a.request.ask == c.lp)) core.copy false) (eqb-true (lv_of a.request.ask) (lv_of b.request.ask) first.0)
      ∙ ap (λ n. option_map_or (λ (c : OpenCopy). is_move_done core c && (lv_of b.request.ask == c.lv && n == c.lp)) core.copy false) (same_partition core.descriptor.mib (at_of a.request.ask) (at_of b.request.ask) group)
      ∙ free
    where
      one_group : IsInGroup (held_of a.request.ask) → IsInGroup (held_of b.request.ask) → at_of a.request.ask < at_of b.request.ask + count_of b.request.ask → at_of b.request.ask < at_of a.request.ask + count_of a.request.ask
          → at_of a.request.ask / 256 ≡ at_of b.request.ask / 256
      one_group in_a in_b ab ba = omega (arith, in_a.group, in_b.group)

  -- ---- where no move that is done holds a request nothing is pending for it

  not_pending : (r : Request) → is_held_by_move core r.ask ≡ false → is_pending core r ≡ false
  not_pending r free =
      ap (λ b. b || (list_any (λ (p : Pp). is_wanted_stale core p && not (is_settled core p)) (copies_for core r.ask) || list_any (λ (e : Open). not (e.request.id == r.id) && is_beside core e.request.ask r.ask && is_failing core e) core.requests)) free
      ∙ ap (λ b. b || list_any (λ (e : Open). not (e.request.id == r.id) && is_beside core e.request.ask r.ask && is_failing core e) core.requests) (none_each (λ (p : Pp). is_wanted_stale core p && not (is_settled core p)) settled_each (copies_for core r.ask))
      ∙ none_any (λ (e : Open). not (e.request.id == r.id) && is_beside core e.request.ask r.ask && is_failing core e) core.requests
      (by_places (λ (e : Open). not (e.request.id == r.id) && is_beside core e.request.ask r.ask && is_failing core e ≡ false) core.requests (λ j e at. ap (λ b. not (e.request.id == r.id) && is_beside core e.request.ask r.ask && b) (none_failing e j at) ∙ ends (not (e.request.id == r.id)) (is_beside core e.request.ask r.ask)))
    where
      settled_each : (p : Pp) → is_wanted_stale core p && not (is_settled core p) ≡ false
      settled_each p = ap (λ b. b && not (is_settled core p)) (wanted_is p) ∙ ap (λ b. is_stale core p && not b) (settled_is p) ∙ by (is_stale core p)
        where
          by : (b : Bool) → b && not b ≡ false
          by true = refl
          by false = refl

      ends : (a b : Bool) → a && b && false ≡ false
      ends true true = refl
      ends true false = refl
      ends false b = refl

  -- the targets of a write that are as they should be aren't missing
  targets_there : (place : ℕ) (o : Open) (there : slice_get core.requests place ≡ Some o) → is_waiting o ≡ true → is_held_by_move core o.request.ask ≡ false → is_write o.request.ask ≡ true → (facts_of core o.request).usable ≡ true → (facts_of core o.request).changed ≡ false → AllByRecursion (λ (t : Target). is_missing core t.pp.disk ≡ false) o.request.targets.items
  targets_there place o there waiting free write usable same = by o.request.targets.items (aims core o.request.ask ++ destination_aims core o.request.ask) aims_there
      (same_so (same_pps (pps_of o.request.targets.items) (aims core o.request.ask ++ destination_aims core o.request.ask)) (sym (ap (λ b. b && not (same_pps (pps_of o.request.targets.items) (aims core o.request.ask ++ destination_aims core o.request.ask))) write) ∙ same))
    where
      same_so : (b : Bool) → not b ≡ false → b ≡ true
      same_so true e = refl
      same_so false e = not_so (sym e)

      aims_there : AllByRecursion (λ (p : Pp). is_missing core p.disk ≡ false) (aims core o.request.ask ++ destination_aims core o.request.ask)
      aims_there = and_then (aims core o.request.ask) (destination_aims core o.request.ask) (passing (copies_for core o.request.ask)) (of_place core.copy refl)
        where
          and_then : (ps qs : List Pp) → AllByRecursion (λ (p : Pp). is_missing core p.disk ≡ false) ps → AllByRecursion (λ (p : Pp). is_missing core p.disk ≡ false) qs → AllByRecursion (λ (p : Pp). is_missing core p.disk ≡ false) (ps ++ qs)
          and_then [] qs all more = more
          and_then (p ∷ ps) qs all more = (all.0, and_then ps qs all.1 more)

          -- a move that runs ends where the disk of its place is missing
          runs_there : (c : OpenCopy) → core.copy ≡ Some c → is_running c ≡ true → is_missing core c.pp.disk ≡ false
          runs_there c is runs = stays (is_running c) (is_missing core c.pp.disk) _ runs (sym (ap (λ m. option_map_or (end_of core) m None) is) ∙ going.reviewed)
            where
              stays : (a b : Bool) (rest : Option CopyEnd) → a ≡ true → (if not a then None else if b then Some ending.SyncFailed else rest) ≡ None → b ≡ false
              stays a false rest e f = refl
              stays true true rest e f = absurd (cc f)
              stays false true rest e f = not_so e

          of_place : (m : Option OpenCopy) → core.copy ≡ m → AllByRecursion (λ (p : Pp). is_missing core p.disk ≡ false) (filter (is_caught core (group_in core o.request.ask)) (option_map_or (λ (c : OpenCopy). destinations_if (c.moves && is_beside_copy core o.request.ask c) c) m []))
          of_place None is = tt
          of_place (Some c) is = of (c.moves && is_beside_copy core o.request.ask c)
            where
              caught : (b : Bool) → is_caught core (group_in core o.request.ask) c.pp ≡ b → AllByRecursion (λ (p : Pp). is_missing core p.disk ≡ false) (if b then c.pp ∷ [] else [])
              caught false e = tt
              caught true e = (runs_there c is (both (is_running c) (is_pp c.pp c.pp) (both (is_running c && is_pp c.pp c.pp) (nat_lt (group_in core o.request.ask) c.cursor) (sym (ap (λ m. option_map_or (λ (d : OpenCopy). is_running d && is_pp c.pp d.pp && nat_lt (group_in core o.request.ask) d.cursor) m false) is) ∙ e)).0).0, tt)

              of : (b : Bool) → AllByRecursion (λ (p : Pp). is_missing core p.disk ≡ false) (filter (is_caught core (group_in core o.request.ask)) (destinations_if b c))
              of false = tt
              of true = caught (is_caught core (group_in core o.request.ask) c.pp) refl

          passing : (ps : List Pp) → AllByRecursion (λ (p : Pp). is_missing core p.disk ≡ false) (filter (λ (p : Pp). is_usable core p || is_caught core (group_in core o.request.ask) p) ps)
          passing [] = tt
          passing (p ∷ ps) = of (is_usable core p || is_caught core (group_in core o.request.ask) p) refl (passing ps)
            where
              of : (b : Bool) → (is_usable core p || is_caught core (group_in core o.request.ask) p) ≡ b → AllByRecursion (λ (q : Pp). is_missing core q.disk ≡ false) (filter (λ (q : Pp). is_usable core q || is_caught core (group_in core o.request.ask) q) ps)
                  → AllByRecursion (λ (q : Pp). is_missing core q.disk ≡ false) (if b then p ∷ filter (λ (q : Pp). is_usable core q || is_caught core (group_in core o.request.ask) q) ps else filter (λ (q : Pp). is_usable core q || is_caught core (group_in core o.request.ask) q) ps)
              of true is rest = (there_now s sound on place o there (one place o there).laid (not_begun place o there waiting write) (not_pending o.request free) usable p is, rest)
              of false is rest = rest

      by : (ts : List Target) (ps : List Pp) → AllByRecursion (λ (p : Pp). is_missing core p.disk ≡ false) ps → same_pps (pps_of ts) ps ≡ true → AllByRecursion (λ (t : Target). is_missing core t.pp.disk ≡ false) ts
      by [] ps all e = tt
      by (t ∷ ts) [] all e = not_so e
      by (t ∷ ts) (p ∷ ps) all e =
          let it = both (is_pp t.pp p) (same_pps (pps_of ts) ps) e in
          let disk = eqb-true t.pp.disk p.disk (both (t.pp.disk == p.disk) (t.pp.pp == p.pp) it.0).0 in
          (ap (is_missing core) disk ∙ all.0, by ts ps all.1 it.1)

  -- ---- each that waits is held back

  module _ (place : ℕ) (o : Open) (there : slice_get core.requests place ≡ Some o) (waiting : is_waiting o ≡ true) (free : is_held_by_move core o.request.ask ≡ false) where
    req : IsRequest core o
    req = (one place o there).waits waiting

    abbrev facts : Facts
    facts = facts_of core o.request

    abbrev aims_of : List Target
    aims_of = o.request.targets.items

    at_phase : (p : Phase) → o.request.phase ≡ p → next_for core o ≡ next_in p facts o.request
    at_phase p is = ap (λ q. next_in q facts o.request) is

    some_targets : is_past_held o.request.phase ≡ true → 1 ≤ length aims_of
    some_targets past = some_long (λ (t : Target). t.usable) aims_of (req.shape.usable past)

    -- one that chooses goes on, with a copy that it can use and its targets as they should be
    goes_on : (rest : Next) → next_for core o ≡ next_chosen facts rest → (next_for core o ≡ rest) × (facts.usable ≡ true) × (facts.changed ≡ false)
    goes_on rest is = by facts.usable facts.changed refl refl (is ∙ ap (λ (b : Bool). if b then rest else if not facts.usable then next.Land outcome.NoFresh else if facts.changed then next.Admit else rest) (not_pending o.request free))
      where
        by : (b c : Bool) → facts.usable ≡ b → facts.changed ≡ c → next_for core o ≡ (if not b then next.Land outcome.NoFresh else if c then next.Admit else rest) → (next_for core o ≡ rest) × (facts.usable ≡ true) × (facts.changed ≡ false)
        by false c i j e = absurd (let no : Some outcome.NoFresh ≡ None = sym (ap outcome_next e) ∙ no_landing place o there in cc no)
        by true true i j e = not_so (sym (no_admission place o there) ∙ ap is_admit e)
        by true false i j e = (e, i, j)

    -- none starts a write whose data hasn't started
    no_first : is_past_held o.request.phase ≡ true → is_write o.request.ask ≡ true → next_for core o ≡ next_write o.request.policy aims_of → false ≡ true
    no_first past write is = sym (write_starts place o there waiting is) ∙ some_waits aims_of (some_targets past) (not_begun place o there waiting write)

    -- it waits until it is admitted, or until its track group is pinned
    held_or_entry : (o.request.phase ≡ phase.Held) ⊎ (o.request.phase ≡ phase.WantEntry)
    held_or_entry = by o.request.phase refl req.shape.phase_is
      where
        of_read : o.request.phase ≡ phase.Data → is_write o.request.ask ≡ false → false ≡ true
        of_read is read = reads (list_any (λ (t : Target). is_done t.state) aims_of) (position (λ (t : Target). is_unstarted t.state) aims_of)
            (at_phase phase.Data is ∙ ap (λ (b : Bool). if b then next_data facts o.request else next_read aims_of) read
            ∙ ap (λ (b : Bool). if list_any (λ (t : Target). is_done t.state) aims_of then next.Land outcome.Got else if b then next.Wait else option_map_or next.Start (position (λ (t : Target). is_unstarted t.state) aims_of) (next.Land outcome.ReadFailed)) (none_fly place o there))
          where
            reads : (a : Bool) (m : Option ℕ) → next_for core o ≡ (if a then next.Land outcome.Got else option_map_or next.Start m (next.Land outcome.ReadFailed)) → false ≡ true
            reads true m e = absurd (let no : Some outcome.Got ≡ None = sym (ap outcome_next e) ∙ no_landing place o there in cc no)
            reads false None e = absurd (let no : Some outcome.ReadFailed ≡ None = sym (ap outcome_next e) ∙ no_landing place o there in cc no)
            reads false (Some j) e = absurd (let no : Some j ≡ None = sym (ap target_next e) ∙ no_start place o there in cc no)

        of_data : (w : Bool) → is_write o.request.ask ≡ w → o.request.phase ≡ phase.Data → false ≡ true
        of_data false read is = of_read is read
        of_data true write is = no_first (ap is_past_held is) write
            ((goes_on (if facts.pending then next.Wait else next_write o.request.policy aims_of) (at_phase phase.Data is ∙ ap (λ (b : Bool). if b then next_data facts o.request else next_read aims_of) write
            ∙ ap (λ (b : Bool). if b then next_write o.request.policy aims_of else next_chosen facts (if facts.pending then next.Wait else next_write o.request.policy aims_of)) (not_begun place o there waiting write))).0
            ∙ ap (λ (b : Bool). if b then next.Wait else next_write o.request.policy aims_of) (not_pending o.request free))

        -- one that waits for its record has it
        of_record : o.request.phase ≡ phase.WantRecord → IsPhase phase.WantRecord o → false ≡ true
        of_record is its_phase = no_first (ap is_past_held is) its_phase.1
            (goes.0 ∙ ap (λ (b : Bool). if b && facts.dirty && not facts.pending then next_write o.request.policy aims_of else next.Wait) named_so ∙ ap (λ (b : Bool). if b && not facts.pending then next_write o.request.policy aims_of else next.Wait) dirty_so
            ∙ ap (λ (b : Bool). if not b then next_write o.request.policy aims_of else next.Wait) (not_pending o.request free))
          where
            goes : (next_for core o ≡ (if facts.named && facts.dirty && not facts.pending then next_write o.request.policy aims_of else next.Wait)) × (facts.usable ≡ true) × (facts.changed ≡ false)
            goes = goes_on (if facts.named && facts.dirty && not facts.pending then next_write o.request.policy aims_of else next.Wait) (at_phase phase.WantRecord is)

            mode_is : mode_for core o.request.ask ≡ mode_of core o.request.ask
            mode_is = ap (λ (b : Bool). if b then mode_of core o.request.ask else mode.Off) its_phase.1

            recorded : IsRecorded (mode_of core o.request.ask) phase.WantRecord o.request
            recorded = subst (λ m. IsRecorded m phase.WantRecord o.request) mode_is (subst (λ p. IsRecorded (mode_for core o.request.ask) p o.request) is req.ready.recorded)

            dirty_so : facts.dirty ≡ true
            dirty_so = by_mode (mode_of core o.request.ask) (subst (λ m. is_wanted_dirty core m o.request.ask ≡ true) mode_is (req.ready.wanted (ap is_past_held is) its_phase.2))
              where
                by_mode : (m : Mode) → is_wanted_dirty core m o.request.ask ≡ true → has_dirty_mark core m o.request ≡ true
                by_mode mode.Active e = refl
                by_mode mode.Off e = refl
                by_mode mode.Passive e =
                    ap (λ m. calls_dirty core.status.committed (lv_of o.request.ask) && calls_dirty (unwrap_or m core.status.committed) (lv_of o.request.ask)) settled_status.0
                    ∙ ap (λ b. b && b) (sym (ap (λ x. calls_dirty x (lv_of o.request.ask)) settled_status.1) ∙ e)

            named_so : facts.named ≡ true
            named_so = by_mode (mode_of core o.request.ask) recorded
              where
                -- its targets aren't missing, and no note is in flight
                noted : (ts : List Target) → AllByRecursion (λ (t : Target). is_missing core t.pp.disk ≡ false) ts → find (is_unnamed core o.request.ask) ts ≡ None → list_all (λ (t : Target). is_named core.cache t.pp.disk (lv_of o.request.ask) (group_of o.request.ask)) ts ≡ true
                noted [] all e = refl
                noted (t ∷ ts) all e = of (is_unnamed core o.request.ask t) refl (λ f. noted ts all.1 f) e
                  where
                    no_flight : flight_on core.cache t.pp.disk ≡ None
                    no_flight = of_flight (flight_on core.cache t.pp.disk) (none_out (owner.Note t.pp.disk))
                      where
                        of_flight : {A : Type 0} (m : Option A) → is_some m ≡ false → m ≡ None
                        of_flight None f = refl
                        of_flight (Some x) f = absurd cc

                    named : is_unnamed core o.request.ask t ≡ false → is_named core.cache t.pp.disk (lv_of o.request.ask) (group_of o.request.ask) ≡ true
                    named f = is_so (is_named core.cache t.pp.disk (lv_of o.request.ask) (group_of o.request.ask)) (sym (ap (λ b. not b && is_none (flight_on core.cache t.pp.disk) && not (is_named core.cache t.pp.disk (lv_of o.request.ask) (group_of o.request.ask))) all.0
                        ∙ ap (λ m. is_none m && not (is_named core.cache t.pp.disk (lv_of o.request.ask) (group_of o.request.ask))) no_flight) ∙ f)
                      where
                        is_so : (b : Bool) → not b ≡ false → b ≡ true
                        is_so true g = refl
                        is_so false g = not_so (sym g)

                    of : (b : Bool) → is_unnamed core o.request.ask t ≡ b → (find (is_unnamed core o.request.ask) ts ≡ None → list_all (λ (u : Target). is_named core.cache u.pp.disk (lv_of o.request.ask) (group_of o.request.ask)) ts ≡ true)
                        → (if b then Some t else find (is_unnamed core o.request.ask) ts) ≡ None → list_all (λ (u : Target). is_named core.cache u.pp.disk (lv_of o.request.ask) (group_of o.request.ask)) (t ∷ ts) ≡ true
                    of true g rest f = absurd (cc f)
                    of false g rest f = ap (λ b. b && list_all (λ (u : Target). is_named core.cache u.pp.disk (lv_of o.request.ask) (group_of o.request.ask)) ts) (named g) ∙ rest f

                no_unnamed : o.request.pinned ≡ true → find (is_unnamed core o.request.ask) aims_of ≡ None
                no_unnamed pinned = of (find (is_unnamed core o.request.ask) aims_of) (sym (ap (λ p. if wants_record p && o.request.pinned then option_map (λ (t : Target). t.pp.disk) (find (is_unnamed core o.request.ask) aims_of) else None) is
                    ∙ ap (λ (b : Bool). if b then option_map (λ (t : Target). t.pp.disk) (find (is_unnamed core o.request.ask) aims_of) else None) pinned) ∙ no_note place o there)
                  where
                    of : (m : Option Target) → option_map (λ (t : Target). t.pp.disk) m ≡ None → m ≡ None
                    of None f = refl
                    of (Some t) f = absurd (cc f)

                by_mode : (m : Mode) → IsRecorded m phase.WantRecord o.request → has_names core m o.request ≡ true
                by_mode mode.Active pinned = noted aims_of (targets_there place o there waiting free its_phase.1 goes.1 goes.2) (no_unnamed pinned)
                by_mode mode.Passive rec = refl
                by_mode mode.Off rec = refl

        by : (p : Phase) → o.request.phase ≡ p → IsPhase p o → (o.request.phase ≡ phase.Held) ⊎ (o.request.phase ≡ phase.WantEntry)
        by phase.Held is its_phase = inl is
        by phase.WantEntry is its_phase = inr is
        by phase.WantRecord is its_phase = not_so (of_record is its_phase)
        by phase.Data is its_phase = not_so (of_data (is_write o.request.ask) refl is)
        by phase.WantStatus is its_phase = not_so (sym (not_begun place o there waiting its_phase.0) ∙ over_begun aims_of (some_targets (ap is_past_held is)) its_phase.1)
        by phase.Landed is its_phase = absurd its_phase

  -- so none holds a pin
  unpinned : (place : ℕ) (o : Open) → slice_get core.requests place ≡ Some o → o.request.pinned ≡ false
  unpinned place o there = by (is_waiting o) refl
    where
      by : (b : Bool) → is_waiting o ≡ b → o.request.pinned ≡ false
      by false is = ((one place o there).over is).pinned
      by true is = by_move (is_held_by_move core o.request.ask) refl
        where
          in_phase : (p : Phase) → is_past_held p ≡ false → IsPhase p o → o.request.pinned ≡ false
          in_phase phase.Held e it = it.1
          in_phase phase.WantEntry e it = it.1
          in_phase phase.WantRecord e it = not_so (sym e)
          in_phase phase.Data e it = not_so (sym e)
          in_phase phase.WantStatus e it = not_so (sym e)
          in_phase phase.Landed e it = absurd it

          of : (o.request.phase ≡ phase.Held) ⊎ (o.request.phase ≡ phase.WantEntry) → o.request.pinned ≡ false
          of (inl e) = (subst (λ p. IsPhase p o) e ((one place o there).waits is).shape.phase_is).1
          of (inr e) = (subst (λ p. IsPhase p o) e ((one place o there).waits is).shape.phase_is).1

          by_move : (b : Bool) → is_held_by_move core o.request.ask ≡ b → o.request.pinned ≡ false
          by_move true e = in_phase o.request.phase (not_admitted place o there is e) ((one place o there).waits is).shape.phase_is
          by_move false e = of (held_or_entry place o there is e)

  no_pins : (lv group : ℕ) → pins_of core.cache.entries lv group ≡ 0
  no_pins lv group = going.pinned lv group ∙ count_none (pins lv group) core.requests (none_any (pins lv group) core.requests (by_places (λ (o : Open). pins lv group o ≡ false) core.requests (λ k o there. ap (λ b. b && lv_of o.request.ask == lv && group_of o.request.ask == group) (unpinned k o there))))

  may_be_pinned : (ask : Ask) → can_pin core.cache ask ≡ true
  may_be_pinned ask = ap (λ n. not (not (has_entry core.cache.entries (lv_of ask) (group_of ask)) && n == 62)) (unpinned_all core.cache.entries sound.fitting.entries.differ no_pins) ∙ by (has_entry core.cache.entries (lv_of ask) (group_of ask))
    where
      by : (b : Bool) → not (not b && 0 == 62) ≡ true
      by true = refl
      by false = refl

  held : (place : ℕ) (o : Open) → slice_get core.requests place ≡ Some o → is_waiting o ≡ true → is_held_by_move core o.request.ask ≡ false → is_held_back core o.request ≡ true
  held place o there waiting free = by (held_or_entry place o there waiting free)
    where
      blocked : (a b : Bool) → (facts_of core o.request).usable ≡ b → next_for core o ≡ (if a || false then next.Wait else if b then next.Admit else next.Land outcome.NoFresh) → a ≡ true
      blocked true b i e = refl
      blocked false true i e = not_so (sym (no_admission place o there) ∙ ap is_admit e)
      blocked false false i e = absurd (let no : Some outcome.NoFresh ≡ None = sym (ap outcome_next e) ∙ no_landing place o there in cc no)

      by : (o.request.phase ≡ phase.Held) ⊎ (o.request.phase ≡ phase.WantEntry) → is_held_back core o.request ≡ true
      by (inl is) = blocked (is_held_back core o.request) (facts_of core o.request).usable refl
          (at_phase place o there waiting free phase.Held is ∙ ap (λ (b : Bool). if is_held_back core o.request || b then next.Wait else if (facts_of core o.request).usable then next.Admit else next.Land outcome.NoFresh) (not_pending o.request free))
      by (inr is) = not_so (sym (no_pinning place o there) ∙ ap (λ b. b && can_pin core.cache o.request.ask) (ap is_pin pins_next) ∙ may_be_pinned o.request.ask)
        where
          pins_next : next_for core o ≡ next.Pin
          pins_next = (goes_on place o there waiting free (if (facts_of core o.request).pinned then next.Wait else next.Pin) (at_phase place o there waiting free phase.WantEntry is)).0
              ∙ ap (λ (b : Bool). if b then next.Wait else next.Pin) (subst (λ p. IsPhase p o) is ((one place o there).waits waiting).shape.phase_is).1

  -- ---- by an earlier step of the copy

  -- a row that stands in the queue is a waiting request's, or that of the step
  from_queue : (t : Row → Bool) → list_any t core.queue.rows ≡ true
      → ((k : ℕ) × (o : Open) × (slice_get core.requests k ≡ Some o) × (is_waiting o ≡ true) × (t (record { id = place_of o.request.id; ask = held_of o.request.ask }) ≡ true))
      ⊎ ((c : OpenCopy) × (core.copy ≡ Some c) × (has_row core c ≡ true) × (t (step_row core c) ≡ true))
  from_queue t some = by core.copy refl (sym (ap (list_any t) going.queue) ∙ some)
    where
      of : (c : OpenCopy) → core.copy ≡ Some c → (b : Bool) → has_row core c ≡ b → list_any t (if b then with_row (step_row core c) (waiting_rows core.requests) else waiting_rows core.requests) ≡ true
          → ((k : ℕ) × (o : Open) × (slice_get core.requests k ≡ Some o) × (is_waiting o ≡ true) × (t (record { id = place_of o.request.id; ask = held_of o.request.ask }) ≡ true))
          ⊎ ((d : OpenCopy) × (core.copy ≡ Some d) × (has_row core d ≡ true) × (t (step_row core d) ≡ true))
      of c is false has e = inl (from_waiting t core.requests e)
      of c is true has e = of_two (from_step t (step_row core c) (waiting_rows core.requests) e)
        where
          of_two : (t (step_row core c) ≡ true) ⊎ (list_any t (waiting_rows core.requests) ≡ true)
              → ((k : ℕ) × (o : Open) × (slice_get core.requests k ≡ Some o) × (is_waiting o ≡ true) × (t (record { id = place_of o.request.id; ask = held_of o.request.ask }) ≡ true))
              ⊎ ((d : OpenCopy) × (core.copy ≡ Some d) × (has_row core d ≡ true) × (t (step_row core d) ≡ true))
          of_two (inl f) = inr (c, is, has, f)
          of_two (inr f) = inl (from_waiting t core.requests f)

      by : (m : Option OpenCopy) → core.copy ≡ m → list_any t (option_map_or (λ (c : OpenCopy). if has_row core c then with_row (step_row core c) (waiting_rows core.requests) else waiting_rows core.requests) m (waiting_rows core.requests)) ≡ true
          → ((k : ℕ) × (o : Open) × (slice_get core.requests k ≡ Some o) × (is_waiting o ≡ true) × (t (record { id = place_of o.request.id; ask = held_of o.request.ask }) ≡ true))
          ⊎ ((d : OpenCopy) × (core.copy ≡ Some d) × (has_row core d ≡ true) × (t (step_row core d) ≡ true))
      by None is e = inl (from_waiting t core.requests e)
      by (Some c) is e = of c is (has_row core c) refl e

  -- what is tested of a row is that it is earlier, and conflicts
  earlier : (a b : ℕ) (c : Bool) → nat_lt a b && c ≡ true → a < b
  earlier a b c e = ltb-true a b (both (nat_lt a b) c e).0

  -- a step of the copy that is open stands before each that waits, but for those that a move holds which is done
  behind_step : (n : ℕ) (place : ℕ) (o : Open) → o.request.id < n → slice_get core.requests place ≡ Some o → is_waiting o ≡ true → is_held_by_move core o.request.ask ≡ false → (c : OpenCopy) × (core.copy ≡ Some c) × (has_row core c ≡ true) × (c.place < place_of o.request.id)
  behind_step zero place o low there waiting free = absurd (omega (arith, low))
  behind_step (suc n) place o low there waiting free = by (λ k x less at w f. behind_step n k x less at w f) (from_queue (λ (row : Row). nat_lt row.id (place_of o.request.id) && conflicts row.ask (held_of o.request.ask)) (held place o there waiting free))
    where
      by : ((k : ℕ) (x : Open) → x.request.id < n → slice_get core.requests k ≡ Some x → is_waiting x ≡ true → is_held_by_move core x.request.ask ≡ false → (c : OpenCopy) × (core.copy ≡ Some c) × (has_row core c ≡ true) × (c.place < place_of x.request.id))
          → ((k : ℕ) × (x : Open) × (slice_get core.requests k ≡ Some x) × (is_waiting x ≡ true) × (nat_lt (place_of x.request.id) (place_of o.request.id) && conflicts (held_of x.request.ask) (held_of o.request.ask) ≡ true))
          ⊎ ((c : OpenCopy) × (core.copy ≡ Some c) × (has_row core c ≡ true) × (nat_lt c.place (place_of o.request.id) && conflicts (step_of core c) (held_of o.request.ask) ≡ true))
          → (c : OpenCopy) × (core.copy ≡ Some c) × (has_row core c ≡ true) × (c.place < place_of o.request.id)
      by rest (inr it) = (it.0, it.1, it.2, earlier it.0.place (place_of o.request.id) (conflicts (step_of core it.0) (held_of o.request.ask)) it.3)
      by rest (inl it) =
          let less = earlier (place_of it.1.request.id) (place_of o.request.id) (conflicts (held_of it.1.request.ask) (held_of o.request.ask)) it.4 in
          let clash = (both (nat_lt (place_of it.1.request.id) (place_of o.request.id)) (conflicts (held_of it.1.request.ask) (held_of o.request.ask)) it.4).1 in
          let found = rest it.0 it.1 (omega (arith, less, low)) it.2 it.3 (with_other it.1 o (one it.0 it.1 it.2) (one place o there) clash free) in
          let before = found.3 in
          (found.0, found.1, found.2, omega (arith, before, less))

  -- ---- and the step goes on

  no_step : (c : OpenCopy) → core.copy ≡ Some c → has_row core c ≡ true → ⊥
  no_step c is has = absurd_so (by_step c.step refl)
    where
      absurd_so : false ≡ true → ⊥
      absurd_so e = cc e

      its_copy : IsCopy core c
      its_copy = subst (λ m. IfSome m (IsCopy core)) is going.copy

      of_copy : {A : Type 0} (t : OpenCopy → A) (rest : A) → option_map_or t core.copy rest ≡ t c
      of_copy t rest = ap (λ m. option_map_or t m rest) is

      still : is_out c.step ≡ false
      still = sym (of_copy (λ (d : OpenCopy). is_out d.step) false) ∙ none_out owner.Copy

      goes : (is_running c ≡ true) × (is_whole core c ≡ false)
      goes = let it = both (is_running c) (not (is_whole core c)) (sym (ap (λ b. b || (is_running c && not (is_whole core c))) still) ∙ has) in (it.0, is_false (is_whole core c) it.1)

      -- it isn't whole, so no move is done
      free_all : (ask : Ask) → is_held_by_move core ask ≡ false
      free_all ask = of_copy (λ (d : OpenCopy). is_move_done core d && is_beside_copy core ask d) false ∙ ap (λ b. b && is_beside_copy core ask c)
          (ap (λ b. c.moves && is_running c && b && stays_fresh core c.pp && not (is_under_way core c)) goes.1 ∙ by (c.moves && is_running c))
        where
          by : (b : Bool) → b && false && stays_fresh core c.pp && not (is_under_way core c) ≡ false
          by true = refl
          by false = refl

      -- a source is left for it
      source : c.step ≡ step.Idle → is_some (next_source core c) ≡ true
      source rests = by (is_running c) (is_missing core c.pp.disk) (is_whole core c) (length (sources_of core c) == 0) (next_source core c) goes.0 goes.1
          (sym (ap (λ (at : Step). end_of core (record c { step = at })) rests) ∙ sym (of_copy (end_of core) None) ∙ going.reviewed)
        where
          by : (a b w z : Bool) (m : Option Pp) → a ≡ true → w ≡ false
              → (if not a then None else if b then Some ending.SyncFailed else if w then ends_if (is_cleared core c) ending.Done else if z then Some ending.NoFresh else ends_if (true && is_none m) ending.SyncFailed) ≡ None → is_some m ≡ true
          by true b false z (Some p) p1 p2 e = refl
          by true true false z None p1 p2 e = absurd (cc e)
          by true false false true None p1 p2 e = absurd (cc e)
          by true false false false None p1 p2 e = absurd (cc e)
          by true b true z m p1 p2 e = not_so (sym p2)
          by false b w z m p1 p2 e = not_so p1

      free : is_free_step core c ≡ true
      free = by (is_blocked core.queue.rows c.place (step_of core c)) refl
        where
          before : ((k : ℕ) × (o : Open) × (slice_get core.requests k ≡ Some o) × (is_waiting o ≡ true) × (nat_lt (place_of o.request.id) c.place && conflicts (held_of o.request.ask) (step_of core c) ≡ true))
              ⊎ ((d : OpenCopy) × (core.copy ≡ Some d) × (has_row core d ≡ true) × (nat_lt d.place c.place && conflicts (step_of core d) (step_of core c) ≡ true)) → false ≡ true
          before (inr it) =
              let less = earlier it.0.place c.place (conflicts (step_of core it.0) (step_of core c)) it.3 in
              let same : it.0.place ≡ c.place = (let e : Some it.0 ≡ Some c = sym it.1 ∙ is in ap (λ (d : OpenCopy). d.place) (same_one it.0 c e)) in
              absurd (omega (arith, less, same))
            where
              same_one : (d e : OpenCopy) → Some d ≡ Some e → d ≡ e
              same_one d e f = cc f
          before (inl it) =
              let less = earlier (place_of it.1.request.id) c.place (conflicts (held_of it.1.request.ask) (step_of core c)) it.4 in
              let found = behind_step (it.1.request.id + 1) it.0 it.1 (omega arith) it.2 it.3 (free_all it.1.request.ask) in
              let later = found.3 in
              let same : found.0.place ≡ c.place = (let e : Some found.0 ≡ Some c = sym found.1 ∙ is in ap (λ (d : OpenCopy). d.place) (same_one found.0 c e)) in
              absurd (omega (arith, less, later, same))
            where
              same_one : (d e : OpenCopy) → Some d ≡ Some e → d ≡ e
              same_one d e f = cc f

          by : (b : Bool) → is_blocked core.queue.rows c.place (step_of core c) ≡ b → not b ≡ true
          by false e = refl
          by true e = before (from_queue (λ (row : Row). nat_lt row.id c.place && conflicts row.ask (step_of core c)) e)

      by_step : (at : Step) → c.step ≡ at → false ≡ true
      by_step step.Idle at =
          sym no_read ∙ of_copy (may_read core) false ∙ ap (λ b. b && not (is_whole core c) && is_idle c.step && is_free_step core c && is_some (next_source core c)) goes.0
          ∙ ap (λ b. not b && is_idle c.step && is_free_step core c && is_some (next_source core c)) goes.1 ∙ ap (λ (x : Step). is_idle x && is_free_step core c && is_some (next_source core c)) at
          ∙ ap (λ b. b && is_some (next_source core c)) free ∙ source at
      by_step (step.Reading p) at = sym still ∙ ap is_out at
      by_step (step.Read buf) at = sym no_write ∙ of_copy may_write false ∙ ap (λ b. b && is_some (hand_of c.step)) goes.0 ∙ ap (λ (x : Step). is_some (hand_of x)) at
      by_step step.Writing at = sym still ∙ ap is_out at

  all_landed : list_any (λ (o : Open). is_waiting o && not (is_held_by_move core o.request.ask)) core.requests ≡ false
  all_landed = none_any (λ (o : Open). is_waiting o && not (is_held_by_move core o.request.ask)) core.requests
      (by_places (λ (o : Open). is_waiting o && not (is_held_by_move core o.request.ask) ≡ false) core.requests (λ k o there. by k o there (is_waiting o) (is_held_by_move core o.request.ask) refl refl))
    where
      by : (k : ℕ) (o : Open) → slice_get core.requests k ≡ Some o → (a b : Bool) → is_waiting o ≡ a → is_held_by_move core o.request.ask ≡ b → is_waiting o && not (is_held_by_move core o.request.ask) ≡ false
      by k o there false b i j = ap (λ c. c && not (is_held_by_move core o.request.ask)) i
      by k o there true true i j = ap (λ c. is_waiting o && not c) j ∙ and_false (is_waiting o)
      by k o there true false i j = let found = behind_step (o.request.id + 1) k o (omega arith) there i j in absurd (no_step found.0 found.1 found.2)

  -- a move that runs and isn't done would be it, since nothing is under way
  copy_over : (m : Option OpenCopy) → core.copy ≡ m → IfSome m (λ (c : OpenCopy). is_running c && not (is_move_done core c) ≡ false)
  copy_over None is = tt
  copy_over (Some c) is = by_move (is_move_done core c) refl
    where
      its_copy : IsCopy core c
      its_copy = subst (λ m. IfSome m (IsCopy core)) is going.copy

      over : is_move_done core c ≡ false → is_running c ≡ false
      over undone = by (is_running c) (is_whole core c) refl refl
        where
          free : (ask : Ask) → is_held_by_move core ask ≡ false
          free ask = ap (λ m. option_map_or (λ (d : OpenCopy). is_move_done core d && is_beside_copy core ask d) m false) is ∙ ap (λ b. b && is_beside_copy core ask c) undone

          calm : is_under_way core c ≡ false
          calm = none_waits core.requests (none_waits_at_all core free core.requests all_landed)
            where
              none_waits : (os : List Open) → list_any is_waiting os ≡ false → list_any (λ (x : Open). is_waiting x && is_past_held x.request.phase && is_beside_copy core x.request.ask c) os ≡ false
              none_waits [] e = refl
              none_waits (x ∷ os) e = let it = or_parts (is_waiting x) (list_any is_waiting os) e in
                  ap (λ b. (b && is_past_held x.request.phase && is_beside_copy core x.request.ask c) || list_any (λ (y : Open). is_waiting y && is_past_held y.request.phase && is_beside_copy core y.request.ask c) os) it.0 ∙ none_waits os it.1

          seen_is : calls_stale (unwrap_or core.status.in_flight core.status.committed) c.pp ≡ is_stale core c.pp
          seen_is = ap (λ m. calls_stale (unwrap_or m core.status.committed) c.pp) settled_status.0

          of_kind : (k : Bool) → c.moves ≡ k → IsOfKind k core c → is_running c ≡ true → is_whole core c ≡ true → is_running c ≡ false
          of_kind false k it i j = let clear = it.clearing i j in not_so (sym clear.1 ∙ wanted_is c.pp ∙ clear.0)
          of_kind true k it i j = not_so (sym undone ∙ done)
            where
              fresh : is_stale core c.pp ≡ false
              fresh = sym (wanted_is c.pp) ∙ it.clear i j

              done : is_move_done core c ≡ true
              done =
                  ap (λ b. b && is_running c && is_whole core c && stays_fresh core c.pp && not (is_under_way core c)) k
                  ∙ ap (λ b. b && is_whole core c && stays_fresh core c.pp && not (is_under_way core c)) i
                  ∙ ap (λ b. b && stays_fresh core c.pp && not (is_under_way core c)) j
                  ∙ ap (λ b. (not (b || calls_stale (unwrap_or core.status.in_flight core.status.committed) c.pp) && not (is_wanted_stale core c.pp)) && not (is_under_way core c)) fresh
                  ∙ ap (λ b. (not b && not (is_wanted_stale core c.pp)) && not (is_under_way core c)) (seen_is ∙ fresh)
                  ∙ ap (λ b. not b && not (is_under_way core c)) (it.clear i j)
                  ∙ ap (λ b. not b) calm

          by : (a b : Bool) → is_running c ≡ a → is_whole core c ≡ b → is_running c ≡ false
          by false b i j = i
          by true true i j = of_kind c.moves refl its_copy.kind i j
          by true false i j = absurd (no_step c is (ap (λ b. is_out c.step || (b && not (is_whole core c))) i ∙ ap (λ b. is_out c.step || not b) j ∙ or_true (is_out c.step)))

      by_move : (b : Bool) → is_move_done core c ≡ b → is_running c && not (is_move_done core c) ≡ false
      by_move true done = ap (λ b. is_running c && not b) done ∙ and_false (is_running c)
      by_move false undone = ap (λ b. b && not (is_move_done core c)) (over undone)

pub never_stands_still : NeverStandsStill
never_stands_still s sound on votes none idle = (all_landed s sound on votes none idle, copy_over s sound on votes none idle s.core.copy refl)
