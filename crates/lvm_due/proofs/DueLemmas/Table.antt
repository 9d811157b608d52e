-- What a request that begins, and one that leaves the table, leave of the events of the others.
use Rattle.std.proofs.Common.{◌≡◌, ◌<◌, ◌≤◌, ◌+◌, ◌⊎◌, ◌&&◌, ◌||◌, ◌++◌, ◌==◌, inl, inr, not, nat_lt, ℕ, zero, suc, Bool, true, false, List, [], ◌∷◌, Option, Some, None, length, slice_get, refl, sym, subst, ◌∙◌, ap, arith}
use Rattle.std.specs.List.{list_any, remove}
use Rattle.std.proofs.lemmas.Bool.{and_left, and_right, eqb-false, eqb-true, false_from_ne_true, le-ltb}
use Rattle.std.proofs.lemmas.List.Folds.{list_any-append}
use Rattle.std.proofs.lemmas.Option.{slice_get_within}
use Rattle.lvm_vol.specs.Facts.{begun}
use Rattle.lvm_vol.specs.Log.{Log, blocks_begun, next_id}
use Rattle.lvm_vol.specs.Order.{Ordered}
use Rattle.lvm_vol.proofs.LogLemmas.{find_stands}
use Rattle.lvm_vol.proofs.FactsLemmas.Counting.{count_begun}
use Rattle.lvm_vol.proofs.FactsLemmas.Order.{numbered, stands-at}
use Rattle.lvm_hold.specs.declared.queue.Row.{Row}
use Rattle.lvm_hold.specs.Conflicts.{conflicts}
use Rattle.lvm_path.specs.declared.ask.Ask.{Ask}
use Rattle.lvm_path.specs.declared.facts.Facts.{Facts}
use Rattle.lvm_path.specs.declared.request.Request.{Request}
use Rattle.lvm_path.specs.Asks.{is_write}
use Rattle.lvm_path.specs.Targets.{is_begun}
use Rattle.lvm_session.specs.declared.event.Event.{Event}
use Rattle.lvm_session.specs.declared.open.Open.{Open}
use Rattle.lvm_session.specs.State.{Core}
use Rattle.lvm_session.specs.Calls.{after_take, new_open, submitted}
use Rattle.lvm_session.specs.Enabled.{admission_at, can_pin, data_at, landing_at, note_at, pinning_at}
use Rattle.lvm_session.specs.declared.bringing.OpenCopy.{OpenCopy}
use Rattle.lvm_session.specs.Judging.{counts_failed, facts_of, held_of, is_beside, is_beside_copy, is_failing, is_held_back, is_held_by_move, is_past_held, is_pending, is_waiting, place_of}
use Rattle.lvm_session.specs.Sound.{IsAsked, IsTold}
use Rattle.lvm_mwc.specs.Cache.{Cached}
use Rattle.lvm_due.proofs.AtPlaces.{at_place}
use Rattle.lvm_due.specs.declared.span.Span.{Span}
use Rattle.lvm_due.specs.Might.{might_pin}
use Rattle.lvm_due.specs.Spans.{is_in, Shifts, Spans}
use Rattle.lvm_due.specs.declared.due.Due.{Due}
use Rattle.lvm_due.specs.Due.{AddsMaking, IsDue, ReadsSame}
use Rattle.lvm_due.specs.Making.{might_make_admission, might_make_data, might_make_landing, might_make_note}
use Rattle.lvm_due.proofs.EnabledLemmas.Alike.{admission_alike, data_alike, landing_alike, note_alike, pinning_alike}
use Rattle.lvm_due.proofs.JudgingLemmas.{facts_but, fails_beside, goes_beside, is_unsettled, moved_read, note_same, pending_read, none_read}
use Rattle.lvm_due.proofs.EnabledLemmas.Unmade.{admit_none, land_none, note_none, pin_none, start_none}
use Rattle.lvm_due.proofs.DueLemmas.Spanning.{KeepsSpan, adds_keep, not_both, out_of}

-- ---- one begins

-- a request of the table has a lower number than the next one
below_next : (log : Log) (o : Open) → Ordered log.run [] log.facts → IsAsked log.facts o → o.request.id < next_id log
below_next log o ordered asks =
    let q = numbered log.run log.facts ordered in
    let found = find_stands o.request.id (begun log.facts) asks.request asks.told in
    let high = (stands-at 1 (begun log.facts) asks.request q.ids found.0).high in
    let own = found.1 in
    let count = count_begun log.run log.facts q.runs in
    omega (arith, high, own, count)

get_before : (os : List Open) (x : Open) (k : ℕ) (o : Open) → (k ≡ length os → ⊥) → slice_get (os ++ x ∷ []) k ≡ Some o → slice_get os k ≡ Some o
get_before [] x zero o apart there = absurd (apart refl)
get_before [] x (suc k) o apart there = there
get_before (y ∷ os) x zero o apart there = there
get_before (y ∷ os) x (suc k) o apart there = get_before os x k o (λ same. apart (ap suc same)) there

get_last : (os : List Open) (x : Open) → slice_get (os ++ x ∷ []) (length os) ≡ Some x
get_last [] x = refl
get_last (y ∷ os) x = get_last os x

long_push : (os : List Open) (x : Open) → length (os ++ x ∷ []) ≡ length os + 1
long_push [] x = refl
long_push (y ∷ os) x = let rest = long_push os x in omega (arith, rest)

module _ (old new : Core) (client : ℕ) (ask : Ask) (bytes : Option (List ℕ)) (told : IsTold old) (begins : new ≡ submitted old client ask bytes) where
  abbrev fresh : Open
  fresh = new_open (next_id old.history) client ask (blocks_begun old.history.facts)

  begun_requests : new.requests ≡ old.requests ++ fresh ∷ []
  begun_requests = ap (λ (c : Core). c.requests) begins

  long_begun : length new.requests ≡ length old.requests + 1
  long_begun = ap length begun_requests ∙ long_push old.requests fresh

  begun_reads : ReadsSame old new
  begun_reads = record {
    descriptor = ap (λ (c : Core). c.descriptor) begins;
    committed = ap (λ (c : Core). c.status.committed) begins;
    wanted = ap (λ (c : Core). c.status.wanted) begins;
    in_flight = ap (λ (c : Core). c.status.in_flight) begins;
    copy = ap (λ (c : Core). c.copy) begins;
  }

  begun_cache : new.cache ≡ old.cache
  begun_cache = ap (λ (c : Core). c.cache) begins

  no_more : (b : Bool) → (b || (false || false)) ≡ b
  no_more true = refl
  no_more false = refl

  fresh_fails : is_failing old fresh ≡ false
  fresh_fails = and_left (is_waiting fresh && is_write ask && false) (list_any (counts_failed old) []) (and_right (is_waiting fresh && is_write ask) false refl)

  -- it fails not yet
  begun_pending : (r : Request) → is_pending new r ≡ is_pending old r
  begun_pending r =
      pending_read old new begun_reads r (moved_read old new begun_reads r.ask goes)
      ∙ ap (λ (os : List Open). is_held_by_move old r.ask || (is_unsettled old r || list_any (fails_beside old r) os)) begun_requests
      ∙ ap (λ (b : Bool). is_held_by_move old r.ask || (is_unsettled old r || b))
      (list_any-append (fails_beside old r) old.requests (fresh ∷ []) ∙ ap (λ (b : Bool). list_any (fails_beside old r) old.requests || (b || false)) fails ∙ no_more (list_any (fails_beside old r) old.requests))
    where
      -- it isn't admitted yet
      goes : (c : OpenCopy) → old.copy ≡ Some c → list_any (goes_beside old c) new.requests ≡ list_any (goes_beside old c) old.requests
      goes c is = ap (list_any (goes_beside old c)) begun_requests ∙ list_any-append (goes_beside old c) old.requests (fresh ∷ []) ∙ no_more (list_any (goes_beside old c) old.requests)

      fails : fails_beside old r fresh ≡ false
      fails = and_right (not (fresh.request.id == r.id) && is_beside old ask r.ask) (is_failing old fresh) fresh_fails

  -- nor is it in the way of one that was there
  begun_behind : (k : ℕ) (o : Open) → slice_get old.requests k ≡ Some o → is_held_back new o.request ≡ is_held_back old o.request
  begun_behind k o there =
      ap (λ (c : Core). is_held_back c o.request) begins
      ∙ list_any-append test old.queue.rows (row ∷ []) ∙ ap (λ (b : Bool). list_any test old.queue.rows || (b || false)) (and_left (nat_lt row.id (place_of o.request.id)) (conflicts row.ask (held_of o.request.ask)) later) ∙ no_more (list_any test old.queue.rows)
    where
      row : Row
      row = record { id = place_of (next_id old.history); ask = held_of ask }

      test : Row → Bool
      test = λ (r : Row). nat_lt r.id (place_of o.request.id) && conflicts r.ask (held_of o.request.ask)

      later : nat_lt row.id (place_of o.request.id) ≡ false
      later = let low = below_next old.history o told.ordered (at_place (IsAsked old.history.facts) old.requests k o told.requests there) in le-ltb (place_of (next_id old.history)) (place_of o.request.id) (omega (arith, low))

  begun_facts : (k : ℕ) (o : Open) → slice_get old.requests k ≡ Some o → facts_of new o.request ≡ facts_of old o.request
  begun_facts k o there =
      facts_but old new begun_reads (ap (λ (c : Cached). c.notes) begun_cache) o.request (begun_pending o.request)
      ∙ ap (λ (b : Bool). let l : Facts = record (facts_of old o.request) { blocked = b } in l) (begun_behind k o there)

  module _ (s t : Span) where
    begun_keeps : (was now : ℕ → Open → Option Event) → KeepsSpan now fresh (length old.requests) (length new.requests) s t → ((k : ℕ) (o : Open) → slice_get old.requests k ≡ Some o → was k o ≡ None → now k o ≡ None)
        → Spans was old.requests s → Spans now new.requests t
    begun_keeps was now keeps same spans = record {
      within = keeps.within (let within = spans.within in let long = long_begun in omega (arith, within, long));
      none = λ k o there out. by k o (ap (λ (os : List Open). slice_get os k) (sym begun_requests) ∙ there) out (k == length old.requests) refl;
    }
      where
        by : (k : ℕ) (o : Open) → slice_get (old.requests ++ fresh ∷ []) k ≡ Some o → is_in t k ≡ false → (b : Bool) → (k == length old.requests) ≡ b → now k o ≡ None
        by k o there out true here =
            let k_is : k ≡ length old.requests = eqb-true k (length old.requests) here in
            let its : fresh ≡ o = cc (sym (get_last old.requests fresh) ∙ ap (slice_get (old.requests ++ fresh ∷ [])) (sym k_is) ∙ there) in
            ap (λ (n : ℕ). now n o) k_is ∙ ap (now (length old.requests)) (sym its) ∙ keeps.own (ap (is_in t) (sym k_is) ∙ out)
        by k o there out false apart =
            let before = get_before old.requests fresh k o (eqb-false k (length old.requests) apart) there in
            same k o before (spans.none k o before (out_of s t k (keeps.wider k) out))

  pub begun_due : (place : ℕ) (was now : Due) → place + 1 ≡ length new.requests → ((o : Open) → slice_get new.requests place ≡ Some o → AddsMaking o.request place was now) → IsDue old was → IsDue new now
  begun_due place was now is making due = record {
    unfailing = λ still. none_read old new begun_reads new.requests ∙ ap (list_any (is_failing old)) begun_requests
        ∙ list_any-append (is_failing old) old.requests (fresh ∷ []) ∙ ap (λ (b : Bool). b || (is_failing old fresh || false)) (due.unfailing (sym adds.unfailing ∙ still)) ∙ ap (λ (b : Bool). b || false) fresh_fails;
    landing = begun_keeps was.landing now.landing (landing_at old) (landing_at new) (adds_keep (landing_at new) fresh at n was.landing now.landing (might_make_landing fresh.request) low (land_none new at fresh) adds.landing)
        (λ k o there. landing_alike old new o (begun_facts k o there) k k) due.landing;
    admission = begun_keeps was.admission now.admission (admission_at old) (admission_at new) (adds_keep (admission_at new) fresh at n was.admission now.admission (might_make_admission fresh.request) low (admit_none new at fresh) adds.admission)
        (λ k o there. admission_alike old new o (begun_facts k o there) k k) due.admission;
    pinning = begun_keeps was.pinning now.pinning (pinning_at old) (pinning_at new) (adds_keep (pinning_at new) fresh at n was.pinning now.pinning (might_pin fresh.request) low (pin_none new at fresh) adds.pinning)
        (λ k o there. pinning_alike old new o (begun_facts k o there) k k (ap (λ (c : Cached). can_pin c o.request.ask) begun_cache)) due.pinning;
    note = begun_keeps was.note now.note (note_at old) (note_at new) (adds_keep (note_at new) fresh at n was.note now.note (might_make_note fresh.request) low (note_none new at fresh) adds.note)
        (λ k o there. note_alike old new o (begun_facts k o there) k k (note_same old new begun_reads (ap (λ (c : Cached). c.notes) begun_cache) o)) due.note;
    «data» = begun_keeps was.data now.data (data_at old) (data_at new) (adds_keep (data_at new) fresh at n was.data now.data (might_make_data fresh.request) low (start_none new at fresh) adds.data)
        (λ k o there. data_alike old new o (begun_facts k o there) k k) due.data;
  }
    where
      at : ℕ
      at = length old.requests

      n : ℕ
      n = length new.requests

      low : length old.requests < length new.requests
      low = let long = long_begun in omega (arith, long)

      last : place ≡ length old.requests
      last = let long = long_begun in omega (arith, is, long)

      adds : AddsMaking fresh.request (length old.requests) was now
      adds = subst (λ (k : ℕ). AddsMaking fresh.request k was now) last
          (making fresh (ap (slice_get new.requests) last ∙ ap (λ (os : List Open). slice_get os (length old.requests)) begun_requests ∙ get_last old.requests fresh))

-- ---- one leaves

-- each of the others stood at its place or at the next
get_removed : (os : List Open) (place k : ℕ) (gone o : Open) → slice_get os place ≡ Some gone → slice_get (remove os place) k ≡ Some o → (slice_get os k ≡ Some o) ⊎ (slice_get os (k + 1) ≡ Some o)
get_removed [] place k gone o at there = absurd (cc at)
get_removed (x ∷ os) zero zero gone o at there = inr there
get_removed (x ∷ os) zero (suc k) gone o at there = inr (subst (λ (n : ℕ). slice_get (x ∷ os) n ≡ Some o) (let e : suc (suc k) ≡ suc k + 1 = omega arith in e) there)
get_removed (x ∷ os) (suc place) zero gone o at there = inl there
get_removed (x ∷ os) (suc place) (suc k) gone o at there = by (get_removed os place k gone o at there)
  where
    by : (slice_get os k ≡ Some o) ⊎ (slice_get os (k + 1) ≡ Some o) → (slice_get (x ∷ os) (suc k) ≡ Some o) ⊎ (slice_get (x ∷ os) (suc k + 1) ≡ Some o)
    by (inl here) = inl here
    by (inr next) = inr (subst (λ (n : ℕ). slice_get (x ∷ os) n ≡ Some o) (let e : suc (k + 1) ≡ suc k + 1 = omega arith in e) next)

any_removed : (test : Open → Bool) (os : List Open) (place : ℕ) (o : Open) → slice_get os place ≡ Some o → test o ≡ false → list_any test (remove os place) ≡ list_any test os
any_removed test [] place o there fails = absurd (cc there)
any_removed test (x ∷ os) zero o there fails = let its : x ≡ o = cc there in sym (ap (λ (b : Bool). b || list_any test os) (ap test its ∙ fails))
any_removed test (x ∷ os) (suc place) o there fails = ap (λ (b : Bool). test x || b) (any_removed test os place o there fails)

module _ (old new : Core) (place id : ℕ) (o : Open) (there : slice_get old.requests place ≡ Some o) (landed : is_waiting o ≡ false) (leaves : new ≡ after_take old place id) where
  left_requests : new.requests ≡ remove old.requests place
  left_requests = ap (λ (c : Core). c.requests) leaves

  left_reads : ReadsSame old new
  left_reads = record {
    descriptor = ap (λ (c : Core). c.descriptor) leaves;
    committed = ap (λ (c : Core). c.status.committed) leaves;
    wanted = ap (λ (c : Core). c.status.wanted) leaves;
    in_flight = ap (λ (c : Core). c.status.in_flight) leaves;
    copy = ap (λ (c : Core). c.copy) leaves;
  }

  left_cache : new.cache ≡ old.cache
  left_cache = ap (λ (c : Core). c.cache) leaves

  left_fails : is_failing old o ≡ false
  left_fails = and_left (is_waiting o && is_write o.request.ask && is_begun o.request.targets.items) (list_any (counts_failed old) o.request.targets.items)
      (and_left (is_waiting o && is_write o.request.ask) (is_begun o.request.targets.items) (and_left (is_waiting o) (is_write o.request.ask) landed))

  left_pending : (r : Request) → is_pending new r ≡ is_pending old r
  left_pending r =
      pending_read old new left_reads r (moved_read old new left_reads r.ask goes)
      ∙ ap (λ (os : List Open). is_held_by_move old r.ask || (is_unsettled old r || list_any (fails_beside old r) os)) left_requests
      ∙ ap (λ (b : Bool). is_held_by_move old r.ask || (is_unsettled old r || b)) (any_removed (fails_beside old r) old.requests place o there fails)
    where
      -- it has landed
      goes : (c : OpenCopy) → old.copy ≡ Some c → list_any (goes_beside old c) new.requests ≡ list_any (goes_beside old c) old.requests
      goes c is = ap (list_any (goes_beside old c)) left_requests
          ∙ any_removed (goes_beside old c) old.requests place o there (and_left (is_waiting o && is_past_held o.request.phase) (is_beside_copy old o.request.ask c) (and_left (is_waiting o) (is_past_held o.request.phase) landed))

      fails : fails_beside old r o ≡ false
      fails = and_right (not (o.request.id == r.id) && is_beside old o.request.ask r.ask) (is_failing old o) left_fails

  left_facts : (e : Open) → facts_of new e.request ≡ facts_of old e.request
  left_facts e =
      facts_but old new left_reads (ap (λ (c : Cached). c.notes) left_cache) e.request (left_pending e.request)
      ∙ ap (λ (c : Core). let l : Facts = record (facts_of old e.request) { blocked = is_held_back c e.request } in l) leaves

  module _ (n : ℕ) (s t : Span) (few : n ≡ length new.requests) (gone : Shifts n s t) where
    left_keeps : (was now : ℕ → Open → Option Event) → ((j k : ℕ) (e : Open) → was j e ≡ None → now k e ≡ None) → Spans was old.requests s → Spans now new.requests t
    left_keeps was now same spans = record { within = let low = gone.within in omega (arith, low, few); none = none_left }
      where
        none_left : (k : ℕ) (e : Open) → slice_get new.requests k ≡ Some e → is_in t k ≡ false → now k e ≡ None
        none_left k e at out = by (get_removed old.requests place k o e there (ap (λ (os : List Open). slice_get os k) (sym left_requests) ∙ at))
          where
            low : k < n
            low = let within = slice_get_within new.requests k e at in omega (arith, within, few)

            by : (slice_get old.requests k ≡ Some e) ⊎ (slice_get old.requests (k + 1) ≡ Some e) → now k e ≡ None
            by (inl here) = same k k e (spans.none k e here (out_of s t k (gone.same k low) out))
            by (inr next) = same (k + 1) k e (spans.none (k + 1) e next (false_from_ne_true (is_in s (k + 1)) (λ is. not_both t k (gone.before k low is) out)))

  pub left_due : (n : ℕ) (was now : Due) → n ≡ length new.requests → Shifts n was.landing now.landing → Shifts n was.admission now.admission → Shifts n was.pinning now.pinning → Shifts n was.note now.note
      → Shifts n was.data now.data → now.unfailing ≡ was.unfailing → IsDue old was → IsDue new now
  left_due n was now few lands admits pins notes datas flag due = record {
    unfailing = λ still. none_read old new left_reads new.requests ∙ ap (list_any (is_failing old)) left_requests ∙ any_removed (is_failing old) old.requests place o there left_fails ∙ due.unfailing (sym flag ∙ still);
    landing = left_keeps n was.landing now.landing few lands (landing_at old) (landing_at new) (λ j k e. landing_alike old new e (left_facts e) j k) due.landing;
    admission = left_keeps n was.admission now.admission few admits (admission_at old) (admission_at new) (λ j k e. admission_alike old new e (left_facts e) j k) due.admission;
    pinning = left_keeps n was.pinning now.pinning few pins (pinning_at old) (pinning_at new) (λ j k e. pinning_alike old new e (left_facts e) j k (ap (λ (c : Cached). can_pin c e.request.ask) left_cache)) due.pinning;
    note = left_keeps n was.note now.note few notes (note_at old) (note_at new) (λ j k e. note_alike old new e (left_facts e) j k (note_same old new left_reads (ap (λ (c : Cached). c.notes) left_cache) e)) due.note;
    «data» = left_keeps n was.data now.data few datas (data_at old) (data_at new) (λ j k e. data_alike old new e (left_facts e) j k) due.data;
  }
