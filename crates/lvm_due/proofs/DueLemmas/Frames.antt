-- What a change of one request leaves of the events of the others.
use Rattle.std.proofs.Common.{◌≡◌, ◌<◌, ◌≤◌, ◌&&◌, ◌||◌, ◌==◌, not, ℕ, zero, suc, Bool, true, false, List, [], ◌∷◌, Option, Some, None, length, slice_get, slice_set, refl, sym, subst, ◌∙◌, ap, arith}
use Rattle.std.specs.Prelude.{if◌then◌else◌}
use Rattle.std.specs.List.{list_any}
use Rattle.std.specs.Option.{option_map}
use Rattle.std.proofs.lemmas.Bool.{and_left, eqb-false, eqb-true}
use Rattle.std.proofs.lemmas.Option.{slice_get_within}
use Rattle.lvm_path.specs.declared.ask.Ask.{Ask}
use Rattle.lvm_path.specs.declared.facts.Facts.{Facts}
use Rattle.lvm_path.specs.declared.facts.Next.{Next}
use Rattle.lvm_path.specs.declared.request.Phase.{Phase}
use Rattle.lvm_path.specs.declared.request.Phase.TheVariants as phase
use Rattle.lvm_path.specs.declared.request.Request.{Request}
use Rattle.lvm_path.specs.Next.{next_in}
use Rattle.lvm_session.specs.declared.event.Event.{Event}
use Rattle.lvm_session.specs.declared.event.Event.TheVariants as event
use Rattle.lvm_session.specs.declared.bringing.OpenCopy.{OpenCopy}
use Rattle.lvm_session.specs.declared.open.Open.{Open}
use Rattle.lvm_session.specs.State.{Core}
use Rattle.lvm_session.specs.Judging.{facts_of, is_beside, is_beside_copy, is_failing, is_held_back, is_held_by_move, is_past_held, is_pending, is_waiting, next_for}
use Rattle.lvm_session.specs.Enabled.{admission_at, can_pin, data_at, is_admit, is_pin, landing_at, note_at, outcome_next, pinning_at, target_next}
use Rattle.lvm_session.specs.Left.{is_held}
use Rattle.lvm_session.specs.Requests.{wants_entry}
use Rattle.lvm_due.proofs.NotNextLemmas.{pins_not}
use Rattle.lvm_due.specs.Might.{might_pin}
use Rattle.lvm_due.specs.declared.span.Span.{Span}
use Rattle.lvm_due.specs.Spans.{is_in, Spans}
use Rattle.lvm_due.specs.declared.due.Due.{Due}
use Rattle.lvm_due.specs.Due.{AddsMaking, Covers, IsDue, Joins, ChangesOne}
use Rattle.lvm_due.specs.Making.{might_make_admission, might_make_data, might_make_landing, might_make_note}
use Rattle.lvm_due.proofs.EnabledLemmas.Unmade.{admit_none, land_none, note_none, pin_none, start_none}
use Rattle.lvm_due.proofs.JudgingLemmas.{facts_but, failing_read, fails_beside, goes_beside, is_unsettled, moved_read, note_same, pending_read, none_read}
use Rattle.lvm_due.proofs.DueLemmas.Spanning.{KeepsSpan, adds_keep, joins_keep, not_both, out_of}
use Rattle.lvm_due.proofs.EnabledLemmas.Unread.{blocked_unread, starts_unread}

-- ---- another request of the table

pub get_other : (os : List Open) (place : ℕ) (is : Open) (k : ℕ) (o : Open) → (k ≡ place → ⊥) → slice_get (slice_set os place is) k ≡ Some o → slice_get os k ≡ Some o
get_other [] place is k o apart there = there
get_other (x ∷ os) zero is zero o apart there = absurd (apart refl)
get_other (x ∷ os) zero is (suc k) o apart there = there
get_other (x ∷ os) (suc place) is zero o apart there = there
get_other (x ∷ os) (suc place) is (suc k) o apart there = get_other os place is k o (λ same. apart (ap suc same)) there

pub get_set : (os : List Open) (k : ℕ) (was is : Open) → slice_get os k ≡ Some was → slice_get (slice_set os k is) k ≡ Some is
get_set [] k was is there = absurd (cc there)
get_set (x ∷ os) zero was is there = refl
get_set (x ∷ os) (suc k) was is there = get_set os k was is there

pub long_set : (os : List Open) (place : ℕ) (is : Open) → length (slice_set os place is) ≡ length os
long_set [] place is = refl
long_set (x ∷ os) zero is = refl
long_set (x ∷ os) (suc place) is = ap suc (long_set os place is)

-- a test that the request at a place passes as it did
pub any_set : (test : Open → Bool) (os : List Open) (place : ℕ) (was is : Open) → slice_get os place ≡ Some was → test is ≡ test was → list_any test (slice_set os place is) ≡ list_any test os
any_set test [] place was is there same = absurd (cc there)
any_set test (x ∷ os) zero was is there same =
    let its : x ≡ was = cc there in
    ap (λ (b : Bool). b || list_any test os) (same ∙ sym (ap test its))
any_set test (x ∷ os) (suc place) was is there same = ap (λ (b : Bool). test x || b) (any_set test os place was is there same)

-- ---- one has changed

module _ (frees pins : Open → Bool) (old new : Core) (place : ℕ) (moves : ChangesOne frees pins old new place) where
  long_same : length new.requests ≡ length old.requests
  long_same = ap length moves.requests ∙ long_set old.requests place moves.is

  changed_there : slice_get new.requests place ≡ Some moves.is
  changed_there = ap (λ (os : List Open). slice_get os place) moves.requests ∙ get_set old.requests place moves.was moves.is moves.there

  -- what is pending for the others is what was
  pending_same : (r : Request) → is_pending new r ≡ is_pending old r
  pending_same r =
      pending_read old new moves.reads r (moved_read old new moves.reads r.ask goes)
      ∙ ap (λ (os : List Open). is_held_by_move old r.ask || (is_unsettled old r || list_any (fails_beside old r) os)) moves.requests
      ∙ ap (λ (b : Bool). is_held_by_move old r.ask || (is_unsettled old r || b)) (any_set (fails_beside old r) old.requests place moves.was moves.is moves.there same)
    where
      beside : (c : OpenCopy) → old.copy ≡ Some c → goes_beside old c moves.is ≡ goes_beside old c moves.was
      beside c is =
          ap (λ (ask : Ask). is_waiting moves.is && is_past_held moves.is.request.phase && is_beside_copy old ask c) moves.ask
          ∙ ap (λ (b : Bool). b && is_beside_copy old moves.was.request.ask c) (moves.goes c is)

      goes : (c : OpenCopy) → old.copy ≡ Some c → list_any (goes_beside old c) new.requests ≡ list_any (goes_beside old c) old.requests
      goes c is = ap (list_any (goes_beside old c)) moves.requests ∙ any_set (goes_beside old c) old.requests place moves.was moves.is moves.there (beside c is)

      fails : is_failing old moves.is ≡ is_failing old moves.was
      fails = sym (failing_read old new moves.reads moves.is) ∙ moves.fails

      same : fails_beside old r moves.is ≡ fails_beside old r moves.was
      same =
          ap (λ (id : ℕ). not (id == r.id) && is_beside old moves.is.request.ask r.ask && is_failing old moves.is) moves.id
          ∙ ap (λ (ask : Ask). not (moves.was.request.id == r.id) && is_beside old ask r.ask && is_failing old moves.is) moves.ask
          ∙ ap (λ (b : Bool). not (moves.was.request.id == r.id) && is_beside old moves.was.request.ask r.ask && b) fails

  facts_same : (r : Request) → facts_of new r ≡ record (facts_of old r) { blocked = is_held_back new r }
  facts_same r = facts_but old new moves.reads moves.notes r (pending_same r)

  -- what one does that doesn't wait for others, or waits as it did
  next_same : (o : Open) → (is_held o.request.phase ≡ true → is_held_back new o.request ≡ is_held_back old o.request) → next_for new o ≡ next_for old o
  next_same o waits = ap (λ (l : Facts). next_in o.request.phase l o.request) (facts_same o.request) ∙ blocked_unread o.request (facts_of old o.request) (is_held_back new o.request) o.request.phase waits

  -- what is started of each
  starts_same : (o : Open) → target_next (next_for new o) ≡ target_next (next_for old o)
  starts_same o =
      ap (λ (l : Facts). target_next (next_in o.request.phase l o.request)) (facts_same o.request)
      ∙ starts_unread o.request (facts_of old o.request) (is_held_back new o.request) o.request.phase

  -- one that waits for an entry pins as it did, and no other pins
  pins_same : (k : ℕ) (o : Open) → pins o ≡ false → (b : Bool) → wants_entry o.request.phase ≡ b → pinning_at old k o ≡ None → pinning_at new k o ≡ None
  pins_same k o kept true waits was =
      ap (λ (n : Next). if is_pin n && can_pin new.cache o.request.ask then Some (event.Pin k) else None) (next_same o (λ held. absurd (let e : true ≡ false = sym held ∙ not_held o.request.phase waits in cc e)))
      ∙ ap (λ (b : Bool). if is_pin (next_for old o) && b then Some (event.Pin k) else None) (moves.pins o waits kept)
      ∙ was
    where
      not_held : (p : Phase) → wants_entry p ≡ true → is_held p ≡ false
      not_held phase.Held is = absurd (cc is)
      not_held phase.WantEntry is = refl
      not_held phase.WantRecord is = refl
      not_held phase.Data is = refl
      not_held phase.WantStatus is = refl
      not_held phase.Landed is = refl
  pins_same k o kept false not_so was =
      ap (λ (b : Bool). if b && can_pin new.cache o.request.ask then Some (event.Pin k) else None)
      (pins_not (facts_of new o.request) o.request o.request.phase (and_left (wants_entry o.request.phase) (not (facts_of new o.request).pinned) not_so))

  -- none fails where none failed
  none_fails : list_any (is_failing old) old.requests ≡ false → list_any (is_failing new) new.requests ≡ false
  none_fails none =
      none_read old new moves.reads new.requests
      ∙ ap (list_any (is_failing old)) moves.requests
      ∙ any_set (is_failing old) old.requests place moves.was moves.is moves.there (sym (failing_read old new moves.reads moves.is) ∙ moves.fails)
      ∙ none

  -- ---- a wider span of each kind

  module _ (s t : Span) where
    at_others : (was now : ℕ → Open → Option Event) → KeepsSpan now moves.is place (length new.requests) s t → Spans was old.requests s
        → ((k : ℕ) (o : Open) → slice_get new.requests k ≡ Some o → slice_get old.requests k ≡ Some o → is_in t k ≡ false → was k o ≡ None → now k o ≡ None) → Spans now new.requests t
    at_others was now keeps spans same = record {
      within = keeps.within (let within = spans.within in let long = long_same in omega (arith, within, long));
      none = λ k o there out. by k o there out (k == place) refl;
    }
      where
        by : (k : ℕ) (o : Open) → slice_get new.requests k ≡ Some o → is_in t k ≡ false → (b : Bool) → (k == place) ≡ b → now k o ≡ None
        by k o there out true here =
            let k_is : k ≡ place = eqb-true k place here in
            let at : slice_get new.requests place ≡ Some o = ap (slice_get new.requests) (sym k_is) ∙ there in
            let its : moves.is ≡ o = cc (sym (changed_there) ∙ at) in
            ap (λ (n : ℕ). now n o) k_is ∙ ap (now place) (sym its) ∙ keeps.own (ap (is_in t) (sym k_is) ∙ out)
        by k o there out false apart =
            let earlier = get_other old.requests place moves.is k o (eqb-false k place apart) (ap (λ (os : List Open). slice_get os k) (sym moves.requests) ∙ there) in
            same k o there earlier out (spans.none k o earlier (out_of s t k (keeps.wider k) out))

    note_keeps : KeepsSpan (note_at new) moves.is place (length new.requests) s t → Spans (note_at old) old.requests s → Spans (note_at new) new.requests t
    note_keeps keeps spans = at_others (note_at old) (note_at new) keeps spans
        (λ k o there before out none. ap (λ (disk : Option ℕ). option_map (event.StartNote k) disk) (note_same old new moves.reads moves.notes o) ∙ none)

    data_keeps : KeepsSpan (data_at new) moves.is place (length new.requests) s t → Spans (data_at old) old.requests s → Spans (data_at new) new.requests t
    data_keeps keeps spans = at_others (data_at old) (data_at new) keeps spans
        (λ k o there before out none. ap (λ (target : Option ℕ). option_map (event.StartData k) target) (starts_same o) ∙ none)

    -- what isn't in a span that has those that pass a test doesn't pass
    module _ (which : Open → Bool) (covers : (k : ℕ) (o : Open) → slice_get new.requests k ≡ Some o → which o ≡ true → is_in t k ≡ true) where
      kept : (k : ℕ) (o : Open) → slice_get new.requests k ≡ Some o → is_in t k ≡ false → which o ≡ false
      kept k o there out = by (which o) refl
        where
          by : (b : Bool) → which o ≡ b → which o ≡ false
          by true is = not_both t k (covers k o there is) out
          by false is = is

    module _ (covers : (k : ℕ) (o : Open) → slice_get new.requests k ≡ Some o → frees o ≡ true → is_in t k ≡ true) where
      landing_keeps : KeepsSpan (landing_at new) moves.is place (length new.requests) s t → Spans (landing_at old) old.requests s → Spans (landing_at new) new.requests t
      landing_keeps keeps spans = at_others (landing_at old) (landing_at new) keeps spans
          (λ k o there before out none. ap (λ (n : Next). option_map (event.Land k) (outcome_next n)) (next_same o (λ held. moves.waits k o before held (kept frees covers k o there out))) ∙ none)

      admission_keeps : KeepsSpan (admission_at new) moves.is place (length new.requests) s t → Spans (admission_at old) old.requests s → Spans (admission_at new) new.requests t
      admission_keeps keeps spans = at_others (admission_at old) (admission_at new) keeps spans
          (λ k o there before out none. ap (λ (n : Next). if is_admit n then Some (event.Admit k) else None) (next_same o (λ held. moves.waits k o before held (kept frees covers k o there out))) ∙ none)

    pinning_keeps : ((k : ℕ) (o : Open) → slice_get new.requests k ≡ Some o → pins o ≡ true → is_in t k ≡ true) → KeepsSpan (pinning_at new) moves.is place (length new.requests) s t → Spans (pinning_at old) old.requests s
        → Spans (pinning_at new) new.requests t
    pinning_keeps covers keeps spans = at_others (pinning_at old) (pinning_at new) keeps spans (λ k o there before out none. pins_same k o (kept pins covers k o there out) (wants_entry o.request.phase) refl none)

-- The place is added where the request may make an event, to landing and admission those that are freed, and to pinning those of the entries.
pub moved_due : (frees pins : Open → Bool) (old new : Core) (place : ℕ) (was each now : Due) (freed entries : Span) → place < length new.requests → Covers frees new.requests (length new.requests) freed
    → Covers pins new.requests (length new.requests) entries → ((o : Open) → slice_get new.requests place ≡ Some o → AddsMaking o.request place was each) → Joins freed each.landing now.landing
    → Joins freed each.admission now.admission → Joins entries each.pinning now.pinning → now.note ≡ each.note → now.data ≡ each.data → now.unfailing ≡ each.unfailing → ChangesOne frees pins old new place → IsDue old was → IsDue new now
moved_due frees pins old new place was each now freed entries low free enter making lands admits pinned notes datas flag moves due = record {
  unfailing = λ is. none_fails frees pins old new place moves (due.unfailing (sym (flag ∙ adds.unfailing) ∙ is));
  landing = landing_keeps frees pins old new place moves was.landing now.landing (λ k o there is. lands.has k (free.has k o (slice_get_within new.requests k o there) there is))
      (joins_keep (landing_at new) moves.is place n freed was.landing each.landing now.landing free.within (adds_keep (landing_at new) moves.is place n was.landing each.landing (might_make_landing moves.is.request) low (land_none new place moves.is) adds.landing) lands) due.landing;
  admission = admission_keeps frees pins old new place moves was.admission now.admission (λ k o there is. admits.has k (free.has k o (slice_get_within new.requests k o there) there is))
      (joins_keep (admission_at new) moves.is place n freed was.admission each.admission now.admission free.within
      (adds_keep (admission_at new) moves.is place n was.admission each.admission (might_make_admission moves.is.request) low (admit_none new place moves.is) adds.admission) admits) due.admission;
  pinning = pinning_keeps frees pins old new place moves was.pinning now.pinning (λ k o there is. pinned.has k (enter.has k o (slice_get_within new.requests k o there) there is))
      (joins_keep (pinning_at new) moves.is place n entries was.pinning each.pinning now.pinning enter.within (adds_keep (pinning_at new) moves.is place n was.pinning each.pinning (might_pin moves.is.request) low (pin_none new place moves.is) adds.pinning) pinned) due.pinning;
  note = subst (Spans (note_at new) new.requests) (sym notes)
      (note_keeps frees pins old new place moves was.note each.note (adds_keep (note_at new) moves.is place n was.note each.note (might_make_note moves.is.request) low (note_none new place moves.is) adds.note) due.note);
  «data» = subst (Spans (data_at new) new.requests) (sym datas)
      (data_keeps frees pins old new place moves was.data each.data (adds_keep (data_at new) moves.is place n was.data each.data (might_make_data moves.is.request) low (start_none new place moves.is) adds.data) due.data);
}
  where
    n : ℕ
    n = length new.requests

    adds : AddsMaking moves.is.request place was each
    adds = making moves.is (changed_there frees pins old new place moves)
