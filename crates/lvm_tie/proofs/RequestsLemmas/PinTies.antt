-- A request that pins its track group, tied.
use Rattle.std.proofs.Common.{◌≡◌, ◌⊎◌, inl, inr, ⊎_elim, ℕ, zero, suc, ◌<◌, ◌≤◌, Bool, true, false, ◌&&◌, ◌||◌, ◌==◌, not, if◌then◌else◌, List, [], ◌∷◌, length, cond, Option, Some, refl, sym, ap, subst, ◌∙◌, arith}
use Rattle.std.specs.Prelude.{IsTrue, count_by, nat_le, slice_get, slice_set}
use Rattle.std.proofs.lemmas.Bool.{cases_eq, eq-eqb, and_parts}
use Rattle.std.proofs.lemmas.Bool.Decides.{nat_tests}
use Rattle.std.proofs.lemmas.List.Sums.{sum_by-cons}
use Rattle.std.proofs.lemmas.Option.{slice_get_within}
use Rattle.lvm_num.specs.declared.descriptor.Mode.{Mode}
use Rattle.lvm_num.specs.declared.descriptor.Mode.TheVariants as mode
use Rattle.lvm_num.specs.Geometry.{track_group_of}
use Rattle.lvm_num.proofs.Lists.{set_beside, set_here}
use Rattle.lvm_vol.specs.Facts.{Fact}
use Rattle.lvm_disk.specs.Device.{Flight, image_of}
use Rattle.lvm_kept.specs.Contents.{contents_of}
use Rattle.lvm_kept.specs.Torn.{RecordWrite}
use Rattle.lvm_mwc.specs.declared.entries.CacheEntry.{CacheEntry}
use Rattle.lvm_mwc.specs.Entries.{are_all_pinned, has_entry, pins_of}
use Rattle.lvm_mwc.specs.Cache.{Cached, after_pin}
use Rattle.lvm_mwc.proofs.EntriesLemmas.Pins.{pinned_is_there}
use Rattle.lvm_path.specs.declared.facts.Facts.{Facts}
use Rattle.lvm_path.specs.declared.request.Phase.{Phase}
use Rattle.lvm_path.specs.declared.request.Phase.TheVariants as phase
use Rattle.lvm_path.specs.Asks.{is_write, lv_of}
use Rattle.lvm_path.specs.Targets.{is_begun}
use Rattle.lvm_path.specs.Next.{with_pin}
use Rattle.lvm_session.specs.declared.open.Open.{Open}
use Rattle.lvm_session.specs.declared.bringing.OpenCopy.{OpenCopy}
use Rattle.lvm_session.specs.declared.bringing.Step.{Step}
use Rattle.lvm_session.specs.declared.bringing.Step.TheVariants as step
use Rattle.lvm_session.specs.declared.flown.Owner.{Owner}
use Rattle.lvm_session.specs.declared.flown.Owner.TheVariants as owner
use Rattle.lvm_session.specs.State.{Core, State, state}
use Rattle.lvm_session.specs.Judging.{facts_of, group_of, is_running, is_waiting, mode_of, next_for, place_of}
use Rattle.lvm_session.specs.Bringing.{is_out, is_whole}
use Rattle.lvm_session.specs.Enabled.{can_pin, is_pin}
use Rattle.lvm_session.specs.Events.{Pins}
use Rattle.lvm_session.specs.Requests.{IsPinned, IsRecorded, MayBeServed}
use Rattle.lvm_session.specs.Sound.{IsSound, pins}
use Rattle.lvm_keeps_events.proofs.passed.Keeps.{pins_entry}
use Rattle.lvm_invariant.specs.State.{Queued, Ready, ModelState, is_pinning}
use Rattle.lvm_invariant.specs.Updates.{put}
use Rattle.lvm_invariant.specs.Pin.{Pins as MayPin, pinned}
use Rattle.lvm_invariant.specs.Events.{Pin, ModelStep}
use Rattle.lvm_invariant.proofs.EventsLemmas.Each.{each_keeps}
use Rattle.lvm_crash.proofs.RecordsLemmas.Quiet.{quiet_lasts}
use Rattle.lvm_tie.proofs.OutLemmas.Ties.{carry_on}
use Rattle.lvm_tie.specs.Out.{CarriesStep}
use Rattle.lvm_tie.specs.Seen.{IsRequestAt, IsStepAt, Sees, SeesRequest, phase_seen, update_of}
use Rattle.lvm_tie.specs.Tied.{IsOrderly, IsTied}
use Rattle.lvm_tie.proofs.SeenLemmas.Changing.{sees_changed, step_apart}
use Rattle.lvm_tie.proofs.ModesLemmas.{active_is, active_mode}
use Rattle.lvm_tie.proofs.TiedLemmas.Orderly.{numbers_of, open_one, orderly_same, waiting_one}
use Rattle.lvm_tie.specs.Requests.{PinTies}

-- ---- the cache

after_pin_is : (c : Cached) (lv g : ℕ) → after_pin c lv g ≡ record c { entries = (after_pin c lv g).entries }
after_pin_is c lv g = by (are_all_pinned c.entries lv g)
  where
    by : (b : Bool) → (if b then c else record c { entries = Rattle.lvm_mwc.specs.Entries.with_pin c.entries lv g }) ≡ record c { entries = (if b then c else record c { entries = Rattle.lvm_mwc.specs.Entries.with_pin c.entries lv g }).entries }
    by true = refl
    by false = refl

sees_cache : (past : List Fact) (core : Core) (v : ModelState) (entries : List CacheEntry) → Sees past core v → Sees past (record core { cache = record core.cache { entries = entries } }) (record v { cache = has_entry entries })
sees_cache past core v entries sees = record {
  queue = sees.queue;
  facts = sees.facts;
  status = sees.status;
  notes = record {
    cache = λ lv g. refl;
    home = sees.notes.home;
    flying = sees.notes.flying;
  };
  open_copy = sees.open_copy;
  step_write = sees.step_write;
  beside = sees.beside;
}

counted : (os : List Open) (k : ℕ) (o : Open) (t : Open → Bool) → slice_get os k ≡ Some o → t o ≡ true → 0 < count_by t os
counted [] k o t there is = absurd (cc there)
counted (x ∷ os) zero o t there is =
    let same : x ≡ o = cc there in
    let more = sum_by-cons (λ y. cond (t y) 1 0) x os in
    let one : ◌≡◌ {A = ℕ} (cond (t x) 1 0) 1 = ap (λ b. cond b 1 0) (ap t same ∙ is) in
    omega (arith, more, one)
counted (x ∷ os) (suc k) o t there is =
    let more = sum_by-cons (λ y. cond (t y) 1 0) x os in
    let rest : 0 < count_by t os = counted os k o t there is in
    omega (arith, more, rest)

-- in a sound session what a request has pinned stands in the cache
pinned_there : (s : State) (write : Option RecordWrite) (orderly : IsOrderly s write) (k : ℕ) (o : Open) → slice_get s.core.requests k ≡ Some o → o.request.pinned ≡ true → has_entry s.core.cache.entries (lv_of o.request.ask) (group_of o.request.ask) ≡ true
pinned_there s write orderly k o there is =
    let lv = lv_of o.request.ask in
    let g = group_of o.request.ask in
    let own : pins lv g o ≡ true = (λ t. is t && eq-eqb lv lv refl t && eq-eqb g g refl t) in
    let some = counted s.core.requests k o (pins lv g) there own in
    let count = (orderly.sound.on orderly.on).going.pinned lv g in
    pinned_is_there s.core.cache.entries lv g (omega (arith, some, count))

module _ (past : List Fact) (old new : State) (place : ℕ) (event : Pins old new place) (tied : IsTied past old) (sound : IsSound new) where
  abbrev core : Core
  core = old.core

  abbrev o : Open
  o = event.request

  abbrev v : ModelState
  v = tied.view

  abbrev i : ℕ
  i = place_of o.request.id

  abbrev o2 : Open
  o2 = record o { request = with_pin o.request }

  abbrev k : Facts
  k = facts_of core o.request

  abbrev q : Queued
  q = (tied.sees.queue.requests place o event.there).0

  at : v.queue i ≡ Some q
  at = (tied.sees.queue.requests place o event.there).1

  sees : SeesRequest o q
  sees = (tied.sees.queue.requests place o event.there).2

  abbrev q2 : Queued
  q2 = record q { phase = Ready }

  abbrev entries : List CacheEntry
  entries = (after_pin core.cache (lv_of o.request.ask) (group_of o.request.ask)).entries

  abbrev core1 : Core
  core1 = record core { requests = slice_set core.requests place o2 }

  abbrev core2 : Core
  core2 = record core1 { cache = record core.cache { entries = entries } }

  whole : new ≡ state old.device core2
  whole = event.is ∙ ap (λ (c : Cached). state old.device (record core1 { cache = c })) (after_pin_is core.cache (lv_of o.request.ask) (group_of o.request.ask))

  orderly : IsOrderly (state old.device core2) tied.write
  orderly = orderly_same old (state old.device core2) tied.write tied.orderly (subst IsSound whole sound) refl refl refl

  wants_entry : o.request.phase ≡ phase.WantEntry
  wants_entry = pins_entry o.request.phase k o.request (and_parts (is_pin (next_for core o)) (can_pin core.cache o.request.ask) event.pins).0

  sees2 : SeesRequest o2 q2
  sees2 = record { lv = sees.lv; first = sees.first; count = sees.count; write = sees.write; step = sees.step; phase = refl; several = sees.several; targets = sees.targets; got = sees.got }

  abbrev w1 : ModelState
  w1 = record v { queue = put v.queue i q2 }

  abbrev w : ModelState
  w = pinned v i q (has_entry entries)

  sees_all : Sees past core2 w
  sees_all = sees_cache past core1 w1 entries
      (sees_changed past core v place o o2 q2 core.pool core.flying core.last core.queue core.cache.entries v.media.block tied.sees (numbers_of old tied.write tied.orderly) event.there refl sees2 (λ lv g. refl))

  there_now : slice_get core2.requests place ≡ Some o2
  there_now = set_here core.requests place o2 (slice_get_within core.requests place o event.there)

  own_there : has_entry entries (lv_of o.request.ask) (group_of o.request.ask) ≡ true
  own_there = pinned_there (state old.device core2) tied.write orderly place o2 there_now refl

  -- a write of several targets in mode active that has passed its entry has pinned it
  has_pinned : (place2 : ℕ) (p : Open) (e : Queued) → slice_get core.requests place2 ≡ Some p → SeesRequest p e → IsTrue e.write → IsTrue (is_pinning e.phase) → IsTrue (v.is_active e.lv) → IsTrue e.several → p.request.pinned ≡ true
  has_pinned place2 p e there its write pinning active several = by (is_waiting p) refl
    where
      writes : is_write p.request.ask ≡ true
      writes = sym its.write ∙ write

      is_active_mode : mode_of core p.request.ask ≡ mode.Active
      is_active_mode = active_mode (mode_of core p.request.ask) (sym (active_is past old tied p.request.ask (open_one old tied.write tied.orderly place2 p there).laid.within) ∙ ap v.is_active (sym its.lv) ∙ active)

      two : nat_le 2 (length p.request.targets.items) ≡ true
      two = sym its.several ∙ several

      pinning_at : is_pinning (phase_seen p.request.phase (is_begun p.request.targets.items)) ≡ true
      pinning_at = ap is_pinning (sym its.phase) ∙ pinning

      by_phase : (f : Phase) → is_pinning (phase_seen f (is_begun p.request.targets.items)) ≡ true → IsPinned f p.request → p.request.pinned ≡ true
      by_phase phase.Held is said = absurd (cc is)
      by_phase phase.WantEntry is said = absurd (cc is)
      by_phase phase.WantRecord is said = said
      by_phase phase.Data is said = ⊎_elim (λ h. h) (λ few. absurd (let h : nat_le 2 (length p.request.targets.items) ≡ true = two in let more : 2 ≤ length p.request.targets.items = grind (arith, nat_tests) in omega (arith, few, more))) said
      by_phase phase.WantStatus is said = ⊎_elim (λ h. h) (λ few. absurd (let h : nat_le 2 (length p.request.targets.items) ≡ true = two in let more : 2 ≤ length p.request.targets.items = grind (arith, nat_tests) in omega (arith, few, more))) said
      by_phase phase.Landed is said = absurd (cc is)

      by : (b : Bool) → is_waiting p ≡ b → p.request.pinned ≡ true
      by true waits =
          let ready : MayBeServed core p.request = (waiting_one old tied.write tied.orderly place2 p there waits).ready in
          let recorded : IsRecorded mode.Active p.request.phase p.request = subst (λ (m : Mode). IsRecorded m p.request.phase p.request) is_active_mode (subst (λ b. IsRecorded (if b then mode_of core p.request.ask else mode.Off) p.request.phase p.request) writes ready.recorded) in
          by_phase p.request.phase pinning_at recorded
      by false over = absurd (let f = ((open_one old tied.write tied.orderly place2 p there).over over).phase_is in let e2 : false ≡ true = sym (ap (λ (x : Phase). is_pinning (phase_seen x (is_begun p.request.targets.items))) f) ∙ pinning_at in cc)

  keeps : (j : ℕ) (e : Queued) → v.queue j ≡ Some e → IsTrue e.write → IsTrue (is_pinning e.phase) → IsTrue (v.is_active e.lv) → IsTrue e.several
      → IsTrue (v.cache e.lv (track_group_of e.first)) → IsTrue (has_entry entries e.lv (track_group_of e.first))
  keeps j e here write pinning active several was = ⊎_elim of_request of_step (tied.sees.queue.only j e here)
    where
      of_step : IsStepAt core j → IsTrue (has_entry entries e.lv (track_group_of e.first))
      of_step r =
          let s = tied.sees.queue.a_step r.copy r.is_open r.row in
          let same : s.0 ≡ e = let x : Some s.0 ≡ Some e = sym s.1 ∙ ap v.queue r.its ∙ here in cc in
          absurd (let x : false ≡ true = sym s.2.write ∙ ap (λ (y : Queued). y.write) same ∙ write in cc)

      of_request : IsRequestAt core j → IsTrue (has_entry entries e.lv (track_group_of e.first))
      of_request r =
          let s = tied.sees.queue.requests r.place r.request r.there in
          let same : s.0 ≡ e = let x : Some s.0 ≡ Some e = sym s.1 ∙ ap v.queue r.its ∙ here in cc in
          let its : SeesRequest r.request e = subst (SeesRequest r.request) same s.2 in
          let is : r.request.request.pinned ≡ true = has_pinned r.place r.request e r.there its write pinning active several in
          (λ t. has_entry entries (its.lv t) (track_group_of (its.first t))) ∙ of_place r.place r.request r.there is (cases_eq r.place place)
        where
          of_place : (n : ℕ) (p : Open) → slice_get core.requests n ≡ Some p → p.request.pinned ≡ true → (n ≡ place) ⊎ (n ≡ place → ⊥) → has_entry entries (lv_of p.request.ask) (group_of p.request.ask) ≡ true
          of_place n p there2 is (inl e2) =
              let own : p ≡ o = let x : Some p ≡ Some o = sym there2 ∙ ap (slice_get core.requests) e2 ∙ event.there in cc in
              ap (λ (x : Open). has_entry entries (lv_of x.request.ask) (group_of x.request.ask)) own ∙ own_there
          of_place n p there2 is (inr ne) = pinned_there (state old.device core2) tied.write orderly n p (set_beside core.requests place n o2 ne ∙ there2) is

  may : MayPin v i q (has_entry entries)
  may = record {
    there = at;
    waits = sees.phase ∙ ap (λ (p : Phase). phase_seen p (is_begun o.request.targets.items)) wants_entry;
    has = (λ t. has_entry entries (sees.lv t) (track_group_of (sees.first t))) ∙ own_there;
    keeps = keeps;
  }

  carries : (g : Flight) (who : Owner) → CarriesStep core v g who → CarriesStep core2 w g who
  carries g (owner.Data id n) its = tt
  carries g (owner.Status disk) its = tt
  carries g (owner.Note disk) its = tt
  carries g owner.Copy its = λ c p is writing here. its c p is writing (sym (elsewhere c is writing) ∙ here)
    where
      elsewhere : (c : OpenCopy) → core.copy ≡ Some c → c.step ≡ step.Writing → w.queue c.place ≡ v.queue c.place
      elsewhere c is writing = elim (cases_eq c.place i) [
        | inl e ↦ absurd (step_apart past core v place o o2 q2 core.pool core.flying core.last core.queue core.cache.entries v.media.block tied.sees (numbers_of old tied.write tied.orderly) event.there refl sees2 (λ lv g. refl) c is
            (ap (λ (st : Step). is_out st || (is_running c && not (is_whole core c))) writing) e)
        | inr ne ↦ let test : (c.place == i) ≡ false = grind (arith, nat_tests) in ap (λ b. if b then Some q2 else v.queue c.place) test
      ]

  step_is : ModelStep tied.votes (Pin i q (has_entry entries)) v w
  step_is = (may, refl)

  pub pin_tied : IsTied past new
  pin_tied = subst (IsTied past) (sym whole) (record {
    votes = tied.votes;
    media = tied.media;
    setting = tied.setting;
    view = w;
    sees = sees_all;
    good = each_keeps tied.votes (Pin i q (has_entry entries)) v w step_is tied.good;
    describes = quiet_lasts tied.votes (Pin i q (has_entry entries)) v w core.descriptor (update_of core.status) (contents_of (image_of old.device.sizes tied.media)) step_is tied.good tt tied.describes refl refl refl;
    write = tied.write;
    orderly = orderly;
    since = tied.since;
    recorded = tied.recorded;
    notes = tied.notes;
    copy_aimed = tied.copy_aimed;
    carry = carry_on core core2 v w old.device.flights core.flying carries tied.carry;
  })

pub pin_ties : PinTies
pin_ties place past old new tied sound event = pin_tied past old new place event tied sound
