-- What the start of a note and its end leave of the events of requests.
use Rattle.std.proofs.Common.{◌≡◌, ◌≤◌, ◌&&◌, ◌||◌, ◌==◌, not, cond, ℕ, Bool, true, false, List, [], ◌∷◌, Option, Some, None, length, slice_get, refl, sym, subst, ◌∙◌, ap}
use Rattle.std.specs.Prelude.{if◌then◌else◌, find, is_none, option_and_then}
use Rattle.std.specs.List.{list_all, list_any}
use Rattle.std.specs.Option.{option_map, option_map_or}
use Rattle.std.proofs.lemmas.Bool.{and_from, and_parts, eqb-true}
use Rattle.lvm_num.specs.Buffer.{Buffer}
use Rattle.lvm_num.specs.declared.descriptor.Descriptor.{Descriptor}
use Rattle.lvm_num.specs.declared.record.NoteEntry.{NoteEntry}
use Rattle.lvm_num.specs.declared.descriptor.Mode.{Mode}
use Rattle.lvm_num.specs.declared.descriptor.Mode.TheVariants as mode
use Rattle.arrayvec.specs.ArrayVec.{ArrayVec}
use Rattle.lvm_hold.specs.declared.queue.Row.{Row}
use Rattle.lvm_hold.specs.Waiting.{is_blocked}
use Rattle.lvm_mwc.specs.declared.entries.CacheEntry.{CacheEntry}
use Rattle.lvm_mwc.specs.declared.notes.DiskNotes.{DiskNotes}
use Rattle.lvm_mwc.specs.Entries.{note_of}
use Rattle.lvm_mwc.specs.Notes.{both_name, is_of_disk, names_group}
use Rattle.lvm_mwc.specs.Cache.{Cached, after_start, flight_on, is_named, notes_on, started}
use Rattle.lvm_mwc.proofs.FirstsLemmas.{find-with, find-with_other}
use Rattle.lvm_path.specs.declared.ask.Ask.{Ask}
use Rattle.lvm_path.specs.declared.facts.Facts.{Facts}
use Rattle.lvm_path.specs.declared.request.Request.{Request}
use Rattle.lvm_path.specs.declared.target.Target.{Target}
use Rattle.lvm_path.specs.Asks.{lv_of}
use Rattle.lvm_path.specs.Next.{next_in}
use Rattle.lvm_session.specs.declared.event.Event.{Event}
use Rattle.lvm_session.specs.declared.event.Event.TheVariants as event
use Rattle.lvm_session.specs.declared.flown.Owner.TheVariants as owner
use Rattle.lvm_session.specs.declared.open.Open.{Open}
use Rattle.lvm_session.specs.State.{Core, State}
use Rattle.lvm_session.specs.Ends.{NoteLearns}
use Rattle.lvm_session.specs.Events.{StartsNote, with_flight}
use Rattle.lvm_session.specs.Enabled.{admission_at, can_pin, data_at, is_admit, is_pin, is_unnamed, landing_at, note_at, note_due, outcome_next, pinning_at, target_next, wants_record}
use Rattle.lvm_session.specs.Judging.{facts_of, group_of, has_names, held_of, is_held_back, is_held_by_move, is_missing, is_pending, mode_of, next_for, place_of, is_failing}
use Rattle.lvm_due.specs.declared.span.Span.{Span}
use Rattle.lvm_due.specs.Spans.{Spans}
use Rattle.lvm_due.specs.declared.due.Due.{Due}
use Rattle.lvm_due.specs.Due.{IsDue, ReadsSame}
use Rattle.lvm_due.proofs.EnabledLemmas.Alike.{none_chosen, none_mapped}
use Rattle.lvm_due.proofs.JudgingLemmas.{facts_read, fails_beside, goes_beside, is_unsettled, moved_read, pending_read, none_read}
use Rattle.lvm_due.proofs.DueLemmas.Spanning.{keep, spans_all}
use Rattle.lvm_due.proofs.EnabledLemmas.Unread.{named_falls, named_unread, named_unread_admit, named_unread_pin}

-- what is found passes
find_passes : {X : Type 0} (test : X → Bool) (xs : List X) (x : X) → find test xs ≡ Some x → test x ≡ true
find_passes test [] x is = absurd (cc is)
find_passes test (y ∷ xs) x is = by (find_passes test xs x) (test y) refl is
  where
    by : (find test xs ≡ Some x → test x ≡ true) → (b : Bool) → test y ≡ b → cond b (Some y) (find test xs) ≡ Some x → test x ≡ true
    by rest true passes same = let its : y ≡ x = cc same in ap test (sym its) ∙ passes
    by rest false fails same = rest same

-- where none passes, none passes a test that fewer pass
find_fewer : {X : Type 0} (more fewer : X → Bool) (xs : List X) → ((x : X) → fewer x ≡ true → more x ≡ true) → find more xs ≡ None → find fewer xs ≡ None
find_fewer more fewer [] all is = refl
find_fewer more fewer (y ∷ xs) all is = by (find_fewer more fewer xs all) (more y) (fewer y) refl refl is
  where
    by : (find more xs ≡ None → find fewer xs ≡ None) → (a b : Bool) → more y ≡ a → fewer y ≡ b → cond a (Some y) (find more xs) ≡ None → cond b (Some y) (find fewer xs) ≡ None
    by rest true b mores fewers same = absurd (cc same)
    by rest false true mores fewers same = absurd (let e : true ≡ false = sym (all y fewers) ∙ mores in cc e)
    by rest false false mores fewers same = rest same

all_more : {X : Type 0} (more fewer : X → Bool) (xs : List X) → ((x : X) → fewer x ≡ true → more x ≡ true) → list_all fewer xs ≡ true → list_all more xs ≡ true
all_more more fewer [] all is = refl
all_more more fewer (y ∷ xs) all is = let both = and_parts (fewer y) (list_all fewer xs) is in and_from (more y) (list_all more xs) (all y both.0) (all_more more fewer xs all both.1)

-- ---- only the notes have changed

module _ (old new : Core) (reads : ReadsSame old new) (requests : new.requests ≡ old.requests) (queue : new.queue.rows ≡ old.queue.rows) where
  facts_named : (r : Request) → facts_of new r ≡ record (facts_of old r) { named = has_names new (mode_of new r.ask) r }
  facts_named r = facts_read old new reads r ∙ (λ i. record (facts_of old r) { blocked = blocked i; pending = pending i; named = has_names new (mode_of new r.ask) r })
    where
      blocked : is_held_back new r ≡ is_held_back old r
      blocked = ap (λ (rows : List Row). is_blocked rows (place_of r.id) (held_of r.ask)) queue

      pending : is_pending new r ≡ is_pending old r
      pending = pending_read old new reads r (moved_read old new reads r.ask (λ c is. ap (list_any (goes_beside old c)) requests)) ∙ ap (λ (os : List Open). is_held_by_move old r.ask || (is_unsettled old r || list_any (fails_beside old r) os)) requests

  next_named : (o : Open) → next_for new o ≡ next_in o.request.phase (record (facts_of old o.request) { named = has_names new (mode_of new o.request.ask) o.request }) o.request
  next_named o = ap (λ (l : Facts). next_in o.request.phase l o.request) (facts_named o.request)

  spans_same : (was now : ℕ → Open → Option Event) (s : Span) → ((k : ℕ) (o : Open) → was k o ≡ None → now k o ≡ None) → Spans was old.requests s → Spans now new.requests s
  spans_same was now s same spans = keep was now old.requests new.requests s s spans (subst (λ (os : List Open). s.to ≤ length os) (sym requests) spans.within) (λ k is. is)
      (λ k o there out. (ap (λ (os : List Open). slice_get os k) (sym requests) ∙ there, same k o))

  landing_named : (s : Span) → Spans (landing_at old) old.requests s → Spans (landing_at new) new.requests s
  landing_named s = spans_same (landing_at old) (landing_at new) s (λ k o none. ap (option_map (event.Land k)) (ap outcome_next (next_named o) ∙ named_unread o.request (facts_of old o.request) (has_names new (mode_of new o.request.ask) o.request) o.request.phase) ∙ none)

  admission_named : (s : Span) → Spans (admission_at old) old.requests s → Spans (admission_at new) new.requests s
  admission_named s = spans_same (admission_at old) (admission_at new) s (λ k o none. none_chosen (event.Admit k) (event.Admit k) (is_admit (next_for old o)) (is_admit (next_for new o))
      (ap is_admit (next_named o) ∙ named_unread_admit o.request (facts_of old o.request) (has_names new (mode_of new o.request.ask) o.request) o.request.phase) none)

  pinning_named : new.cache.entries ≡ old.cache.entries → (s : Span) → Spans (pinning_at old) old.requests s → Spans (pinning_at new) new.requests s
  pinning_named entries s = spans_same (pinning_at old) (pinning_at new) s (λ k o none. none_chosen (event.Pin k) (event.Pin k) (is_pin (next_for old o) && can_pin old.cache o.request.ask) (is_pin (next_for new o) && can_pin new.cache o.request.ask)
      (ap (λ (b : Bool). b && can_pin new.cache o.request.ask) (ap is_pin (next_named o) ∙ named_unread_pin o.request (facts_of old o.request) (has_names new (mode_of new o.request.ask) o.request) o.request.phase)
      ∙ ap (λ (es : List CacheEntry). is_pin (next_for old o) && can_pin (record old.cache { entries = es }) o.request.ask) entries) none)

  -- ---- and less is named

  module _ (fewer : (disk lv group : ℕ) → is_named new.cache disk lv group ≡ true → is_named old.cache disk lv group ≡ true) where
    names_fewer : (m : Mode) (r : Request) → has_names new m r ≡ true → has_names old m r ≡ true
    names_fewer mode.Active r is = all_more (λ (t : Target). is_named old.cache t.pp.disk (lv_of r.ask) (group_of r.ask)) (λ (t : Target). is_named new.cache t.pp.disk (lv_of r.ask) (group_of r.ask)) r.targets.items
        (λ t named. fewer t.pp.disk (lv_of r.ask) (group_of r.ask) named) is
    names_fewer mode.Passive r is = refl
    names_fewer mode.Off r is = refl

    same_mode : (r : Request) → mode_of new r.ask ≡ mode_of old r.ask
    same_mode r = ap (λ (d : Descriptor). mode_of (record old { descriptor = d }) r.ask) reads.descriptor

    data_named : (s : Span) → Spans (data_at old) old.requests s → Spans (data_at new) new.requests s
    data_named s = spans_same (data_at old) (data_at new) s (λ k o none. none_mapped (event.StartData k) (event.StartData k) (target_next (next_for old o)) (target_next (next_for new o))
        (λ is. ap target_next (next_named o) ∙ named_falls o.request (facts_of old o.request) (has_names new (mode_of new o.request.ask) o.request) o.request.phase
        (λ named. names_fewer (mode_of old o.request.ask) o.request (ap (λ (m : Mode). has_names new m o.request) (sym (same_mode o.request)) ∙ named)) is) none)

-- ---- the start of a note

module _ (cache : Cached) (disk : ℕ) (none : flight_on cache disk ≡ None) where
  on_other : (other : ℕ) → (disk == other) ≡ false → notes_on (after_start cache disk) other ≡ notes_on cache other
  on_other other apart = find-with_other (is_of_disk other) (is_of_disk disk) (started cache.entries) cache.notes (λ n on. let it = not_there n on in (it, it))
    where
      not_there : (n : DiskNotes) → is_of_disk disk n ≡ true → is_of_disk other n ≡ false
      not_there n on = ap (λ (d : ℕ). d == other) (eqb-true n.disk disk on) ∙ apart

  on_same : notes_on (after_start cache disk) disk ≡ option_map (started cache.entries) (notes_on cache disk)
  on_same = find-with (is_of_disk disk) (started cache.entries) cache.notes (λ n on. on)

  fewer_in : (o : Option DiskNotes) (lv group : ℕ) → option_and_then (λ (n : DiskNotes). n.flight) o ≡ None → option_map_or (both_name lv group) (option_map (started cache.entries) o) false ≡ true → option_map_or (both_name lv group) o false ≡ true
  fewer_in None lv group flies is = is
  fewer_in (Some n) lv group flies is =
      and_from (names_group n.written.items lv group) (option_map_or (λ (note : ArrayVec NoteEntry). names_group note.items lv group) n.flight true)
      (and_parts (names_group n.written.items lv group) (names_group (note_of cache.entries) lv group) is).0
      (ap (λ (flight : Option (ArrayVec NoteEntry)). option_map_or (λ (note : ArrayVec NoteEntry). names_group note.items lv group) flight true) flies)

  pub start_names_fewer : (other lv group : ℕ) → is_named (after_start cache disk) other lv group ≡ true → is_named cache other lv group ≡ true
  start_names_fewer other lv group is = by (disk == other) refl
    where
      by : (b : Bool) → (disk == other) ≡ b → is_named cache other lv group ≡ true
      by true same = subst (λ (d : ℕ). is_named cache d lv group ≡ true) its (fewer_in (notes_on cache disk) lv group none (sym (ap (λ (o : Option DiskNotes). option_map_or (both_name lv group) o false) on_same) ∙ subst (λ (d : ℕ). is_named (after_start cache disk) d lv group ≡ true) (sym its) is))
        where
          its : disk ≡ other
          its = eqb-true disk other same
      by false apart = sym (ap (λ (o : Option DiskNotes). option_map_or (both_name lv group) o false) (on_other other apart)) ∙ is

  -- no note may be started there now, and on another disk only where it might be
  pub start_lacks_fewer : (missing : Bool) (other lv group : ℕ) → (not missing && is_none (flight_on (after_start cache disk) other) && not (is_named (after_start cache disk) other lv group)) ≡ true
      → (not missing && is_none (flight_on cache other) && not (is_named cache other lv group)) ≡ true
  start_lacks_fewer missing other lv group is = by (disk == other) refl
    where
      lacks : Option DiskNotes → Bool
      lacks = λ (o : Option DiskNotes). not missing && is_none (option_and_then (λ (n : DiskNotes). n.flight) o) && not (option_map_or (both_name lv group) o false)

      here : (o : Option DiskNotes) → lacks (option_map (started cache.entries) o) ≡ true → lacks o ≡ true
      here None it = it
      here (Some n) it = absurd (let flies = (and_parts (not missing) false (and_parts (not missing && false) (not (both_name lv group (started cache.entries n))) it).0).1 in cc flies)

      by : (b : Bool) → (disk == other) ≡ b → lacks (notes_on cache other) ≡ true
      by true same = subst (λ (d : ℕ). lacks (notes_on cache d) ≡ true) its (here (notes_on cache disk) (sym (ap lacks on_same) ∙ subst (λ (d : ℕ). lacks (notes_on (after_start cache disk) d) ≡ true) (sym its) is))
        where
          its : disk ≡ other
          its = eqb-true disk other same
      by false apart = sym (ap lacks (on_other other apart)) ∙ is

-- where a note is due, none is in flight there
due_flies_not : (core : Core) (o : Open) (disk : ℕ) → note_due core o ≡ Some disk → flight_on core.cache disk ≡ None
due_flies_not core o disk due = by (wants_record o.request.phase && o.request.pinned) (find (is_unnamed core o.request.ask) o.request.targets.items) refl due
  where
    no_flight : (m : Option (ArrayVec NoteEntry)) → is_none m ≡ true → m ≡ None
    no_flight None is = refl
    no_flight (Some n) is = absurd (cc is)

    by : (b : Bool) (m : Option Target) → find (is_unnamed core o.request.ask) o.request.targets.items ≡ m → (if b then option_map (λ (t : Target). t.pp.disk) m else None) ≡ Some disk → flight_on core.cache disk ≡ None
    by false m found is = absurd (cc is)
    by true None found is = absurd (cc is)
    by true (Some t) found is =
        let its : t.pp.disk ≡ disk = cc is in
        let lacks = find_passes (is_unnamed core o.request.ask) o.request.targets.items t found in
        let parts = and_parts (not (is_missing core t.pp.disk) && is_none (flight_on core.cache t.pp.disk)) (not (is_named core.cache t.pp.disk (lv_of o.request.ask) (group_of o.request.ask))) lacks in
        subst (λ (d : ℕ). flight_on core.cache d ≡ None) its (no_flight (flight_on core.cache t.pp.disk) (and_parts (not (is_missing core t.pp.disk)) (is_none (flight_on core.cache t.pp.disk)) parts.0).1)

pub note_starts_due : (old new : State) (place disk : ℕ) (due : Due) → StartsNote old new place disk → IsDue old.core due → IsDue new.core due
note_starts_due old new place disk due starts was = record {
  unfailing = λ is. none_read old.core new.core reads new.core.requests ∙ ap (list_any (is_failing old.core)) requests ∙ was.unfailing is;
  landing = landing_named old.core new.core reads requests queue due.landing was.landing;
  admission = admission_named old.core new.core reads requests queue due.admission was.admission;
  pinning = pinning_named old.core new.core reads requests queue (ap (λ (c : Core). c.cache.entries) core_is) due.pinning was.pinning;
  note = spans_same old.core new.core reads requests queue (note_at old.core) (note_at new.core) due.note (λ k o none. none_mapped (event.StartNote k) (event.StartNote k) (note_due old.core o) (note_due new.core o) (notes o) none) was.note;
  «data» = data_named old.core new.core reads requests queue (λ other lv group named. start_names_fewer old.core.cache disk flies_not other lv group (subst (λ (c : Cached). is_named c other lv group ≡ true) cache_is named)) due.data was.data;
}
  where
    core_is : new.core ≡ record (with_flight old.core starts.flight (owner.Note disk)) { pool = new.core.pool; cache = after_start old.core.cache disk }
    core_is = ap (λ (s : State). s.core) starts.is

    cache_is : new.core.cache ≡ after_start old.core.cache disk
    cache_is = ap (λ (c : Core). c.cache) core_is

    reads : ReadsSame old.core new.core
    reads = record {
      descriptor = ap (λ (c : Core). c.descriptor) core_is;
      committed = ap (λ (c : Core). c.status.committed) core_is;
      wanted = ap (λ (c : Core). c.status.wanted) core_is;
      in_flight = ap (λ (c : Core). c.status.in_flight) core_is;
      copy = ap (λ (c : Core). c.copy) core_is;
    }

    requests : new.core.requests ≡ old.core.requests
    requests = ap (λ (c : Core). c.requests) core_is

    queue : new.core.queue.rows ≡ old.core.queue.rows
    queue = ap (λ (c : Core). c.queue.rows) core_is

    flies_not : flight_on old.core.cache disk ≡ None
    flies_not = due_flies_not old.core starts.request disk starts.due

    lacks_fewer : (ask : Ask) (t : Target) → is_unnamed new.core ask t ≡ true → is_unnamed old.core ask t ≡ true
    lacks_fewer ask t is = start_lacks_fewer old.core.cache disk flies_not (is_missing old.core t.pp.disk) t.pp.disk (lv_of ask) (group_of ask)
        (sym (ap (λ (c : Core). is_unnamed c ask t) core_is) ∙ is)

    notes : (o : Open) → note_due old.core o ≡ None → note_due new.core o ≡ None
    notes o = by (wants_record o.request.phase && o.request.pinned)
      where
        unmapped : (m : Option Target) → option_map (λ (t : Target). t.pp.disk) m ≡ None → m ≡ None
        unmapped None is = refl
        unmapped (Some t) is = absurd (cc is)

        by : (b : Bool) → (if b then option_map (λ (t : Target). t.pp.disk) (find (is_unnamed old.core o.request.ask) o.request.targets.items) else None) ≡ None → (if b then option_map (λ (t : Target). t.pp.disk) (find (is_unnamed new.core o.request.ask) o.request.targets.items) else None) ≡ None
        by true is = ap (option_map (λ (t : Target). t.pp.disk)) (find_fewer (is_unnamed old.core o.request.ask) (is_unnamed new.core o.request.ask) o.request.targets.items (lacks_fewer o.request.ask) (unmapped (find (is_unnamed old.core o.request.ask) o.request.targets.items) is))
        by false is = refl

-- ---- and its end

pub note_ends_due : (old new : Core) (at disk : ℕ) (buf : Buffer) (due : Due) (all : Span) → all.from ≡ 0 → all.to ≡ length new.requests → NoteLearns old at disk true buf new → IsDue old due → IsDue new (record due { note = all; «data» = all })
note_ends_due old new at disk buf due all from to learns was = record {
  unfailing = λ is. none_read old new reads new.requests ∙ ap (list_any (is_failing old)) requests ∙ was.unfailing is;
  landing = landing_named old new reads requests queue due.landing was.landing;
  admission = admission_named old new reads requests queue due.admission was.admission;
  pinning = pinning_named old new reads requests queue (ap (λ (c : Core). c.cache.entries) learns) due.pinning was.pinning;
  note = spans_all (length new.requests) (note_at new) new.requests refl all from to;
  «data» = spans_all (length new.requests) (data_at new) new.requests refl all from to;
}
  where
    reads : ReadsSame old new
    reads = record {
      descriptor = ap (λ (c : Core). c.descriptor) learns;
      committed = ap (λ (c : Core). c.status.committed) learns;
      wanted = ap (λ (c : Core). c.status.wanted) learns;
      in_flight = ap (λ (c : Core). c.status.in_flight) learns;
      copy = ap (λ (c : Core). c.copy) learns;
    }

    requests : new.requests ≡ old.requests
    requests = ap (λ (c : Core). c.requests) learns

    queue : new.queue.rows ≡ old.queue.rows
    queue = ap (λ (c : Core). c.queue.rows) learns
