-- The ends of writes of notes and of the status leave less work.
use Rattle.std.proofs.Common.{◌≡◌, ◌==◌, ◌≤◌, ◌<◌, ◌+◌, ◌*◌, ℕ, Bool, true, false, ◌&&◌, not, if◌then◌else◌, List, [], ◌∷◌, Option, Some, None, length, slice_get, refl, sym, ◌∙◌, ap, subst, arith}
use Rattle.std.specs.Prelude.{count_by, option_and_then, slice_set, sum_by}
use Rattle.std.specs.List.{remove, AllByRecursion}
use Rattle.std.specs.Option.{option_map, option_map_or}
use Rattle.std.proofs.lemmas.Bool.{eqb-true}
use Rattle.std.proofs.lemmas.List.Sums.{sum_by-cons}
use Rattle.arrayvec.specs.ArrayVec.{ArrayVec}
use Rattle.lvm_num.specs.Buffer.{Buffer}
use Rattle.lvm_num.specs.declared.descriptor.PvRow.{PvRow}
use Rattle.lvm_num.specs.declared.record.NoteEntry.{NoteEntry}
use Rattle.lvm_num.specs.Disks.{has}
use Rattle.lvm_num.specs.Status.{calls_missing}
use Rattle.lvm_num.proofs.Booleans.{not_so}
use Rattle.lvm_num.proofs.Lists.{all_weaker}
use Rattle.lvm_mwc.specs.declared.notes.DiskNotes.{DiskNotes}
use Rattle.lvm_mwc.proofs.NotesLemmas.{named_after_all}
use Rattle.lvm_mwc.specs.Notes.{both_name, names_group}
use Rattle.lvm_mwc.specs.Runs.{NoteEnds}
use Rattle.lvm_mwc.specs.Cache.{after_end, ended, ended_as, flight_names, is_named, notes_on}
use Rattle.lvm_mwc.specs.Entries.{pins_of}
use Rattle.lvm_status.specs.Update.{Stored}
use Rattle.lvm_path.specs.declared.request.Request.{Request}
use Rattle.lvm_path.specs.declared.target.Target.{Target}
use Rattle.lvm_path.specs.Asks.{is_write, lv_of}
use Rattle.lvm_path.specs.Targets.{is_begun}
use Rattle.lvm_session.specs.declared.flown.Flown.{Flown}
use Rattle.lvm_session.specs.declared.flown.Owner.TheVariants as owner
use Rattle.lvm_session.specs.declared.open.Power.TheVariants as power
use Rattle.lvm_session.specs.declared.open.Open.{Open}
use Rattle.lvm_session.specs.State.{Core, is_there}
use Rattle.lvm_session.specs.Judging.{copies_for, group_of, is_changed, is_missing, is_waiting, destinations_for}
use Rattle.lvm_session.specs.Enabled.{is_lost}
use Rattle.lvm_session.specs.Ends.{LosesDisk}
use Rattle.lvm_session.specs.Marks.{Reviews}
use Rattle.lvm_session.specs.Left.{begun_left, copy_left, if_so, is_held, lacks_dirty, lacks_note, left_of, phase_left, destination_turns, read_left, request_left, status_left, turns_of, unbegun_left, update_work, work_left}
use Rattle.lvm_session.specs.Owners.{flies}
use Rattle.lvm_session.specs.Sound.{IsGoing, pins}
use Rattle.lvm_keeps.proofs.KeepsLemmas.NoteStart.{each_counted}
use Rattle.lvm_keeps.proofs.Small.{both, is_false}
use Rattle.lvm_keeps_events.proofs.EndsLemmas.NoteEnd.{beside, flight_beside, here}
use Rattle.lvm_keeps_events.proofs.OwnersLemmas.Removal.{was_out}
use Rattle.lvm_keeps_events.specs.StatusEnds.{NoteEndFalls, NoteFailFalls, StatusEndFalls}
use Rattle.lvm_keeps_events.proofs.SoundLemmas.Copies.{at_end, by_review, ends_so, goes_on, going_on}
use Rattle.lvm_keeps_events.proofs.LeftLemmas.FallsStatus.{falls, left_is, phase_less, request_by}
use Rattle.lvm_keeps_events.proofs.Finding.{length_taken}
use Rattle.lvm_keeps_events.proofs.StatusEndsLemmas.NoteFail.{note_follows}
use Rattle.lvm_keeps_events.proofs.JudgingLemmas.Review.{WriteEnd, and_of, mid}
use Rattle.lvm_keeps_events.proofs.StatusEndsLemmas.StatusEnd.{status_follows}

-- whatever the review makes of the copy
reviewed_falls : (e : WriteEnd) (new : Core) → e.core.power ≡ power.On → Reviews (mid e) new → ((d : ℕ) → is_missing (mid e) d ≡ false → notes_on (mid e).cache d ≡ notes_on e.core.cache d) → length e.flying + 1 ≡ length e.core.flying → left_of new < left_of e.core
reviewed_falls e new on reviews noted shorter = by_review e new reviews (λ (k : Core). left_of k < left_of e.core)
    (λ still. falls e (going_on e new.status reviews.marks still) (goes_on e new.status reviews.marks still) noted shorter on)
    (λ c is how ends at queue its. falls e (at_end e new.status reviews.marks c is how ends at queue its) (ends_so e new.status reviews.marks c is how ends at queue its) noted shorter on)

pub note_fail_falls : NoteFailFalls
note_fail_falls at disk old new sound on event =
    reviewed_falls (record { core = old.core; going = going; disk = disk; next = next; follows = note_follows old.core going disk next flew loses; flying = remove old.core.flying at; pool = slice_set old.core.pool event.buf.number false; notes = (after_end old.core.cache disk false).notes; homes = old.core.homes })
    new.core on event.learns.2 noted (length_taken old.core.flying at event.row event.returns.there)
  where
    next : Stored
    next = event.learns.0

    loses : LosesDisk disk old.core.status next
    loses = event.learns.1

    going : IsGoing old.core
    going = (sound.on on).going

    flew : flies old.core (owner.Note disk) ≡ true
    flew = sym (ap (flies old.core) event.own) ∙ was_out old.core going.owned at event.row event.returns.there

    noted : (d : ℕ) → calls_missing next.wanted d ≡ false → notes_on (after_end old.core.cache disk false) d ≡ notes_on old.core.cache d
    noted d there = beside old.core.cache disk false d (other (d == disk) (sym (loses.wants.missing d) ∙ there))
      where
        other : (b : Bool) → (if b then true else is_missing old.core d) ≡ false → b ≡ false
        other false is = refl
        other true is = not_so (sym is)

pub status_end_falls : StatusEndFalls
status_end_falls at disk ok old new sound on event =
    reviewed_falls (record { core = old.core; going = going; disk = disk; next = event.learns.status; follows = status_follows old.core going disk event.learns.status flew ok event.learns.wants event.learns.ended; flying = remove old.core.flying at; pool = slice_set old.core.pool event.buf.number false; notes = old.core.cache.notes; homes = event.learns.homes })
    new.core on event.learns.reviews (λ d there. refl) (length_taken old.core.flying at event.row event.returns.there)
  where
    going : IsGoing old.core
    going = (sound.on on).going

    flew : has old.core.status.writes.started disk ≡ true
    flew = sym (ap (flies old.core) event.own) ∙ was_out old.core going.owned at event.row event.returns.there

-- ---- a note that has ended well

module _ (core : Core) (going : IsGoing core) (disk at : ℕ) (row : Flown) (there : slice_get core.flying at ≡ Some row) (buf : Buffer) where
  abbrev after : Core
  after = record core { flying = remove core.flying at; pool = slice_set core.pool buf.number false; cache = after_end core.cache disk true }

  -- what the note in flight named is named now
  named_by : (lv group : ℕ) → flight_names core.cache disk lv group ≡ true → is_named (after_end core.cache disk true) disk lv group ≡ true
  named_by lv group names = ap (λ m. option_map_or (both_name lv group) m false) (here core.cache disk true) ∙ by (notes_on core.cache disk) names
    where
      of : (n : DiskNotes) (m : Option (ArrayVec NoteEntry)) → option_map_or (λ (note : ArrayVec NoteEntry). names_group note.items lv group) m false ≡ true
          → both_name lv group (option_map_or (λ (flight : ArrayVec NoteEntry). record n { written = record { items = ended_as true n.written.items flight.items }; flight = None }) m n) ≡ true
      of n None is = not_so is
      of n (Some note) is = named is
        where
          and_true : (b : Bool) → b ≡ true → b && true ≡ true
          and_true true i = refl
          and_true false i = not_so i

          named : names_group note.items lv group ≡ true → both_name lv group (record n { written = record { items = note.items }; flight = None }) ≡ true
          named i = and_true (names_group note.items lv group) i

      by : (m : Option DiskNotes) → option_map_or (λ (note : ArrayVec NoteEntry). names_group note.items lv group) (option_and_then (λ (n : DiskNotes). n.flight) m) false ≡ true → option_map_or (both_name lv group) (option_map (ended true) m) false ≡ true
      by None is = not_so is
      by (Some n) is = of n n.flight is

  lacks_by : (r : Request) (keep : r.pinned ≡ true → 1 ≤ pins_of core.cache.entries (lv_of r.ask) (group_of r.ask)) (t : Target) → lacks_note after r t ≡ true → lacks_note core r t ≡ true
  lacks_by r keep t is = by (is_named core.cache t.pp.disk (lv_of r.ask) (group_of r.ask)) (flight_names core.cache t.pp.disk (lv_of r.ask) (group_of r.ask)) refl refl
    where
      a : (r.pinned && not (is_missing core t.pp.disk) && not (is_named after.cache t.pp.disk (lv_of r.ask) (group_of r.ask)) ≡ true) × (not (flight_names after.cache t.pp.disk (lv_of r.ask) (group_of r.ask)) ≡ true)
      a = both (r.pinned && not (is_missing core t.pp.disk) && not (is_named after.cache t.pp.disk (lv_of r.ask) (group_of r.ask))) (not (flight_names after.cache t.pp.disk (lv_of r.ask) (group_of r.ask))) is

      b : (r.pinned && not (is_missing core t.pp.disk) ≡ true) × (not (is_named after.cache t.pp.disk (lv_of r.ask) (group_of r.ask)) ≡ true)
      b = both (r.pinned && not (is_missing core t.pp.disk)) (not (is_named after.cache t.pp.disk (lv_of r.ask) (group_of r.ask))) a.0

      unnamed : is_named after.cache t.pp.disk (lv_of r.ask) (group_of r.ask) ≡ false
      unnamed = is_false (is_named after.cache t.pp.disk (lv_of r.ask) (group_of r.ask)) b.1

      by : (n f : Bool) → is_named core.cache t.pp.disk (lv_of r.ask) (group_of r.ask) ≡ n → flight_names core.cache t.pp.disk (lv_of r.ask) (group_of r.ask) ≡ f → lacks_note core r t ≡ true
      by true f i j = not_so (sym unnamed ∙ named_after_all core.cache (NoteEnds disk true ∷ []) t.pp.disk (lv_of r.ask) (group_of r.ask) (keep (both r.pinned (not (is_missing core t.pp.disk)) b.0).0, tt) i)
      by false true i j = of_disk (t.pp.disk == disk) refl
        where
          of_disk : (s : Bool) → (t.pp.disk == disk) ≡ s → lacks_note core r t ≡ true
          of_disk true same = let d = eqb-true t.pp.disk disk same in
              not_so (sym unnamed ∙ ap (λ n. is_named (after_end core.cache disk true) n (lv_of r.ask) (group_of r.ask)) d ∙ named_by (lv_of r.ask) (group_of r.ask) (sym (ap (λ n. flight_names core.cache n (lv_of r.ask) (group_of r.ask)) d) ∙ j))
          of_disk false other = not_so (sym (is_false (flight_names after.cache t.pp.disk (lv_of r.ask) (group_of r.ask)) a.1)
              ∙ ap (λ m. option_map_or (λ (note : ArrayVec NoteEntry). names_group note.items (lv_of r.ask) (group_of r.ask)) m false) (flight_beside core.cache disk true t.pp.disk other) ∙ j)
      by false false i j = and_of (r.pinned && not (is_missing core t.pp.disk) && not (is_named core.cache t.pp.disk (lv_of r.ask) (group_of r.ask))) (not (flight_names core.cache t.pp.disk (lv_of r.ask) (group_of r.ask)))
          (and_of (r.pinned && not (is_missing core t.pp.disk)) (not (is_named core.cache t.pp.disk (lv_of r.ask) (group_of r.ask))) b.0 (ap not i)) (ap not j)

  unbegun_by : (r : Request) (keep : r.pinned ≡ true → 1 ≤ pins_of core.cache.entries (lv_of r.ask) (group_of r.ask)) → unbegun_left after r ≤ unbegun_left core r
  unbegun_by r keep = add (sum_by (turns_of core) (copies_for core r.ask)) (sum_by (destination_turns core) (destinations_for core r.ask)) (if_so (lacks_dirty core r.ask) update_work) (if_so (not (is_held r.phase) && is_changed core r) 12) (phase_left r.phase core r) (phase_left r.phase after r) (phase_less core after r (lacks_by r keep) r.phase)
    where
      add : (s y d c p q : ℕ) → q ≤ p → 256 + s + y + d + c + q ≤ 256 + s + y + d + c + p
      add s y d c p q l = omega (arith, l)

  abbrev IsKept : Open → Type 0
  IsKept x = x.request.pinned ≡ true → 1 ≤ pins_of core.cache.entries (lv_of x.request.ask) (group_of x.request.ask)

  kept : AllByRecursion IsKept core.requests
  kept = all_weaker (λ (x : Open). x.request.pinned ≡ true → 1 ≤ count_by (pins (lv_of x.request.ask) (group_of x.request.ask)) core.requests) IsKept
      (λ x low is. let was = low is in let same = going.pinned (lv_of x.request.ask) (group_of x.request.ask) in omega (arith, was, same)) core.requests (each_counted core.requests)

  requests_less : sum_by (request_left after) core.requests ≤ sum_by (request_left core) core.requests
  requests_less = over core.requests kept
    where
      over : (xs : List Open) → AllByRecursion IsKept xs → sum_by (request_left after) xs ≤ sum_by (request_left core) xs
      over [] all = omega arith
      over (x ∷ xs) all =
          let a = sum_by-cons (request_left after) x xs in
          let b = sum_by-cons (request_left core) x xs in
          let one = request_by (is_waiting x) (is_write x.request.ask) (is_begun x.request.targets.items) (unbegun_left after x.request) (unbegun_left core x.request) (begun_left x.request) (read_left x.request.phase x.request) (unbegun_by x.request all.0) in
          let rest = over xs all.1 in
          omega (arith, a, b, one, rest)

  note_falls : core.power ≡ power.On → left_of after < left_of core
  note_falls on = by (is_lost core) refl
    where
      short : length (remove core.flying at) + 1 ≡ length core.flying
      short = length_taken core.flying at row there

      less : (f g n s q p k : ℕ) → g + 1 ≡ f → p ≤ q → g + n + s + p + k < f + n + s + q + k
      less f g n s q p k i j = omega (arith, i, j)

      by : (b : Bool) → is_lost core ≡ b → left_of after < left_of core
      by true is = subst (λ n. n < left_of core) (sym (left_is after true on is)) (subst (λ n. length (remove core.flying at) + count_by is_waiting core.requests < n) (sym (left_is core true on is)) (let one = short in omega (arith, one)))
      by false is = subst (λ n. n < left_of core) (sym (left_is after false on is)) (subst (λ n. work_left after < n) (sym (left_is core false on is))
          (less (length core.flying) (length (remove core.flying at)) ((update_work + 1) * count_by (λ (x : PvRow). is_there core x.disk) core.descriptor.pvs) (status_left core) (sum_by (request_left core) core.requests) (sum_by (request_left after) core.requests) (option_map_or (copy_left core) core.copy 0) short requests_less))

pub note_end_falls : NoteEndFalls
note_end_falls at disk old new sound on event =
    subst (λ (k : Core). left_of k < left_of old.core) (sym event.learns) (note_falls old.core (sound.on on).going disk at event.row event.returns.there event.buf on)
