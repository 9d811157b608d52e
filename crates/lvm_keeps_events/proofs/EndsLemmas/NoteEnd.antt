-- The write of a note has ended well.
use Rattle.std.proofs.Common.{◌≡◌, ◌≤◌, inl, inr, ◌==◌, ℕ, Bool, true, false, ◌&&◌, List, [], ◌∷◌, Option, Some, None, length, slice_get, refl, sym, ◌∙◌, ap, subst, arith}
use Rattle.std.specs.Prelude.{count_by, is_some, option_and_then, slice_index_or, slice_set}
use Rattle.std.specs.List.{list_all, remove, AllByRecursion}
use Rattle.std.specs.Option.{option_map, option_map_or}
use Rattle.std.proofs.lemmas.Bool.{eq-eqb, eqb-true, eqb-false, ne_eqb}
use Rattle.arrayvec.specs.ArrayVec.{ArrayVec}
use Rattle.lvm_num.specs.declared.descriptor.Mode.{Mode}
use Rattle.lvm_num.specs.declared.descriptor.Mode.TheVariants as mode
use Rattle.lvm_num.specs.declared.record.NoteEntry.{NoteEntry}
use Rattle.lvm_mwc.specs.declared.notes.DiskNotes.{DiskNotes}
use Rattle.lvm_mwc.specs.Cache.{Cached, after_end, ended, ended_as, flight_on, has_disk, is_named, notes_on}
use Rattle.lvm_mwc.specs.Entries.{pins_of}
use Rattle.lvm_mwc.specs.Notes.{is_of_disk}
use Rattle.lvm_mwc.specs.Runs.{NoteEnds}
use Rattle.lvm_mwc.proofs.FirstsLemmas.{find-with, find-with_other}
use Rattle.lvm_mwc.proofs.NotesLemmas.{named_after_all}
use Rattle.lvm_path.specs.declared.request.Phase.{Phase}
use Rattle.lvm_path.specs.declared.request.Phase.TheVariants as phase
use Rattle.lvm_path.specs.declared.request.Request.{Request}
use Rattle.lvm_path.specs.declared.target.Target.{Target}
use Rattle.lvm_path.specs.Asks.{lv_of}
use Rattle.lvm_num.specs.Buffer.{Buffer}
use Rattle.lvm_num.proofs.Booleans.{not_so}
use Rattle.lvm_num.proofs.Lists.{all_weaker, length_set}
use Rattle.lvm_disk.specs.Device.{Device, Flight, Media}
use Rattle.lvm_disk.specs.Steps.{EndsDone}
use Rattle.lvm_session.specs.declared.bringing.OpenCopy.{OpenCopy}
use Rattle.lvm_session.specs.declared.flown.Flown.{Flown}
use Rattle.lvm_session.specs.declared.flown.Owner.{Owner}
use Rattle.lvm_session.specs.declared.flown.Owner.TheVariants as owner
use Rattle.lvm_session.specs.declared.open.Open.{Open}
use Rattle.lvm_session.specs.declared.open.Power.TheVariants as power
use Rattle.lvm_session.specs.State.{Core, State, state}
use Rattle.lvm_session.specs.Judging.{group_of, has_names}
use Rattle.lvm_session.specs.Owners.{AreOwned, IsTransferOf, same_owner}
use Rattle.lvm_session.specs.Requests.{IsOpenOne, IsPinned, IsRecorded, has_record, mode_for}
use Rattle.lvm_session.specs.Sound.{IsCopy, IsFitting, IsGoing, IsOn, IsSound, IsTold, count_if, out_with, pins}
use Rattle.lvm_keeps.proofs.CausesLemmas.{copies_still, origin_still}
use Rattle.lvm_keeps.proofs.SoundLemmas.Fitting.{still_fits}
use Rattle.lvm_keeps.proofs.KeepsLemmas.NoteStart.{each_counted}
use Rattle.lvm_keeps.proofs.OwnersLemmas.Rows.{data_still, rows_by, status_still, step_still}
use Rattle.lvm_keeps.proofs.Small.{both}
use Rattle.lvm_keeps.proofs.RequestsLemmas.{if_on, shape_still, kind_still}
use Rattle.lvm_keeps.proofs.SoundLemmas.Whole.{sound_still, told_still}
use Rattle.lvm_keeps_events.specs.Ends.{NoteEndKeeps}
use Rattle.lvm_keeps_events.proofs.OwnersLemmas.Removal.{IsOut, as_many, given_back, none_left, others, rows_left, taken_out, tickets_left}

-- one that has its record with two targets or more holds its pin
pub pinned_by : (p : Phase) (r : Request) → has_record p ≡ true → IsPinned p r → 2 ≤ length r.targets.items → r.pinned ≡ true
pinned_by phase.Held r has its two = not_so has
pinned_by phase.WantEntry r has its two = not_so has
pinned_by phase.WantRecord r has its two = not_so has
pinned_by phase.Data r has (inl is) two = is
pinned_by phase.Data r has (inr few) two = absurd (omega (arith, few, two))
pinned_by phase.WantStatus r has (inl is) two = is
pinned_by phase.WantStatus r has (inr few) two = absurd (omega (arith, few, two))
pinned_by phase.Landed r has its two = not_so has

pub all_true : (t u : Target → Bool) → ((x : Target) → t x ≡ true → u x ≡ true) → (xs : List Target) → list_all t xs ≡ true → list_all u xs ≡ true
all_true t u on [] all = refl
all_true t u on (x ∷ xs) all = let parts = both (t x) (list_all t xs) all in ap (λ b. b && list_all u xs) (on x parts.0) ∙ all_true t u on xs parts.1

-- ---- the notes of its disk, and of the others

module _ (c : Cached) (disk : ℕ) (ok : Bool) where
  pub here : notes_on (after_end c disk ok) disk ≡ option_map (ended ok) (notes_on c disk)
  here = find-with (is_of_disk disk) (ended ok) c.notes same
    where
      same : (d : DiskNotes) → is_of_disk disk d ≡ true → is_of_disk disk (ended ok d) ≡ true
      same d e = by d.flight
        where
          by : (m : Option (ArrayVec NoteEntry)) → is_of_disk disk (option_map_or (λ (flight : ArrayVec NoteEntry). record d { written = record { items = ended_as ok d.written.items flight.items }; flight = None }) m d) ≡ true
          by None = e
          by (Some note) = e

  pub none_here : flight_on (after_end c disk ok) disk ≡ None
  none_here = ap (λ m. option_and_then (λ (d : DiskNotes). d.flight) m) here ∙ by (notes_on c disk)
    where
      over : (d : DiskNotes) → (ended ok d).flight ≡ None
      over d = of d.flight refl
        where
          of : (m : Option (ArrayVec NoteEntry)) → d.flight ≡ m → (option_map_or (λ (flight : ArrayVec NoteEntry). record d { written = record { items = ended_as ok d.written.items flight.items }; flight = None }) m d).flight ≡ None
          of None e = e
          of (Some note) e = refl

      by : (m : Option DiskNotes) → option_and_then (λ (d : DiskNotes). d.flight) (option_map (ended ok) m) ≡ None
      by None = refl
      by (Some d) = over d

  pub beside : (d : ℕ) → (d == disk) ≡ false → notes_on (after_end c disk ok) d ≡ notes_on c d
  beside d other = find-with_other (is_of_disk d) (is_of_disk disk) (ended ok) c.notes (λ n e. (apart n e, apart_ended n e))
    where
      apart : (n : DiskNotes) → (n.disk == disk) ≡ true → (n.disk == d) ≡ false
      apart n e = ne_eqb n.disk d (λ same. eqb-false d disk other (sym same ∙ eqb-true n.disk disk e))

      apart_ended : (n : DiskNotes) → (n.disk == disk) ≡ true → ((ended ok n).disk == d) ≡ false
      apart_ended n e = of n.flight
        where
          of : (m : Option (ArrayVec NoteEntry)) → ((option_map_or (λ (flight : ArrayVec NoteEntry). record n { written = record { items = ended_as ok n.written.items flight.items }; flight = None }) m n).disk == d) ≡ false
          of None = apart n e
          of (Some note) = apart n e

  pub flight_beside : (d : ℕ) → (d == disk) ≡ false → flight_on (after_end c disk ok) d ≡ flight_on c d
  flight_beside d other = ap (λ m. option_and_then (λ (n : DiskNotes). n.flight) m) (beside d other)

  pub same_disks : (d : ℕ) → has_disk (after_end c disk ok) d ≡ has_disk c d
  same_disks d = by (d == disk) refl
    where
      kept : (m : Option DiskNotes) → is_some (option_map (ended ok) m) ≡ is_some m
      kept None = refl
      kept (Some n) = refl

      by : (b : Bool) → (d == disk) ≡ b → has_disk (after_end c disk ok) d ≡ has_disk c d
      by true is = let same = eqb-true d disk is in ap (has_disk (after_end c disk ok)) same ∙ ap (λ m. is_some m) here ∙ kept (notes_on c disk) ∙ ap (has_disk c) (sym same)
      by false is = ap (λ m. is_some m) (beside d is)

module _ (s : State) (sound : IsSound s) (on : s.core.power ≡ power.On) (disk at : ℕ) (row : Flown) (there : slice_get s.core.flying at ≡ Some row) (own : row.owner ≡ owner.Note disk) (f : Flight) (f_there : slice_get s.device.flights at ≡ Some f)
    (buf : Buffer) (number : buf.number ≡ f.buf.number) (media : Option Media) where
  abbrev core : Core
  core = s.core

  abbrev pool : List Bool
  pool = slice_set core.pool buf.number false

  abbrev device : Device
  device = record s.device { media = media; flights = remove s.device.flights at }

  abbrev now : State
  now = state device (record core { flying = remove core.flying at; pool = pool; cache = after_end core.cache disk true })

  going : IsGoing core
  going = (sound.on on).going

  -- ---- the requests

  abbrev IsKept : Open → Type 0
  IsKept x = x.request.pinned ≡ true → 1 ≤ pins_of core.cache.entries (lv_of x.request.ask) (group_of x.request.ask)

  kept : AllByRecursion IsKept core.requests
  kept = all_weaker (λ (x : Open). x.request.pinned ≡ true → 1 ≤ count_by (pins (lv_of x.request.ask) (group_of x.request.ask)) core.requests) IsKept (λ x low e. let was = low e in let same = going.pinned (lv_of x.request.ask) (group_of x.request.ask) in omega (arith, was, same)) core.requests (each_counted core.requests)

  named_on : (x : Open) → IsKept x → (m : Mode) → IsRecorded m x.request.phase x.request → has_record x.request.phase ≡ true → 2 ≤ length x.request.targets.items → has_names core m x.request ≡ true → has_names now.core m x.request ≡ true
  named_on x keep mode.Active rec has two names = all_true (λ (t : Target). is_named core.cache t.pp.disk (lv_of x.request.ask) (group_of x.request.ask)) (λ (t : Target). is_named now.core.cache t.pp.disk (lv_of x.request.ask) (group_of x.request.ask))
      (λ t named. named_after_all core.cache (NoteEnds disk true ∷ []) t.pp.disk (lv_of x.request.ask) (group_of x.request.ask) (keep (pinned_by x.request.phase x.request has rec two), tt) named) x.request.targets.items names
  named_on x keep mode.Passive rec has two names = names
  named_on x keep mode.Off rec has two names = names

  one : (x : Open) → IsKept x → IsOpenOne core x → IsOpenOne now.core x
  one x keep it = record {
    laid = let l = it.laid in record { within = l.within; blocks = l.blocks; most = l.most; id = l.id };
    waits = λ w. let r = it.waits w in let b = r.ready in record {
      shape = shape_still core now.core refl (λ ask. refl) x r.shape;
      ready = record { free = b.free; recorded = b.recorded; wanted = b.wanted; named = λ has two. named_on x keep (mode_for core x.request.ask) b.recorded has two (b.named has two); dirty = b.dirty };
      judged = λ write. let j = r.judged write in record { uncaught = j.uncaught; due = j.due; missed = j.missed; all = j.all; place = j.place };
    };
    over = it.over;
    still = it.still;
  }

  both_on : (xs : List Open) → AllByRecursion IsKept xs → AllByRecursion (IsOpenOne core) xs → AllByRecursion (IsOpenOne now.core) xs
  both_on [] keep all = tt
  both_on (x ∷ xs) keep all = (one x keep.0 all.0, both_on xs keep.1 all.1)

  -- ---- the rest

  fitting : IsFitting now.core
  fitting = let was = sound.fitting in still_fits core now.core was refl was.entries (same_disks core.cache disk true) was.table (length_set core.pool buf.number false) was.room

  told : IsTold now.core
  told = told_still core now.core refl sound.told

  bring : (c : OpenCopy) → IsCopy core c → IsCopy now.core c
  bring c k = record { row = k.row; volume = k.volume; lp = k.lp; kind = kind_still core now.core c c.step c.tried c.end refl refl refl refl c.moves k.kind; cursor = k.cursor; faults = k.faults; place = k.place; room = k.room; free = k.free; hand = k.hand; tried = k.tried; source = k.source; under_way = k.under_way }

  -- ---- whose the others are

  other_own : (who : Owner) → same_owner who (owner.Note disk) ≡ false → same_owner who row.owner ≡ false
  other_own who other = ap (same_owner who) own ∙ other

  owned : AreOwned now.core
  owned (owner.Data id target) = as_many core going.owned at row there (owner.Data id target) (other_own (owner.Data id target) refl) ∙ going.owned (owner.Data id target)
  owned (owner.Status d) = as_many core going.owned at row there (owner.Status d) (other_own (owner.Status d) refl) ∙ going.owned (owner.Status d)
  owned owner.Copy = as_many core going.owned at row there owner.Copy (other_own owner.Copy refl) ∙ going.owned owner.Copy
  owned (owner.Note d) = by (d == disk) refl
    where
      by : (b : Bool) → (d == disk) ≡ b → count_by (λ (g : Flown). same_owner (owner.Note d) g.owner) (remove core.flying at) ≡ count_if (is_some (flight_on now.core.cache d))
      by false other = as_many core going.owned at row there (owner.Note d) (other_own (owner.Note d) other) ∙ going.owned (owner.Note d) ∙ ap (λ m. count_if (is_some m)) (sym (flight_beside core.cache disk true d other))
      by true is =
          ap (λ n. count_by (λ (g : Flown). same_owner (owner.Note n) g.owner) (remove core.flying at)) (eqb-true d disk is) ∙ ap (λ who. count_by (λ (g : Flown). same_owner who g.owner) (remove core.flying at)) (sym own) ∙ none_left core going.owned at row there
          ∙ sym (ap (λ n. count_if (is_some (flight_on now.core.cache n))) (eqb-true d disk is) ∙ ap (λ m. count_if (is_some m)) (none_here core.cache disk true))

  transfer_on : (who : Owner) (g : Flight) → same_owner row.owner who ≡ false → IsTransferOf core who g → IsTransferOf now.core who g
  transfer_on (owner.Data id target) g other of = data_still core now.core refl id target g of
  transfer_on (owner.Status d) g other of = status_still core now.core refl d g of
  transfer_on (owner.Note d) g other of = record { note = of.note; flies = flight_beside core.cache disk true d (apart (d == disk) refl) ∙ of.flies; disk_is = of.disk_is; first = of.first; count = of.count; write = of.write; carries = of.carries }
    where
      apart : (b : Bool) → (d == disk) ≡ b → b ≡ false
      apart false e = refl
      apart true e = not_so (sym (sym (ap (λ who. same_owner who (owner.Note d)) own) ∙ other) ∙ eq-eqb disk d (sym (eqb-true d disk e)))
  transfer_on owner.Copy g other of = (of.0, of.1, step_still core now.core refl of.0.step of.0 g of.2)

  out : (n : ℕ) → out_with device now.core n ≡ count_if (slice_index_or pool n false)
  out = given_back s sound on at f f_there buf number media now.core (λ n. refl)

  keeps_going : IsGoing now.core
  keeps_going = record {
    fitting = fitting;
    told = told;
    status = going.status;
    owned = owned;
    tickets = tickets_left core.flying at going.tickets;
    queue = going.queue;
    pinned = going.pinned;
    requests = both_on core.requests kept going.requests;
    copy = if_on (IsCopy core) (IsCopy now.core) bring core.copy going.copy;
    hands = λ n. let all = out n in omega (arith, all);
    behind = going.behind;
    reviewed = going.reviewed;
    fresh = going.fresh;
    clearings = going.clearings;
    numbers = going.numbers;
  }

  keeps_on : IsOn now
  keeps_on = let was = sound.on on in record {
    going = keeps_going;
    rows = rows_by core now.core (λ who. same_owner row.owner who ≡ false) transfer_on (remove core.flying at) (remove s.device.flights at) (others core going.owned at row there) (rows_left core core.flying s.device.flights at was.rows);
    caused = was.caused;
    chosen = was.chosen;
  }

  pub keeps : IsSound now
  keeps = sound_still s now refl refl sound on refl fitting told keeps_on out (copies_still s now refl core.copy sound.copy) (origin_still s now refl refl sound.origin)

pub note_end_keeps : NoteEndKeeps
note_end_keeps at disk old new sound on event =
    subst IsSound (sym (ap (λ (d : Device). state d new.core) done.new_is ∙ ap (λ (k : Core). state (record old.device { media = new.device.media; flights = new.device.flights }) k) event.learns
    ∙ ap (λ (fs : List Flight). state (record old.device { media = new.device.media; flights = fs }) made) out_so.left_is))
    (keeps old sound on disk at event.row event.returns.there event.own done.flight out_so.there event.buf done.rest.number new.device.media)
  where
    done : EndsDone old.device new.device event.row.ticket event.buf
    done = event.returns.ends

    out_so : IsOut old.core old.device.flights new.device.flights at event.row done.flight
    out_so = taken_out old.core old.core.flying old.device.flights new.device.flights at event.row done.flight (sound.on on).rows (sound.on on).going.tickets event.returns.there done.flights done.its

    made : Core
    made = record old.core { flying = remove old.core.flying at; pool = slice_set old.core.pool event.buf.number false; cache = after_end old.core.cache disk true }
