-- The start of a note, tied.
use Rattle.std.proofs.Common.{◌≡◌, inl, inr, ℕ, suc, ◌+◌, ◌<◌, Bool, true, false, ◌&&◌, ◌==◌, not, List, [], ◌∷◌, ◌++◌, Option, Some, None, refl, sym, ap, subst, ◌∙◌, arith, eqb-true}
use Rattle.std.specs.Prelude.{IsTrue, IsFalse, if◌then◌else◌, find, slice_get, is_none, is_some, option_and_then, length}
use Rattle.std.specs.Option.{option_map}
use Rattle.std.proofs.lemmas.Bool.{cases_eq, and_parts}
use Rattle.std.proofs.lemmas.List.{length-map}
use Rattle.std.proofs.lemmas.Bool.Decides.{nat_tests}
use Rattle.lvm_num.specs.declared.record.Kind.{Kind}
use Rattle.lvm_num.specs.declared.record.NoteEntry.{NoteEntry}
use Rattle.lvm_num.specs.declared.status.Status.{Status}
use Rattle.lvm_num.specs.Descriptor.{is_member}
use Rattle.lvm_num.specs.Note.{IsNote}
use Rattle.lvm_num.specs.Record.{Stamped, slot_start}
use Rattle.arrayvec.specs.ArrayVec.{ArrayVec}
use Rattle.lvm_vol.specs.Facts.{Fact}
use Rattle.lvm_disk.specs.Device.{Flight, Device, image_of}
use Rattle.lvm_disk.specs.Steps.{Starts}
use Rattle.lvm_disk.specs.Paths.{Started}
use Rattle.lvm_kept.specs.Contents.{contents_of}
use Rattle.lvm_kept.specs.Plans.{IsPlanned}
use Rattle.lvm_kept.specs.Torn.{RecordWrite, IsOtherOrRecord}
use Rattle.lvm_mwc.specs.declared.entries.CacheEntry.{CacheEntry}
use Rattle.lvm_mwc.specs.declared.notes.DiskNotes.{DiskNotes}
use Rattle.lvm_mwc.specs.Firsts.{with_first}
use Rattle.lvm_mwc.specs.Entries.{note_of}
use Rattle.lvm_mwc.specs.Notes.{is_of_disk, names_group}
use Rattle.lvm_mwc.specs.Cache.{notes_on, flight_on, is_named, started, after_start}
use Rattle.lvm_mwc.proofs.EntriesLemmas.Pins.{note-names}
use Rattle.lvm_path.specs.declared.request.Phase.{Phase}
use Rattle.lvm_path.specs.declared.target.Target.{Target}
use Rattle.lvm_path.specs.Asks.{lv_of}
use Rattle.lvm_session.specs.declared.open.Open.{Open}
use Rattle.lvm_session.specs.declared.flown.Flown.{Flown}
use Rattle.lvm_session.specs.declared.flown.Owner.{Owner}
use Rattle.lvm_session.specs.declared.flown.Owner.TheVariants as owner
use Rattle.lvm_session.specs.State.{Core, State, state, is_there}
use Rattle.lvm_session.specs.Judging.{is_missing, group_of, is_waiting, IsWithinVolume}
use Rattle.lvm_session.specs.Enabled.{wants_record, is_unnamed, note_due}
use Rattle.lvm_session.specs.Events.{with_flight, flown, StartsNote}
use Rattle.lvm_invariant.specs.State.{Groups, ModelState}
use Rattle.lvm_invariant.specs.StartNote.{StartsNote as NoteStarts}
use Rattle.lvm_invariant.specs.Events.{StartNote}
use Rattle.lvm_invariant.proofs.EventsLemmas.Each.{each_keeps}
use Rattle.lvm_even.specs.Members.{members_showing}
use Rattle.lvm_crash.specs.Session.{Describes}
use Rattle.lvm_crash.proofs.DeviceLemmas.{writes_at}
use Rattle.lvm_crash.proofs.RecordsLemmas.Quiet.{quiet_lasts, update_goes_on}
use Rattle.lvm_crash.specs.Owned.{UpdateSince, OnlyUpdateSince}
use Rattle.lvm_session.specs.Sound.{IsSound}
use Rattle.lvm_num.proofs.Lists.{all_at}
use Rattle.lvm_session.specs.Requests.{IsTarget}
use Rattle.lvm_tie.proofs.StateLemmas.{missing_seen, target_member}
use Rattle.lvm_tie.proofs.TiedLemmas.Orderly.{open_one, orderly_same, out_of, waiting_one}
use Rattle.lvm_tie.proofs.AmongLemmas.{not_true}
use Rattle.lvm_tie.specs.Out.{AreNotes, CarriesStep, CarryTheirs, MayUpdate}
use Rattle.lvm_tie.specs.Seen.{SeesNote, update_of, Sees}
use Rattle.lvm_tie.specs.Tied.{IsOrderly, IsTied, ShowsRecords, CommittedIsOne}
use Rattle.lvm_tie.specs.Records.{NoteStartTies}
use Rattle.lvm_tie.proofs.OutLemmas.Ties.{carry_more}

-- ---- the notes of a disk

notes_elsewhere : (ns : List DiskNotes) (disk d : ℕ) (es : List CacheEntry) → (d ≡ disk → ⊥) → find (is_of_disk d) (with_first (is_of_disk disk) (started es) ns) ≡ find (is_of_disk d) ns
notes_elsewhere [] disk d es ne = refl
notes_elsewhere (n ∷ ns) disk d es ne = by (is_of_disk disk n) refl (notes_elsewhere ns disk d es ne)
  where
    by : (b : Bool) → is_of_disk disk n ≡ b → find (is_of_disk d) (with_first (is_of_disk disk) (started es) ns) ≡ find (is_of_disk d) ns
        → find (is_of_disk d) (if b then started es n ∷ ns else n ∷ with_first (is_of_disk disk) (started es) ns) ≡ find (is_of_disk d) (n ∷ ns)
    by true test rest =
        let other : (n.disk == d) ≡ false = let e : n.disk ≡ disk = eqb-true n.disk disk test in grind (arith, nat_tests) in
        ap (λ b. if b then Some (started es n) else find (is_of_disk d) ns) other ∙ sym (ap (λ b. if b then Some n else find (is_of_disk d) ns) other)
    by false test rest = ap (λ x. if is_of_disk d n then Some n else x) rest

notes_here : (ns : List DiskNotes) (disk : ℕ) (es : List CacheEntry) → find (is_of_disk disk) (with_first (is_of_disk disk) (started es) ns) ≡ option_map (started es) (find (is_of_disk disk) ns)
notes_here [] disk es = refl
notes_here (n ∷ ns) disk es = by (is_of_disk disk n) refl (notes_here ns disk es)
  where
    by : (b : Bool) → is_of_disk disk n ≡ b → find (is_of_disk disk) (with_first (is_of_disk disk) (started es) ns) ≡ option_map (started es) (find (is_of_disk disk) ns)
        → find (is_of_disk disk) (if b then started es n ∷ ns else n ∷ with_first (is_of_disk disk) (started es) ns) ≡ option_map (started es) (if is_of_disk disk n then Some n else find (is_of_disk disk) ns)
    by true test rest = ap (λ b. if b then Some (started es n) else find (is_of_disk disk) ns) test ∙ sym (ap (λ b. option_map (started es) (if b then Some n else find (is_of_disk disk) ns)) test)
    by false test rest = ap (λ b. if b then Some n else find (is_of_disk disk) (with_first (is_of_disk disk) (started es) ns)) test ∙ rest ∙ sym (ap (λ b. option_map (started es) (if b then Some n else find (is_of_disk disk) ns)) test)

-- ---- what is due

found_target : (test : Target → Bool) (ts : List Target) (disk : ℕ) → option_map (λ (t : Target). t.pp.disk) (find test ts) ≡ Some disk → (k : ℕ) × (t : Target) × (slice_get ts k ≡ Some t) × (test t ≡ true) × (t.pp.disk ≡ disk)
found_target test [] disk is = absurd cc
found_target test (u ∷ us) disk is = by (test u) refl is (found_target test us disk)
  where
    by : (b : Bool) → test u ≡ b → option_map (λ (t : Target). t.pp.disk) (if b then Some u else find test us) ≡ Some disk
        → (option_map (λ (t : Target). t.pp.disk) (find test us) ≡ Some disk → (k : ℕ) × (t : Target) × (slice_get us k ≡ Some t) × (test t ≡ true) × (t.pp.disk ≡ disk))
        → (k : ℕ) × (t : Target) × (slice_get (u ∷ us) k ≡ Some t) × (test t ≡ true) × (t.pp.disk ≡ disk)
    by true its here rest = (0, u, refl, its, cc)
    by false its there rest = let r = rest there in (suc r.0, r.1, r.2, r.3, r.4)

due_target : (core : Core) (o : Open) (disk : ℕ) → note_due core o ≡ Some disk → (k : ℕ) × (t : Target) × (slice_get o.request.targets.items k ≡ Some t) × (is_unnamed core o.request.ask t ≡ true) × (t.pp.disk ≡ disk)
due_target core o disk due = by (wants_record o.request.phase && o.request.pinned) refl due
  where
    by : (b : Bool) → (wants_record o.request.phase && o.request.pinned) ≡ b → (if b then option_map (λ (t : Target). t.pp.disk) (find (is_unnamed core o.request.ask) o.request.targets.items) else None) ≡ Some disk
        → (k : ℕ) × (t : Target) × (slice_get o.request.targets.items k ≡ Some t) × (is_unnamed core o.request.ask t ≡ true) × (t.pp.disk ≡ disk)
    by true w is = found_target (is_unnamed core o.request.ask) o.request.targets.items disk is
    by false w is = absurd cc

-- ---- the start

-- a note goes outside the slots of statuses
pub note_planned : (device : Device) (w : RecordWrite) (u : Stamped Status) (f : Flight) → UpdateSince device w u → f.first ≡ 8 → f.count ≡ 1 → IsPlanned (IsOtherOrRecord w) f
note_planned device w u f since first count d at x brings =
    let is = writes_at f d at x brings in
    let high : at < f.first + f.count = is.high in
    let begin : slot_start w.kind 0 ≡ 64 = ap (λ (k : Kind). slot_start k 0) since.is_status in
    inl (omega arith)

since_note : (old new : Device) (f : Flight) (w : Option RecordWrite) (u : Option (Stamped Status)) → Starts old new f → f.first ≡ 8 → f.count ≡ 1 → OnlyUpdateSince old w u → OnlyUpdateSince new w u
since_note old new f None None starts first count since = tt
since_note old new f (Some w) (Some u) starts first count since = update_goes_on w u old new (Started f starts) (note_planned old w u f since first count) since
since_note old new f (Some w) None starts first count since = absurd since
since_note old new f None (Some u) starts first count since = absurd since

note_none : (n : Option Groups) → SeesNote n None → n ≡ None
note_none None sees = refl
note_none (Some n) sees = absurd sees

flight_none : (o : Option (ArrayVec NoteEntry)) → is_none o ≡ true → o ≡ None
flight_none None h = refl
flight_none (Some x) h = absurd cc

module _ (past : List Fact) (old new : State) (place disk : ℕ) (starts : StartsNote old new place disk) (tied : IsTied past old) (sound : IsSound new) where
  abbrev v : ModelState
  v = tied.view

  abbrev core : Core
  core = old.core

  abbrev f : Flight
  f = starts.flight

  abbrev row : Flown
  row = flown f.ticket f.disk (owner.Note disk)

  abbrev next : Core
  next = record (with_flight core f (owner.Note disk)) { pool = new.core.pool; cache = after_start core.cache disk }

  abbrev flying : ℕ → Option Groups
  flying d = if d == disk then Some v.cache else v.flying_note d

  abbrev w : ModelState
  w = record v { flying_note = flying }

  inside : IsWithinVolume core.descriptor starts.request.request.ask
  inside = (open_one old tied.write tied.orderly place starts.request starts.there).laid.within

  waiting : is_waiting starts.request ≡ true
  waiting = by (is_waiting starts.request) refl
    where
      by : (b : Bool) → is_waiting starts.request ≡ b → is_waiting starts.request ≡ true
      by true is = is
      by false is =
          let at = ((open_one old tied.write tied.orderly place starts.request starts.there).over is).phase_is in
          absurd (let e : None ≡ Some disk = sym (ap (λ (p : Phase). if wants_record p && starts.request.request.pinned then option_map (λ (t : Target). t.pp.disk) (find (is_unnamed core starts.request.request.ask) starts.request.request.targets.items) else None) at) ∙ starts.due in cc)

  -- the disk is a member, isn't missing, and no note is out there
  pub record IsDue : Type 0 where
    pub member : is_member core.descriptor disk ≡ true
    pub there : IsFalse (v.missing disk)
    pub none : flight_on core.cache disk ≡ None

  is_due : IsDue
  is_due =
      let due = due_target core starts.request disk starts.due in
      let t : Target = due.1 in
      let outer = and_parts (not (is_missing core t.pp.disk) && is_none (flight_on core.cache t.pp.disk)) (not (is_named core.cache t.pp.disk (lv_of starts.request.request.ask) (group_of starts.request.request.ask))) due.3 in
      let inner = and_parts (not (is_missing core t.pp.disk)) (is_none (flight_on core.cache t.pp.disk)) outer.0 in
      let its = all_at (IsTarget core starts.request.request.ask) starts.request.request.targets.items due.0 t (waiting_one old tied.write tied.orderly place starts.request starts.there waiting).shape.targets due.2 in
      let member : is_member core.descriptor t.pp.disk ≡ true = target_member past old tied starts.request.request.ask inside t its in
      let missing : v.missing t.pp.disk ≡ false = missing_seen past old tied t.pp.disk member ∙ not_true (is_missing core t.pp.disk) inner.0 in
      record { member = ap (is_member core.descriptor) (sym due.4) ∙ member; there = ap v.missing (sym due.4) ∙ missing; none = ap (flight_on core.cache) (sym due.4) ∙ flight_none (flight_on core.cache t.pp.disk) inner.1 }

  own : (d : ℕ) → (d ≡ disk) → flying d ≡ Some v.cache
  own d e = let test : (d == disk) ≡ true = grind (arith, nat_tests) in ap (λ b. if b then Some v.cache else v.flying_note d) test

  others : (d : ℕ) → (d ≡ disk → ⊥) → flying d ≡ v.flying_note d
  others d ne = let test : (d == disk) ≡ false = grind (arith, nat_tests) in ap (λ b. if b then Some v.cache else v.flying_note d) test

  may : NoteStarts v flying
  may = record {
    disk = disk;
    there = is_due.there;
    none = note_none (v.flying_note disk) (subst (SeesNote (v.flying_note disk)) is_due.none (tied.sees.notes.flying disk));
    each = λ d. elim (cases_eq d disk) [ inl e ↦ inr (e, own d e) | inr ne ↦ inl (others d ne) ];
  }

  -- the disk's notes
  pub record HasNotes : Type 0 where
    pub notes : DiskNotes
    pub was : notes_on core.cache disk ≡ Some notes
    pub is : notes_on next.cache disk ≡ Some (started core.cache.entries notes)

  has_notes : HasNotes
  has_notes = by (notes_on core.cache disk) refl (tied.orderly.sound.fitting.notes disk ∙ is_due.member)
    where
      by : (o : Option DiskNotes) → notes_on core.cache disk ≡ o → IsTrue (is_some o) → HasNotes
      by None is some = absurd cc
      by (Some n) is some = record { notes = n; was = is; is = notes_here core.cache.notes disk core.cache.entries ∙ ap (option_map (started core.cache.entries)) is }

  elsewhere : (d : ℕ) → (d ≡ disk → ⊥) → notes_on next.cache d ≡ notes_on core.cache d
  elsewhere d ne = notes_elsewhere core.cache.notes disk d core.cache.entries ne

  some_of : {X : Type 0} (a b : X) → Some a ≡ Some b → a ≡ b
  some_of a b e = cc

  sees : Sees past next w
  sees = record {
    queue = tied.sees.queue;
    facts = tied.sees.facts;
    status = tied.sees.status;
    notes = record {
      cache = tied.sees.notes.cache;
      home = λ d lv g n there is. elim (cases_eq d disk) [
        | inl e ↦ let its : n ≡ started core.cache.entries has_notes.notes = some_of n (started core.cache.entries has_notes.notes) (sym is ∙ ap (notes_on next.cache) e ∙ has_notes.is) in
            ap (λ k. v.home_note k lv g) e ∙ tied.sees.notes.home disk lv g has_notes.notes (subst (λ k. IsTrue (is_there core k)) e there) has_notes.was ∙ ap (λ (m : DiskNotes). names_group m.written.items lv g) (sym its)
        | inr ne ↦ tied.sees.notes.home d lv g n there (sym (elsewhere d ne) ∙ is)
      ];
      flying = λ d. elim (cases_eq d disk) [
        | inl e ↦ subst (λ k. SeesNote (flying k) (flight_on next.cache k)) (sym e)
            (subst (λ x. SeesNote x (flight_on next.cache disk)) (sym (own disk refl)) (subst (SeesNote (Some v.cache)) (sym (ap (λ (o : Option DiskNotes). option_and_then (λ (n : DiskNotes). n.flight) o) has_notes.is))
            (λ lv g. tied.sees.notes.cache lv g ∙ sym (note-names core.cache.entries lv g))))
        | inr ne ↦ subst (λ x. SeesNote x (flight_on next.cache d)) (sym (others d ne)) (subst (SeesNote (v.flying_note d)) (sym (ap (λ (o : Option DiskNotes). option_and_then (λ (n : DiskNotes). n.flight) o) (elsewhere d ne))) (tied.sees.notes.flying d))
      ];
    };
    open_copy = tied.sees.open_copy;
    step_write = tied.sees.step_write;
    beside = tied.sees.beside;
  }

  carries : (g : Flight) (who : Owner) → CarriesStep core v g who → CarriesStep next w g who
  carries g (owner.Data id n) its = tt
  carries g (owner.Status d) its = tt
  carries g (owner.Note d) its = tt
  carries g owner.Copy its = its

  -- the note fits its sector
  notes_fit : AreNotes next
  notes_fit d items flies = elim (cases_eq d disk) [
    | inl e ↦
        let own : flight_on next.cache d ≡ Some (record { items = note_of core.cache.entries }) = ap (flight_on next.cache) e ∙ ap (λ (o : Option DiskNotes). option_and_then (λ (n : DiskNotes). n.flight) o) has_notes.is in
        let same : record { items = note_of core.cache.entries } ≡ items = some_of (record { items = note_of core.cache.entries }) items (sym own ∙ flies) in
        subst (λ (x : ArrayVec NoteEntry). IsNote (record { stamp = core.status.stamp.epoch; entries = x.items })) same (record {
          stamp = tied.recorded.next.epoch;
          count = let n : length (note_of core.cache.entries) ≡ length core.cache.entries = length-map core.cache.entries (λ (e : CacheEntry). let named : NoteEntry = record { lv = e.lv; group = e.group } in named) in let most = tied.orderly.sound.fitting.entries.most in omega (arith, n, most);
          entries = tied.orderly.sound.fitting.entries.counting;
        })
    | inr ne ↦ tied.notes d items (sym (ap (λ (o : Option DiskNotes). option_and_then (λ (n : DiskNotes). n.flight) o) (elsewhere d ne)) ∙ flies)
  ]

  orderly_now : IsOrderly new tied.write
  orderly_now = orderly_same old new tied.write tied.orderly sound (ap (λ (s : State). s.core.power) starts.is) (ap (λ (s : State). s.core.status) starts.is) (ap (λ (s : State). s.core.homes) starts.is)

  sizes_is : new.device.sizes ≡ old.device.sizes
  sizes_is = ap (λ (d : Device). d.sizes) starts.launches.starts.new_is

  pub note_tied : IsTied past new
  note_tied = subst (IsTied past) (sym starts.is) (let its : IsTied past (state new.device next) = record {
    votes = tied.votes;
    media = tied.media;
    setting = record {
      are_votes = tied.setting.are_votes;
      told = ap (λ (d : Device). d.media) starts.launches.starts.new_is ∙ tied.setting.told;
      own = tied.setting.own;
    };
    view = w;
    sees = sees;
    good = each_keeps tied.votes (StartNote flying) v w (may, refl) tied.good;
    describes = subst (λ (sizes : List ℕ). Describes w w.facts core.descriptor (update_of core.status) (contents_of (image_of sizes tied.media))) (sym sizes_is)
        (quiet_lasts tied.votes (StartNote flying) v w core.descriptor (update_of core.status) (contents_of (image_of old.device.sizes tied.media)) (may, refl) tied.good tt tied.describes refl refl refl);
    write = tied.write;
    since = since_note old.device new.device f tied.write (update_of core.status) starts.launches.starts starts.writes.first starts.writes.count tied.since;
    recorded = record {
      next = subst (λ (sizes : List ℕ). MayUpdate core.descriptor core.status core.homes (image_of sizes tied.media)) (sym sizes_is) tied.recorded.next;
      members = λ d member first. subst (λ (sizes : List ℕ). IsTrue (members_showing (contents_of (image_of sizes tied.media)) core.descriptor d)) (sym sizes_is) (tied.recorded.members d member first);
      records = subst (λ (sizes : List ℕ). ShowsRecords core.descriptor core.status (contents_of (image_of sizes tied.media))) (sym sizes_is) tied.recorded.records;
      committed = subst (λ (sizes : List ℕ). CommittedIsOne tied.view.committed.stamp core.descriptor core.status (contents_of (image_of sizes tied.media))) (sym sizes_is) tied.recorded.committed;
    };
    orderly = subst (λ (x : State). IsOrderly x tied.write) starts.is orderly_now;
    copy_aimed = tied.copy_aimed;
    carry = subst (λ (fs : List Flight). CarryTheirs next w fs (core.flying ++ row ∷ [])) (sym (ap (λ (d : Device). d.flights) starts.launches.starts.new_is))
        (carry_more core next v w old.device.flights core.flying tied.write f row (out_of old tied.write tied.orderly tied.notes) carries tt tied.carry);
    notes = notes_fit;
  } in its)

pub note_start_ties : NoteStartTies
note_start_ties place disk past old new tied sound starts = note_tied past old new place disk starts tied sound
