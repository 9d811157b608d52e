-- What the end of a note's write leaves, whether its disk has room for records or not.
use Rattle.std.proofs.Common.{◌≡◌, ◌⊎◌, inl, inr, ⊎_elim, ℕ, ◌+◌, ◌-◌, ◌<◌, ◌≤◌, Bool, true, false, ◌&&◌, ◌==◌, List, Some, None, refl, sym, ap, subst, ◌∙◌, arith, eqb-true, Option, take}
use Rattle.std.specs.Prelude.{IsTrue, IsFalse, if◌then◌else◌, slice_get}
use Rattle.std.proofs.lemmas.Bool.{cases_eq}
use Rattle.std.proofs.lemmas.Bool.Decides.{nat_tests}
use Rattle.lvm_num.specs.declared.descriptor.Descriptor.{Descriptor}
use Rattle.lvm_num.specs.declared.status.Status.{Status}
use Rattle.lvm_num.specs.declared.record.Kind.{Kind}
use Rattle.lvm_num.specs.declared.record.Kind.TheVariants as kind
use Rattle.lvm_num.specs.Buffer.{Sector, IsSector}
use Rattle.lvm_num.specs.Geometry.{sector_of}
use Rattle.lvm_num.specs.Note.{Noted, note_in}
use Rattle.lvm_num.specs.Record.{Stamped, slot_start, stamp_lt}
use Rattle.lvm_num.specs.StatusBytes.{status_of}
use Rattle.lvm_num.specs.Torn.{stamp_of}
use Rattle.std.proofs.lemmas.Option.{same_Some}
use Rattle.lvm_disk.specs.Device.{Media, Image, Flight, Device, image_of}
use Rattle.lvm_disk.specs.Steps.{Removes}
use Rattle.lvm_kept.specs.Contents.{Contents, contents_of, has_records, status_on, note_on, note_sector}
use Rattle.lvm_kept.specs.Group.{names_if}
use Rattle.lvm_kept.proofs.PlacesLemmas.{note-same, blocks_are_sectors}
use Rattle.lvm_kept.proofs.TornLemmas.Records.{newest_stays, slot-above}
use Rattle.lvm_commit.specs.Committed.{next_stamp}
use Rattle.lvm_rec.proofs.SlotsLemmas.Next.{slot_for_same}
use Rattle.lvm_status.specs.Update.{Stored}
use Rattle.lvm_rec.specs.declared.homes.Homes.{Homes}
use Rattle.lvm_invariant.specs.State.{Groups, ModelState}
use Rattle.lvm_invariant.specs.Found.{Votes}
use Rattle.lvm_invariant.specs.Good.{Good}
use Rattle.lvm_invariant.specs.Events.{EndNote}
use Rattle.lvm_invariant.specs.EndNote.{EndsNote, after_note}
use Rattle.lvm_crash.specs.Session.{Describes, marks_shown}
use Rattle.lvm_even.specs.Members.{members_showing}
use Rattle.lvm_crash.specs.Left.{MayRemain}
use Rattle.lvm_crash.specs.Flights.{Matches}
use Rattle.lvm_crash.proofs.LawsLemmas.Images.{images_remain}
use Rattle.lvm_crash.proofs.LastingLemmas.Lasting.{description_lasts}
use Rattle.lvm_crash.proofs.LastingLemmas.Statuses.{statuses_last}
use Rattle.lvm_crash.specs.Owned.{IsNoteFlight}
use Rattle.lvm_crash.specs.Writing.{Lands}
use Rattle.lvm_crash.specs.Records.{home_after, flying_after, NoteEnded}
use Rattle.lvm_crash.proofs.DeviceLemmas.{writes_at}
use Rattle.lvm_crash.proofs.RecordsLemmas.Notes.{note_ends}
use Rattle.lvm_crash.proofs.RecordsLemmas.Records.{may_leave}
use Rattle.lvm_tie.specs.Out.{MayUpdate}

-- The write of a note has ended on a disk: what is home there is the note, unless the disk is missing, and elsewhere what it was.
pub record HasLanded (s : ModelState) (group : Descriptor) (in_flight : Option (Stamped Status)) (disk : ℕ) (note : Groups) (well : Bool) (now : Contents) : Type 0 where
  pub names : ℕ → Groups
  pub home : ℕ → Groups
  pub may : EndsNote s disk names home (flying_after s disk)
  pub describes : Describes (after_note s names home (flying_after s disk)) s.facts group in_flight now
  pub own : IsTrue well → IsFalse (s.missing disk) → home disk ≡ note
  pub others : (d : ℕ) → (d ≡ disk → ⊥) → home d ≡ s.home_note d

module _ (votes : Votes) (s : ModelState) (group : Descriptor) (in_flight : Option (Stamped Status)) (device : Device) (rest : List Flight) (m n : Media) (f : Flight) (well : Bool)
    (good : Good votes s) (matches : Matches s s.facts group in_flight device m) (removes : Removes f device.flights rest) (own : IsNoteFlight s f) (lands : Lands f well m n) where
  abbrev was : Image
  was = image_of device.sizes m

  abbrev is : Image
  is = image_of device.sizes n

  abbrev before : Contents
  before = contents_of was

  abbrev now : Contents
  now = contents_of is

  remain : MayRemain s group in_flight before now
  remain = images_remain s s.facts group in_flight device m is matches (may_leave device rest m n f matches.told removes lands.some)

  -- only the sector of the disk's note is written, with the note
  its_place : (d at : ℕ) → (n d at ≡ m d at) ⊎ ((f.disk ≡ d) × (at ≡ note_sector) × (n d at ≡ own.sector))
  its_place d at = ⊎_elim (λ same. inl same)
      (λ brings.
      let writes = writes_at f d at (n d at) brings in
      let first : f.first ≡ 8 = own.first in
      let count : f.count ≡ 1 = own.count in
      let low : f.first ≤ at = writes.low in
      let high : at < f.first + f.count = writes.high in
      let place : at ≡ note_sector = omega (arith, first, count, low, high) in
      let index : at - f.first ≡ 0 = omega (arith, first, place) in
      inr (writes.disk, place, same_Some (n d at) own.sector (sym writes.there ∙ ap (λ j. slice_get f.buf.sectors j) index ∙ own.carries)))
      (lands.some d at)

  same_at : (d at : ℕ) → (at ≡ note_sector → ⊥) → n d at ≡ m d at
  same_at d at not = ⊎_elim (λ same. same) (λ new. absurd (not new.1)) (its_place d at)

  same_elsewhere : (d at : ℕ) → (f.disk ≡ d → ⊥) → n d at ≡ m d at
  same_elsewhere d at not = ⊎_elim (λ same. same) (λ new. absurd (not new.0)) (its_place d at)

  in_slots : (kind : Kind) (d slot k : ℕ) → n d (slot_start kind slot + k) ≡ m d (slot_start kind slot + k)
  in_slots kind d slot k = same_at d (slot_start kind slot + k) (λ e. let above = slot-above kind slot k in omega (arith, above, e))

  -- ---- where its disk has no room for records

  module _ (no_room : has_records was f.disk ≡ false) (missing : IsTrue (s.missing f.disk)) where
    status_stays : (d : ℕ) → now.status d ≡ before.status d
    unfolding status_on
    status_stays d = newest_stays Status status_of kind.Status was is d (record {
      same = record { disks = refl; size = λ e. refl };
      each = λ e at. ⊎_elim (λ same. inl same) (λ new. inr (let place : at ≡ 8 = new.1 in inl (omega (arith, place)))) (its_place e at);
    })

    note_stays : (d : ℕ) → note_on is d ≡ note_on was d
    unfolding note_on
    note_stays d = elim (cases_eq f.disk d) [
      | inl e ↦ let none : has_records was d ≡ false = ap (has_records was) (sym e) ∙ no_room in ap (λ t. if t then note_in (n d note_sector) else None) none ∙ sym (ap (λ t. if t then note_in (m d note_sector) else None) none)
      | inr ne ↦ note-same was is d (record { disks = refl; size = λ e. refl }) (same_elsewhere d note_sector ne)
    ]

    flying_now : (e : ℕ) → (flying_after s f.disk e ≡ s.flying_note e) ⊎ ((e ≡ f.disk) × (flying_after s f.disk e ≡ None))
    flying_now e = by (e == f.disk) refl
      where
        by : (t : Bool) → (e == f.disk) ≡ t → (flying_after s f.disk e ≡ s.flying_note e) ⊎ ((e ≡ f.disk) × (flying_after s f.disk e ≡ None))
        by true test = inr (eqb-true e f.disk test, ap (λ t. if t then None else s.flying_note e) test)
        by false test = inl (ap (λ t. if t then None else s.flying_note e) test)

    may : EndsNote s f.disk s.media.names s.home_note (flying_after s f.disk)
    may = record { note = own.note; was = own.flies; names_now = λ e. inl refl; home_now = λ e there. inl (refl, refl); flying_now = flying_now }

    nothing_landed : HasLanded s group in_flight f.disk own.note well now
    nothing_landed = record {
      names = s.media.names;
      home = s.home_note;
      may = may;
      describes = description_lasts votes (EndNote f.disk s.media.names s.home_note (flying_after s f.disk)) s (after_note s s.media.names s.home_note (flying_after s f.disk)) group in_flight in_flight before now (may, refl) good tt matches.describes remain.kept (record {
        blocks = λ lv b p copy. matches.describes.shown.blocks lv b p copy ∙ blocks_are_sectors was group.mib b p ∙ sym (same_at p.disk (sector_of group.mib p.pp b) (λ e. let place : sector_of group.mib p.pp b ≡ 8 = e in omega (arith, place))) ∙ sym (blocks_are_sectors is group.mib b p);
        names = λ d lv g. matches.describes.shown.names d lv g ∙ ap (λ (note : Option Noted). names_if note lv g) (sym (note_stays d));
        status = λ d. matches.describes.shown.status d ∙ ap (marks_shown s.beside group.id) (sym (status_stays d));
        statuses = statuses_last.moves s (after_note s s.media.names s.home_note (flying_after s f.disk)) group in_flight before now matches.describes.shown.statuses refl refl (λ d. inl (status_stays d));
      });
      own = λ ends there. absurd (clash (s.missing f.disk) missing there);
      others = λ d ne. refl;
    }
      where
        clash : (b : Bool) → IsTrue b → IsFalse b → ⊥
        clash true h k = absurd cc
        clash false h k = absurd cc

  -- ---- in each case

  with_room : has_records was f.disk ≡ true → IsTrue well ⊎ IsTrue (s.missing f.disk) → HasLanded s group in_flight f.disk own.note well now
  with_room room how =
      let ended : NoteEnded s group in_flight f.disk own.note well now = note_ends votes s group in_flight device rest m n f well good matches removes own lands room how in
      record {
        names = ended.names;
        home = home_after s f.disk own.note well;
        may = ended.may;
        describes = ended.describes;
        own = λ ends there. let here : (f.disk == f.disk) ≡ true = grind (arith, nat_tests) in λ t. if ends t && here t then own.note else s.home_note f.disk;
        others = λ d ne. let test : (d == f.disk) ≡ false = grind (arith, nat_tests) in ap (λ b. if well && b then own.note else s.home_note d) test ∙ neither well d;
      }
    where
      neither : (b : Bool) (d : ℕ) → (if b && false then own.note else s.home_note d) ≡ s.home_note d
      neither true d = refl
      neither false d = refl

  -- A member that isn't missing has room.
  pub has_landed : (IsFalse (s.missing f.disk) → has_records was f.disk ≡ true) → IsTrue well ⊎ IsTrue (s.missing f.disk) → HasLanded s group in_flight f.disk own.note well now
  has_landed rooms how = by (has_records was f.disk) refl (s.missing f.disk) refl
    where
      clash : {X : Type 0} → true ≡ false → X
      clash e = absurd cc

      by : (b : Bool) → has_records was f.disk ≡ b → (g : Bool) → s.missing f.disk ≡ g → HasLanded s group in_flight f.disk own.note well now
      by true room g gone = with_room room how
      by false none true gone = nothing_landed none gone
      by false none false there = clash (sym (rooms there) ∙ none)

  -- ---- what else stands

  pub same_members : (d : ℕ) → members_showing now group d ≡ members_showing before group d
  same_members d = ap (λ (c : Contents). members_showing c group d) remain.kept.rest

  pub same_descriptors : (d : ℕ) → now.descriptor d ≡ before.descriptor d
  same_descriptors d = ap (λ (c : Contents). c.descriptor d) remain.kept.rest

  pub same_statuses : in_flight ≡ None → (d : ℕ) → now.status d ≡ before.status d
  same_statuses none d = ⊎_elim (λ same. same) (λ x. absurd (let e : None ≡ Some x.0 = sym none ∙ x.1 in cc)) (remain.statuses d)

  pub may_stand : (d : ℕ) → (now.status d ≡ before.status d) ⊎ ((u : Stamped Status) × (in_flight ≡ Some u) × (now.status d ≡ Some u))
  may_stand d = ⊎_elim (λ same. inl same) (λ x. inr (x.0, x.1, x.3)) (remain.statuses d)

  pub update_may : (status : Stored) (homes : Homes) → IsSector own.sector → MayUpdate group status homes was → MayUpdate group status homes is
  update_may status homes whole may = record {
    some_epoch = may.some_epoch;
    epoch = may.epoch;
    whole = λ d at low. ⊎_elim (λ same. subst IsSector (sym same) (may.whole d at low)) (λ new. subst IsSector (sym new.2) whole) (its_place d at);
    before = λ kind d slot there two k low magic.
        let same = in_slots kind d slot k in
        ap (λ (x : Sector). stamp_lt (stamp_of x) (next_stamp status.stamp)) same ∙ may.before kind d slot there two k low (ap (take 2) (sym same) ∙ magic);
    spare = λ d there owed. may.spare d there owed
        ∙ sym (slot_for_same status_of kind.Status (m d) (n d) (λ slot at two low high. same_at d at (λ e. let place : at ≡ 8 = e in let from : slot_start kind.Status slot ≤ at = low in omega (arith, place, from))));
  }
