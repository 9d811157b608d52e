-- The end of a write of a note.
use Rattle.std.proofs.Common.{◌≡◌, ◌⊎◌, inl, inr, ⊎_elim, ℕ, ◌-◌, Bool, true, false, ◌&&◌, ◌==◌, List, Option, Some, None, refl, sym, ap, subst, ◌∙◌, arith, eqb-true}
use Rattle.std.specs.Prelude.{IsTrue, IsFalse, if◌then◌else◌, slice_get}
use Rattle.std.proofs.lemmas.Bool.Decides.{nat_tests}
use Rattle.std.proofs.lemmas.Option.{same_Some}
use Rattle.lvm_num.specs.declared.descriptor.Descriptor.{Descriptor}
use Rattle.lvm_num.specs.declared.status.Status.{Status}
use Rattle.lvm_num.specs.declared.record.Kind.TheVariants as kind
use Rattle.lvm_num.specs.Geometry.{sector_of}
use Rattle.lvm_num.specs.Note.{note_in}
use Rattle.lvm_num.specs.Record.{Stamped}
use Rattle.lvm_num.specs.StatusBytes.{status_of}
use Rattle.lvm_disk.specs.Device.{Media, Image, Flight, Device, image_of, written}
use Rattle.lvm_disk.specs.Steps.{Removes}
use Rattle.lvm_kept.specs.Contents.{Contents, contents_of, has_records, status_on, note_on, note_sector}
use Rattle.lvm_kept.specs.Group.{names_if, is_named}
use Rattle.lvm_kept.proofs.PlacesLemmas.{note-same, blocks_are_sectors}
use Rattle.lvm_kept.proofs.TornLemmas.Records.{newest_stays}
use Rattle.lvm_invariant.specs.State.{Groups, ModelState}
use Rattle.lvm_invariant.specs.Found.{Votes}
use Rattle.lvm_invariant.specs.Good.{Good}
use Rattle.lvm_invariant.specs.Events.{EndNote}
use Rattle.lvm_invariant.specs.EndNote.{EndsNote, after_note}
use Rattle.lvm_crash.specs.Session.{marks_shown}
use Rattle.lvm_crash.specs.Left.{MayRemain}
use Rattle.lvm_crash.specs.Flights.{Matches}
use Rattle.lvm_crash.proofs.LawsLemmas.Images.{images_remain}
use Rattle.lvm_crash.proofs.LastingLemmas.Lasting.{description_lasts}
use Rattle.lvm_crash.proofs.LastingLemmas.Statuses.{statuses_last}
use Rattle.lvm_crash.specs.Owned.{IsNoteFlight}
use Rattle.lvm_crash.specs.Writing.{Lands}
use Rattle.lvm_crash.specs.Records.{home_after, flying_after, NoteEnded, NoteEndMatches}
use Rattle.lvm_crash.proofs.DeviceLemmas.{writes_at, at_writes}
use Rattle.lvm_crash.proofs.OwnedLemmas.{its_note}
use Rattle.lvm_crash.proofs.RecordsLemmas.Records.{may_leave}

-- ---- notes

module _ (votes : Votes) (s : ModelState) (group : Descriptor) (in_flight : Option (Stamped Status)) (device : Device) (rest : List Flight) (m n : Media) (f : Flight) (well : Bool)
    (good : Good votes s) (matches : Matches s s.facts group in_flight device m) (removes : Removes f device.flights rest) (own : IsNoteFlight s f) (lands : Lands f well m n)
    (room : has_records (image_of device.sizes m) f.disk ≡ true) (how : IsTrue well ⊎ IsTrue (s.missing f.disk)) where
  abbrev was : Image
  was = image_of device.sizes m

  abbrev is : Image
  is = image_of device.sizes n

  abbrev before : Contents
  before = contents_of was

  abbrev now : Contents
  now = contents_of is

  remain : MayRemain s group in_flight before now
  remain = images_remain s s.facts group in_flight device m is matches (may_leave device rest m n f matches.told removes lands.some)

  same_at : (d at : ℕ) → (at ≡ note_sector → ⊥) → n d at ≡ m d at
  same_at d at not = ⊎_elim (λ same. same) (λ brings. absurd (not (its_note s f d at (n d at) own brings).place)) (lands.some d at)

  other : (d : ℕ) → (f.disk ≡ d → ⊥) → n d note_sector ≡ m d note_sector
  other d not = ⊎_elim (λ same. same) (λ brings. absurd (not (writes_at f d note_sector (n d note_sector) brings).disk)) (lands.some d note_sector)

  status_stays : (d : ℕ) → now.status d ≡ before.status d
  unfolding status_on
  status_stays d = newest_stays Status status_of kind.Status was is d (record {
    same = record { disks = refl; size = λ e. refl };
    each = λ e at. ⊎_elim (λ same. inl same) (λ brings. inr (let place : at ≡ 8 = (its_note s f e at (n e at) own brings).place in inl (omega arith))) (lands.some e at);
  })

  -- the sector is the old one or the new note's
  pub data Left : Type 0 where
    Old : IsFalse well → n f.disk note_sector ≡ m f.disk note_sector → Left
    New : n f.disk note_sector ≡ own.sector → Left

  brings_note : written f f.disk note_sector ≡ Some own.sector
  brings_note =
      let first : f.first ≡ 8 = own.first in
      let count : f.count ≡ 1 = own.count in
      let index : 8 - f.first ≡ 0 = omega arith in
      at_writes f f.disk note_sector own.sector (record { write = own.write; disk = refl; low = omega arith; high = omega arith; there = ap (λ j. slice_get f.buf.sectors j) index ∙ own.carries })

  left : Left
  left = by well refl
    where
      by : (t : Bool) → well ≡ t → Left
      by true ends = New (lands.all ends f.disk note_sector own.sector brings_note)
      by false ends = ⊎_elim (λ same. Old ends same) (λ brings. New (same_Some (n f.disk note_sector) own.sector (sym brings ∙ brings_note))) (lands.some f.disk note_sector)

  abbrev names_by : Bool → ℕ → Groups
  names_by new d = if new && d == f.disk then own.note else s.media.names d

  own_disk : (f.disk == f.disk) ≡ true
  own_disk = grind (arith, nat_tests)

  -- what the disks' notes name then
  named_old : IsFalse well → n f.disk note_sector ≡ m f.disk note_sector → (d lv g : ℕ) → names_by false d lv g ≡ is_named now d lv g
  named_old bad same d lv g = matches.describes.shown.names d lv g ∙ ap (λ note. names_if note lv g) (sym (note-same was is d (record { disks = refl; size = λ e. refl }) (by (f.disk == d) refl)))
    where
      by : (t : Bool) → (f.disk == d) ≡ t → n d note_sector ≡ m d note_sector
      by true test = subst (λ k. n k note_sector ≡ m k note_sector) (eqb-true f.disk d test) same
      by false test = other d (λ e. let yes : (f.disk == d) ≡ true = grind (arith, nat_tests) in let no : ◌≡◌ {A = Bool} false true = sym test ∙ yes in absurd cc)

  named_new : n f.disk note_sector ≡ own.sector → (d lv g : ℕ) → names_by true d lv g ≡ is_named now d lv g
  unfolding note_on
  named_new new d lv g = by (d == f.disk) refl
    where
      by : (t : Bool) → (d == f.disk) ≡ t → names_by true d lv g ≡ is_named now d lv g
      by true test =
          ap (λ t. (if t then own.note else s.media.names d) lv g) test
          ∙ sym (own.names lv g)
          ∙ ap (λ x. names_if (note_in x) lv g) (sym new)
          ∙ ap (λ t. names_if (if t then note_in (n f.disk note_sector) else None) lv g) (sym room)
          ∙ ap (λ k. is_named now k lv g) (sym (eqb-true d f.disk test))
      by false test =
          ap (λ t. (if t then own.note else s.media.names d) lv g) test
          ∙ matches.describes.shown.names d lv g
          ∙ ap (λ note. names_if note lv g) (sym (note-same was is d (record { disks = refl; size = λ e. refl })
          (other d (λ e. let yes : (d == f.disk) ≡ true = grind (arith, nat_tests) in let no : ◌≡◌ {A = Bool} false true = sym test ∙ yes in absurd cc))))

  abbrev home : ℕ → Groups
  home = home_after s f.disk own.note well

  abbrev flying : ℕ → Option Groups
  flying = flying_after s f.disk

  -- what is asked of the end
  is_now : (new : Bool) (e : ℕ) → (names_by new e ≡ s.media.names e) ⊎ ((e ≡ f.disk) × (names_by new e ≡ own.note))
  is_now new e = by (new && e == f.disk) refl
    where
      by : (t : Bool) → (new && e == f.disk) ≡ t → (names_by new e ≡ s.media.names e) ⊎ ((e ≡ f.disk) × (names_by new e ≡ own.note))
      by true test = inr (eqb-true e f.disk (right new (e == f.disk) test), ap (λ t. if t then own.note else s.media.names e) test)
        where
          right : (a b : Bool) → a && b ≡ true → b ≡ true
          right true b h = h
          right false b h = absurd cc
      by false test = inl (ap (λ t. if t then own.note else s.media.names e) test)

  clash : (b : Bool) → IsTrue b → IsFalse b → ⊥
  clash true h k = absurd cc
  clash false h k = absurd cc

  home_now : (new : Bool) → (IsTrue well → IsTrue new) → (e : ℕ) → IsFalse (s.missing e) → ((names_by new e ≡ s.media.names e) × (home e ≡ s.home_note e)) ⊎ ((names_by new e ≡ own.note) × (home e ≡ own.note))
  home_now new all e there = by (e == f.disk) refl well refl
    where
      both : (a b : Bool) → a ≡ true → b ≡ true → (a && b) ≡ true
      both a b h k = λ t. h t && k t

      by : (t : Bool) → (e == f.disk) ≡ t → (v : Bool) → well ≡ v → ((names_by new e ≡ s.media.names e) × (home e ≡ s.home_note e)) ⊎ ((names_by new e ≡ own.note) × (home e ≡ own.note))
      by true test true ends = inr (ap (λ t. if t then own.note else s.media.names e) (both new (e == f.disk) (all ends) test), ap (λ t. if t then own.note else s.home_note e) (both well (e == f.disk) ends test))
      by true test false ends = absurd (⊎_elim (λ yes. clash well yes ends) (λ gone. clash (s.missing e) (subst (λ k. IsTrue (s.missing k)) (sym (eqb-true e f.disk test)) gone) there) how)
      by false test v ends = inl (ap (λ t. if t then own.note else s.media.names e) (nothing new (e == f.disk) test), ap (λ t. if t then own.note else s.home_note e) (nothing well (e == f.disk) test))
        where
          nothing : (a b : Bool) → b ≡ false → (a && b) ≡ false
          nothing true b h = h
          nothing false b h = refl

  flying_now : (e : ℕ) → (flying e ≡ s.flying_note e) ⊎ ((e ≡ f.disk) × (flying e ≡ None))
  flying_now e = by (e == f.disk) refl
    where
      by : (t : Bool) → (e == f.disk) ≡ t → (flying e ≡ s.flying_note e) ⊎ ((e ≡ f.disk) × (flying e ≡ None))
      by true test = inr (eqb-true e f.disk test, ap (λ t. if t then None else s.flying_note e) test)
      by false test = inl (ap (λ t. if t then None else s.flying_note e) test)

  ended : (new : Bool) → (IsTrue well → IsTrue new) → ((d lv g : ℕ) → names_by new d lv g ≡ is_named now d lv g) → NoteEnded s group in_flight f.disk own.note well now
  ended new all named =
      let its : EndsNote s f.disk (names_by new) home flying = record { note = own.note; was = own.flies; names_now = is_now new; home_now = home_now new all; flying_now = flying_now } in
      record {
        names = names_by new;
        may = its;
        describes = description_lasts votes (EndNote f.disk (names_by new) home flying) s (after_note s (names_by new) home flying) group in_flight in_flight before now (its, refl) good tt matches.describes remain.kept (record {
          blocks = λ lv b p copy. matches.describes.shown.blocks lv b p copy ∙ blocks_are_sectors was group.mib b p ∙ sym (same_at p.disk (sector_of group.mib p.pp b) (λ e. let place : sector_of group.mib p.pp b ≡ 8 = e in omega arith)) ∙ sym (blocks_are_sectors is group.mib b p);
          names = named;
          status = λ d. matches.describes.shown.status d ∙ ap (marks_shown s.beside group.id) (sym (status_stays d));
          statuses = statuses_last.moves s (after_note s (names_by new) home flying) group in_flight before now matches.describes.shown.statuses refl refl (λ d. inl (status_stays d));
        });
      }

  pub note_ended : NoteEnded s group in_flight f.disk own.note well now
  note_ended = by left
    where
      by : Left → NoteEnded s group in_flight f.disk own.note well now
      by (Old bad same) = ended false (λ ends. absurd (clash well ends bad)) (named_old bad same)
      by (New new) = ended true (λ ends. refl) (named_new new)

pub note_ends : NoteEndMatches
note_ends = note_ended
