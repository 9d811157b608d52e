-- The ends of writes of records.
use Rattle.std.proofs.Common.{◌≡◌, ◌⊎◌, inl, inr, ⊎_elim, ℕ, ◌+◌, ◌-◌, ◌<◌, ◌≤◌, Bool, true, ◌==◌, List, [], ◌∷◌, ◌++◌, length, Option, Some, None, refl, sym, ap, subst, ◌∙◌, arith}
use Rattle.std.specs.Prelude.{IsTrue, IsSomeAnd, if◌then◌else◌, slice_get, option_map}
use Rattle.std.proofs.lemmas.Bool.Decides.{nat_tests}
use Rattle.lvm_num.specs.declared.descriptor.Descriptor.{Descriptor}
use Rattle.lvm_num.specs.declared.status.Status.{Status}
use Rattle.lvm_num.specs.Buffer.{Sector}
use Rattle.lvm_num.specs.Geometry.{sector_of}
use Rattle.lvm_num.specs.Record.{Stamped, frame, record_sectors, slot_start}
use Rattle.lvm_num.specs.StatusBytes.{status_of}
use Rattle.lvm_disk.specs.Device.{Media, Image, Flight, Device, image_of, written, IsInFlight, IsCrashImage, MayLeave}
use Rattle.lvm_disk.specs.Steps.{PutsSome, Removes}
use Rattle.lvm_kept.specs.Contents.{Contents, contents_of, newest_at, status_on, note_sector}
use Rattle.lvm_kept.specs.Group.{names_if}
use Rattle.lvm_kept.specs.Torn.{RecordWrite, StandsOn, written as as_written}
use Rattle.lvm_kept.proofs.PlacesLemmas.{note-same, blocks_are_sectors}
use Rattle.lvm_kept.proofs.TornLemmas.Records.{whole_is_new}
use Rattle.lvm_invariant.specs.State.{Beside, ModelState}
use Rattle.lvm_invariant.specs.Found.{Votes}
use Rattle.lvm_invariant.specs.Good.{Good}
use Rattle.lvm_invariant.specs.Events.{MoveStatus}
use Rattle.lvm_invariant.specs.MoveStatus.{StatusMoves, moved}
use Rattle.lvm_crash.specs.Session.{as_marks, marks_shown, Shows}
use Rattle.lvm_crash.specs.Left.{MayRemain}
use Rattle.lvm_crash.specs.Flights.{Matches}
use Rattle.lvm_crash.proofs.LawsLemmas.Images.{images_remain}
use Rattle.lvm_crash.proofs.LastingLemmas.Lasting.{description_lasts}
use Rattle.lvm_crash.proofs.LastingLemmas.Statuses.{statuses_last}
use Rattle.lvm_crash.specs.Owned.{IsStatusFlight, UpdateSince}
use Rattle.lvm_crash.specs.Writing.{Lands}
use Rattle.lvm_crash.specs.Records.{statuses_of, StatusEnded, StatusEndMatches}
use Rattle.lvm_crash.proofs.DeviceLemmas.{at_writes}
use Rattle.lvm_crash.proofs.OwnedLemmas.{in_slots}

-- ---- what a transfer leaves might have been left

of_this : (before after : List Flight) (f : Flight) (d s : ℕ) (x : Sector) → written f d s ≡ Some x → IsInFlight (before ++ f ∷ after) d s x
of_this [] after f d s x is = inl is
of_this (g ∷ before) after f d s x is = inr (of_this before after f d s x is)

pub may_leave : (device : Device) (rest : List Flight) (m n : Media) (f : Flight) → device.media ≡ Some m → Removes f device.flights rest → PutsSome f m n → MayLeave device (image_of device.sizes n)
may_leave device rest m n f told removes some =
    let crash : IsCrashImage (image_of device.sizes m) device.flights (image_of device.sizes n) = record {
      same = record { disks = refl; size = λ d. refl };
      each = λ d s. ⊎_elim (λ same. inl same) (λ brings. inr (subst (λ (l : List Flight). IsInFlight l d s (n d s)) (sym removes.was) (of_this removes.before removes.after f d s (n d s) brings))) (some d s);
    } in
    subst (λ (o : Option Media). IsSomeAnd o (λ k. IsCrashImage (image_of device.sizes k) device.flights (image_of device.sizes n))) (sym told) crash

-- ---- statuses

status_is : (beside : Option Beside) (id : ℕ) (u : Stamped Status) → u.value.id ≡ id → marks_shown beside id (Some u) ≡ Some (as_marks beside u)
status_is beside id u own = let test : (u.value.id == id) ≡ true = grind (arith, nat_tests) in ap (λ t. option_map (as_marks beside) (if t then Some u else None)) test

module _ (votes : Votes) (s : ModelState) (group : Descriptor) (w : RecordWrite) (u : Stamped Status) (device : Device) (rest : List Flight) (m n : Media) (f : Flight) (well : Bool) (flying : ℕ → Bool)
    (good : Good votes s) (matches : Matches s s.facts group (Some u) device m) (removes : Removes f device.flights rest) (own : IsStatusFlight s w f) (since : UpdateSince device w u) (lands : Lands f well m n) where
  abbrev was : Image
  was = image_of device.sizes m

  abbrev is : Image
  is = image_of device.sizes n

  abbrev before : Contents
  before = contents_of was

  abbrev now : Contents
  now = contents_of is

  may : MayLeave device is
  may = may_leave device rest m n f matches.told removes lands.some

  remain : MayRemain s group (Some u) before now
  remain = images_remain s s.facts group (Some u) device m is matches may

  -- data and notes stay
  same_at : (d at : ℕ) → (at < 64) ⊎ (192 ≤ at) → n d at ≡ m d at
  same_at d at out = ⊎_elim (λ same. same) (λ brings. let slots = in_slots s device w u f d at (n d at) since own brings in absurd (inside slots.low slots.high out)) (lands.some d at)
    where
      inside : 64 ≤ at → at < 192 → (at < 64) ⊎ (192 ≤ at) → ⊥
      inside low high (inl below) = omega arith
      inside low high (inr above) = omega arith

  the_value : u.value.id ≡ group.id
  the_value = matches.describes.shown.statuses.own u refl

  -- each status is what it was, or the update
  either : (d : ℕ) → (now.status d ≡ before.status d) ⊎ (now.status d ≡ Some u)
  either d = ⊎_elim (λ same. inl same) (λ up. inr (up.3 ∙ sym up.1)) (remain.statuses d)

  moves : StatusMoves s (as_marks s.beside u) (statuses_of s.beside group.id now)
  moves = record {
    flies = matches.describes.shown.statuses.same;
    each = λ d. ⊎_elim
        (λ same. inl (ap (marks_shown s.beside group.id) same ∙ sym (matches.describes.shown.status d)))
        (λ new. inr (ap (marks_shown s.beside group.id) new ∙ status_is s.beside group.id u the_value))
        (either d);
  }

  all_stands : IsTrue well → StandsOn w is f.disk
  all_stands ends part lt =
      let inside : part < record_sectors (length w.framed.content) = lt in
      let count : f.count ≡ record_sectors (length w.framed.content) = own.count in
      let first : f.first ≡ slot_start w.kind (w.slots f.disk) = own.first in
      let at : ℕ = slot_start w.kind (w.slots f.disk) + part in
      let index : at - f.first ≡ part = omega arith in
      lands.all ends f.disk at (frame w.kind w.framed.stamp w.framed.content part) (at_writes f f.disk at (frame w.kind w.framed.stamp w.framed.content part)
      (record { write = own.write; disk = refl; low = omega arith; high = omega arith; there = ap (λ j. slice_get f.buf.sectors j) index ∙ own.carries part (omega arith) }))

  stands : IsTrue well → now.status f.disk ≡ Some u
  unfolding status_on
  stands ends =
      let stamp : w.framed.stamp ≡ u.stamp = since.stamp in
      let the_one : as_written w u.value ≡ u = λ t. record { stamp = stamp t; value = u.value } in
      subst (λ k. newest_at status_of k is f.disk ≡ Some (as_written w u.value)) since.is_status (whole_is_new Status status_of w u.value since.began is f.disk since.may (since.way.images is may) own.target (all_stands ends))
      ∙ ap (λ (x : Stamped Status). Some x) the_one

  shows : Shows (moved s (statuses_of s.beside group.id now) flying) group (Some u) now
  shows = record {
    blocks = λ lv b p copy. matches.describes.shown.blocks lv b p copy ∙ blocks_are_sectors was group.mib b p ∙ sym (same_at p.disk (sector_of group.mib p.pp b) (inr (omega arith))) ∙ sym (blocks_are_sectors is group.mib b p);
    names = λ d lv g. matches.describes.shown.names d lv g ∙ ap (λ note. names_if note lv g) (sym (note-same was is d (record { disks = refl; size = λ e. refl }) (same_at d note_sector (inl (omega arith)))));
    status = λ d. refl;
    statuses = statuses_last.moves s (moved s (statuses_of s.beside group.id now) flying) group (Some u) before now matches.describes.shown.statuses refl refl (λ d. ⊎_elim (λ same. inl same) (λ new. inr (u, refl, new)) (either d));
  }

  pub status_ended : StatusEnded s group u f.disk well flying now
  status_ended = record {
    may = moves;
    describes = description_lasts votes (MoveStatus (as_marks s.beside u) (statuses_of s.beside group.id now) flying) s (moved s (statuses_of s.beside group.id now) flying) group (Some u) (Some u) before now (moves, refl) good tt matches.describes remain.kept shows;
    stands = stands;
  }

pub status_ends : StatusEndMatches
status_ends = status_ended
