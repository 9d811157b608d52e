-- Parts of a record that stand, the note, and disks of zeros.
use Rattle.std.proofs.Common.{◌≡◌, ◌⊎◌, inl, inr, ⊎_elim, ℕ, ◌+◌, ◌<◌, List, [], ◌∷◌, ◌++◌, take, get_or, Option, Some, None, sym, ap, subst, ◌∙◌, arith}
use Rattle.std.specs.Prelude.{IsTrue, if◌then◌else◌, unwrap_or, IsSomeAnd}
use Rattle.std.proofs.lemmas.Bool.{cases_lt}
use Rattle.std.proofs.lemmas.List.{length-replicate, get_or-replicate, get_or_past}
use Rattle.lvm_disk.specs.passed.Num.{Kind, Sector, zero_sector, IsSector, Disks, note_in, descriptor_of, status_of, slot_start, kind_magic}
use Rattle.lvm_disk.specs.passed.NumRecordKind as kind
use Rattle.lvm_disk.specs.Device.{Media, Image, Flight, written as flown, IsInFlight, IsCrashImage, image_of}
use Rattle.lvm_disk.specs.Steps.{BothTold, Puts}
use Rattle.lvm_kept.specs.Contents.{has_records, newest_at, descriptor_on, status_on, note_on, note_sector, data_at}
use Rattle.lvm_kept.specs.Plans.{ChangesBy}
use Rattle.lvm_kept.specs.Torn.{IsOtherOrRecord, EndedPartStands, StandingPartStays, IsOfNote, NoteWriteShows, ZerosAreBefore}
use Rattle.lvm_kept.proofs.PlacesLemmas.{room-same, newest-same, at-same, note-same, data-same}
use Rattle.lvm_kept.proofs.PlansLemmas.{of_removed, step_from}
use Rattle.lvm_kept.proofs.TornLemmas.Records.{slot-above, part_is}

-- ---- parts

in_this : (before after : List Flight) (f : Flight) (d s : ℕ) (x : Sector) → flown f d s ≡ Some x → IsInFlight (before ++ f ∷ after) d s x
in_this [] after f d s x is = inl is
in_this (g ∷ before) after f d s x is = inr (in_this before after f d s x is)

-- a write that ended well stands, unless another one goes over it
put_there :
    (sizes : List ℕ) (old new : Option Media) (f : Flight) (flights : List Flight) (image : Image) (d s : ℕ) (value : Sector) → BothTold old new (Puts f) → flown f d s ≡ Some value
    → IsSomeAnd new (λ n. IsCrashImage (image_of sizes n) flights image) → (image.sector d s ≡ value) ⊎ IsInFlight flights d s (image.sector d s)
put_there sizes None None f flights image d s value told brings may = absurd may
put_there sizes None (Some n) f flights image d s value told brings may = absurd told
put_there sizes (Some m) None f flights image d s value told brings may = absurd may
put_there sizes (Some m) (Some n) f flights image d s value told brings may = ⊎_elim
    (λ same. inl (same ∙ told d s ∙ ap (λ o. unwrap_or o (m d s)) brings))
    (λ is. inr is)
    (may.each d s)

pub ended_stands : EndedPartStands
ended_stands w old before after ticket buf ends d part value way two lt frames brings image may =
    let s = slot_start w.kind (w.slots d) + part in
    let was : IsInFlight before.flights d s value = subst (λ (l : List Flight). IsInFlight l d s value) (sym ends.flights.was) (in_this ends.flights.before ends.flights.after ends.flight d s value brings) in
    ⊎_elim
    (λ (is : image.sector d s ≡ value). is ∙ part_is w d part value frames two lt (way.flights d s value was))
    (λ (is : IsInFlight after.flights d s (image.sector d s)).
    part_is w d part (image.sector d s) frames two lt (way.flights d s (image.sector d s) (of_removed ends.flight before.flights after.flights ends.flights d s (image.sector d s) is)))
    (put_there after.sizes before.media after.media ends.flight after.flights image d s value ends.media brings may)

pub standing_stays : StandingPartStays
standing_stays w before after step d part planned two lt frames stands image may =
    let from = step_from (IsOtherOrRecord w) before after step planned image may in
    let s = slot_start w.kind (w.slots d) + part in
    ⊎_elim
    (λ (same : image.sector d s ≡ from.was.sector d s). same ∙ stands from.was from.left)
    (λ (p : IsOtherOrRecord w d s (image.sector d s)). part_is w d part (image.sector d s) frames two lt p)
    (from.each d s)

-- ---- the note

module _ (targets : Disks) (sector : Sector) (old new : Image) (by : ChangesBy (IsOfNote targets sector) old new) where
  other_sector : (d s : ℕ) → note_sector < s → new.sector d s ≡ old.sector d s
  other_sector d s above = ⊎_elim
      (λ same. same)
      (λ (of : IsOfNote targets sector d s (new.sector d s)). absurd (omega (arith, of.place, above)))
      (by.each d s)

  newest : {X : Type 0} (content_of : _) (kind : Kind) (d : ℕ) → newest_at {X = X} content_of kind new d ≡ newest_at content_of kind old d
  newest content_of kind d = at-same content_of kind old new d by.same (newest-same content_of kind (old.sector d) (new.sector d) (λ slot s two low high. other_sector d s (omega (arith, low, slot-above kind slot 0))))

  own_note : (d : ℕ) → (note_on new d ≡ note_on old d) ⊎ (IsTrue (targets d) × (note_on new d ≡ (if has_records old d then note_in sector else None)))
  unfolding note_on
  own_note d = ⊎_elim
      (λ (same : new.sector d note_sector ≡ old.sector d note_sector). inl (note-same old new d by.same same))
      (λ (of : IsOfNote targets sector d note_sector (new.sector d note_sector)).
      let is : new.sector d note_sector ≡ sector = of.is in
      let room : has_records new d ≡ has_records old d = room-same old new by.same d in
      inr (of.target, λ t. if room t then note_in (is t) else None))
      (by.each d note_sector)

pub note_shows : NoteWriteShows
unfolding descriptor_on status_on
note_shows targets sector old new by =
    let disks : new.disks ≡ old.disks = by.same.disks in
    let size : (d : ℕ) → new.size d ≡ old.size d = by.same.size in
    let data_same : (d s : ℕ) → data_at new d s ≡ data_at old d s = data-same old new (λ d s le. other_sector targets sector old new by d s (omega (arith, le))) in
    let descriptors : (d : ℕ) → descriptor_on new d ≡ descriptor_on old d = newest targets sector old new by descriptor_of kind.Descriptor in
    let statuses : (d : ℕ) → status_on new d ≡ status_on old d = newest targets sector old new by status_of kind.Status in
    record {
      own = own_note targets sector old new by;
      rest = λ t. record { disks = disks t; size = λ d. size d t; descriptor = λ d. descriptors d t; status = λ d. statuses d t; note = note_on new; block = λ d s. data_same d s t };
    }

-- ---- zeros

pub zeros-sector : IsSector zero_sector
zeros-sector = record {
  long = length-replicate {A = ℕ} 512 0;
  bytes = λ i. elim (cases_lt i 512) [
    | inl lt ↦ rw (get_or-replicate {A = ℕ} 512 i 0 0 lt) (omega arith)
    | inr ge ↦ rw (get_or_past {X = ℕ} zero_sector i 0 (omega (arith, length-replicate {A = ℕ} 512 0))) (omega arith)
  ];
}

no-magic : (kind : Kind) → take 2 zero_sector ≡ kind_magic kind → ⊥
no-magic kind.Descriptor e = absurd (omega (arith, ap (λ (l : List ℕ). get_or l 0 0) e))
no-magic kind.Status e = absurd (omega (arith, ap (λ (l : List ℕ). get_or l 0 0) e))

pub zeros_before : ZerosAreBefore
zeros_before w sectors zeros = record {
  whole = λ slot two k lt. subst (λ (x : Sector). IsSector x) (sym (zeros slot k two lt)) zeros-sector;
  before = λ slot two k lt magic. absurd (no-magic w.kind (ap (take 2) (sym (zeros slot k two lt)) ∙ magic));
}
