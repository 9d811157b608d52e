-- Crash images show what may remain.
use Rattle.std.proofs.Common.{◌≡◌, ◌⊎◌, inl, inr, ⊎_elim, ℕ, ◌+◌, ◌<◌, ◌≤◌, Bool, true, false, List, [], Option, Some, None, refl, sym, ap, subst, ◌∙◌, arith}
use Rattle.std.specs.Prelude.{IsTrue, IsFalse, nat_lt, if◌then◌else◌, IsSomeAnd}
use Rattle.std.proofs.lemmas.Bool.Decides.{nat_tests}
use Rattle.lvm_num.specs.declared.place.Pp.{Pp}
use Rattle.lvm_num.specs.declared.record.Kind.TheVariants as kind
use Rattle.lvm_num.specs.declared.descriptor.Descriptor.{Descriptor}
use Rattle.lvm_num.specs.declared.status.Status.{Status}
use Rattle.lvm_num.specs.DescriptorBytes.{descriptor_of}
use Rattle.lvm_num.specs.Geometry.{data_start, sector_of}
use Rattle.lvm_num.specs.Note.{note_in}
use Rattle.lvm_num.specs.Record.{Stamped, slot_start, slot_size}
use Rattle.lvm_num.specs.StatusBytes.{status_of}
use Rattle.lvm_kept.specs.passed.Disk.{Media, Image, Device, IsInFlight, IsCrashImage, image_of, MayLeave}
use Rattle.lvm_kept.specs.Contents.{has_records, newest_at, descriptor_on, status_on, note_on, note_sector, data_at, contents_of}
use Rattle.lvm_kept.specs.Group.{names_if, is_named, block_at}
use Rattle.lvm_kept.specs.Plans.{ChangesBy}
use Rattle.lvm_kept.specs.Torn.{IsOfRecord, IsOtherOrRecord, StandsOn, written}
use Rattle.lvm_kept.proofs.PlacesLemmas.{room-same, newest-same, at-same, note-same, blocks_are_sectors}
use Rattle.lvm_kept.proofs.TornLemmas.Records.{never, part_is, newest_is, whole_is_new, newest_stays}
use Rattle.lvm_invariant.specs.State.{Groups, ModelState}
use Rattle.lvm_invariant.specs.Crash.{Brings, CopyBrings}
use Rattle.lvm_vol.specs.Facts.{Fact}
use Rattle.lvm_kept.specs.Kept.{Kept}
use Rattle.lvm_invariant.specs.Found.{Votes, Found}
use Rattle.lvm_invariant.proofs.CrashLemmas.{core_kept}
use Rattle.lvm_crash.specs.Session.{AreVotesOf}
use Rattle.lvm_crash.specs.Left.{MayRemain}
use Rattle.lvm_crash.specs.Flights.{UpdateIsOut, OnlyUpdateIsOut, HasOut, Matches}
use Rattle.lvm_crash.specs.Laws.{EachViewAgrees, CrashImagesRemain, CrashImagesAreKept, LastImagesAreKept}
use Rattle.lvm_kept.proofs.CommittedLemmas.Finding.{images_within}
use Rattle.lvm_crash.proofs.LawsLemmas.Remaining.{remains_kept}

-- data of an image is its sectors
data_is : (image : Image) (d s : ℕ) → data_start ≤ s → data_at image d s ≡ image.sector d s
data_is image d s le = ap (λ t. if t then [] else image.sector d s) high
  where
    high : nat_lt s data_start ≡ false
    high = grind (arith, nat_tests)

-- a sector in a slot of statuses isn't outside
in_slot : (slot at : ℕ) → slot < 2 → slot_start kind.Status slot ≤ at → at < slot_start kind.Status slot + slot_size kind.Status → (at < slot_start kind.Status 0) ⊎ (slot_start kind.Status 1 + slot_size kind.Status ≤ at) → ⊥
in_slot slot at two low high (inl below) = omega arith
in_slot slot at two low high (inr above) = omega arith

module _ (device : Device) (media : Media) (told : device.media ≡ Some media) where
  abbrev base : Image
  base = image_of device.sizes media

  crash_of : (image : Image) → MayLeave device image → IsCrashImage base device.flights image
  crash_of image may = subst (λ (o : Option Media). IsSomeAnd o (λ m. IsCrashImage (image_of device.sizes m) device.flights image)) told may

  -- the media itself may be left
  stays : MayLeave device base
  stays = subst (λ (o : Option Media). IsSomeAnd o (λ m. IsCrashImage (image_of device.sizes m) device.flights base)) (sym told) (record { same = record { disks = refl; size = λ d. refl }; each = λ d s. inl refl })

  module _ (image : Image) (may : MayLeave device image) (s : ModelState) (group : Descriptor) where
    crash : IsCrashImage base device.flights image
    crash = crash_of image may

    -- ---- statuses

    module _ (u : Stamped Status) (out : UpdateIsOut s device u) where
      the_one : written out.write u.value ≡ u
      the_one = let e : out.write.framed.stamp ≡ u.stamp = out.stamp in λ t. record { stamp = e t; value = u.value }

      changes : (left : Image) → MayLeave device left → ChangesBy (IsOtherOrRecord out.write) out.began left
      changes left m = out.way.images left m

      abbrev Shows : Image → ℕ → Type 0
      Shows left d = (status_on left d ≡ status_on out.began d) ⊎ (IsTrue (out.write.targets d) × (status_on left d ≡ Some u) × StandsOn out.write left d)

      shows : (left : Image) → MayLeave device left → (d : ℕ) → Shows left d
      unfolding status_on
      shows left m d = ⊎_elim
          (λ same. inl (subst (λ k. newest_at status_of k left d ≡ newest_at status_of k out.began d) out.is_status same))
          (λ is. inr (is.0, subst (λ k. newest_at status_of k left d ≡ Some (written out.write u.value)) out.is_status is.1 ∙ ap (λ (x : Stamped Status). Some x) the_one, is.2))
          (newest_is Status status_of out.write u.value out.began left d out.may (changes left m))

      -- what stands on the media stands in each image
      still_stands : (d : ℕ) → StandsOn out.write base d → StandsOn out.write image d
      still_stands d stands part lt = ⊎_elim
          (λ same. same ∙ stands part lt)
          (λ is. part_is out.write d part (image.sector d (slot_start out.write.kind (out.write.slots d) + part)) out.may.frames (out.may.slots d) lt
          (out.way.flights d (slot_start out.write.kind (out.write.slots d) + part) (image.sector d (slot_start out.write.kind (out.write.slots d) + part)) is))
          (crash.each d (slot_start out.write.kind (out.write.slots d) + part))

      then_new : (d : ℕ) → IsTrue (out.write.targets d) → StandsOn out.write image d → status_on image d ≡ Some u
      unfolding status_on
      then_new d target stands = subst (λ k. newest_at status_of k image d ≡ Some (written out.write u.value)) out.is_status
          (whole_is_new Status status_of out.write u.value out.began image d out.may (changes image may) target stands) ∙ ap (λ (x : Stamped Status). Some x) the_one

      -- without a write of it out to the disk, its status is the media's
      no_write : (d : ℕ) → IsFalse (s.status_flying d) → status_on image d ≡ status_on base d
      unfolding status_on
      no_write d none = at-same status_of kind.Status base image d crash.same (newest-same status_of kind.Status (base.sector d) (image.sector d) (λ slot at two low high. ⊎_elim
          (λ same. same)
          (λ is. absurd (no_part slot at two low high is (subst (λ k. (at < slot_start k 0) ⊎ (slot_start k 1 + slot_size k ≤ at) ⊎ IsOfRecord out.write d at (image.sector d at)) out.is_status
          (out.way.flights d at (image.sector d at) is))))
          (crash.each d at)))
        where
          no_part : (slot at : ℕ) → slot < 2 → slot_start kind.Status slot ≤ at → at < slot_start kind.Status slot + slot_size kind.Status → IsInFlight device.flights d at (image.sector d at)
              → (at < slot_start kind.Status 0) ⊎ (slot_start kind.Status 1 + slot_size kind.Status ≤ at) ⊎ IsOfRecord out.write d at (image.sector d at) → ⊥
          no_part slot at two low high is (inl below) = in_slot slot at two low high (inl below)
          no_part slot at two low high is (inr (inl above)) = in_slot slot at two low high (inr above)
          no_part slot at two low high is (inr (inr of)) = never (s.status_flying d) (out.flying d at (image.sector d at) is of) none

      update : (d : ℕ) → (status_on image d ≡ status_on base d) ⊎ (IsTrue (s.status_flying d) × (status_on image d ≡ Some u))
      update d = ⊎_elim
          (λ (none : IsFalse (s.status_flying d)). inl (no_write d none))
          (λ (flies : IsTrue (s.status_flying d)). ⊎_elim
          (λ (is_old : status_on image d ≡ status_on out.began d). ⊎_elim
          (λ (was_old : status_on base d ≡ status_on out.began d). inl (is_old ∙ sym was_old))
          (λ (was_new : IsTrue (out.write.targets d) × (status_on base d ≡ Some u) × StandsOn out.write base d). inl (then_new d was_new.0 (still_stands d was_new.2) ∙ sym was_new.1))
          (shows base stays d))
          (λ (is_new : IsTrue (out.write.targets d) × (status_on image d ≡ Some u) × StandsOn out.write image d). inr (flies, is_new.1))
          (shows image may d))
          (or_so (s.status_flying d))
        where
          or_so : (b : Bool) → IsFalse b ⊎ IsTrue b
          or_so true = inr refl
          or_so false = inl refl

    statuses : (in_flight : Option (Stamped Status)) → OnlyUpdateIsOut s device in_flight → (d : ℕ)
        → (status_on image d ≡ status_on base d) ⊎ ((u : Stamped Status) × (in_flight ≡ Some u) × IsTrue (s.status_flying d) × (status_on image d ≡ Some u))
    unfolding status_on
    statuses None none d = inl (newest_stays Status status_of kind.Status base image d (record { same = crash.same; each = λ e at. ⊎_elim (λ same. inl same) (λ is. inr (none e at (image.sector e at) is)) (crash.each e at) }))
    statuses (Some u) out d = ⊎_elim (λ same. inl same) (λ is. inr (u, refl, is.0, is.1)) (update u out d)

    -- ---- all of it

    module _ (in_flight : Option (Stamped Status)) (out : HasOut s group in_flight device media) where
      descriptors : (d : ℕ) → descriptor_on image d ≡ descriptor_on base d
      unfolding descriptor_on
      descriptors d = newest_stays Descriptor descriptor_of kind.Descriptor base image d
          (record { same = crash.same; each = λ e at. ⊎_elim (λ same. inl same) (λ is. inr (out.descriptors e at (image.sector e at) is)) (crash.each e at) })

      rest : contents_of image ≡ record (contents_of base) { status = status_on image; note = note_on image; block = data_at image }
      rest =
          let disks : image.disks ≡ base.disks = crash.same.disks in
          let size : (d : ℕ) → image.size d ≡ base.size d = crash.same.size in
          let descriptor : (d : ℕ) → descriptor_on image d ≡ descriptor_on base d = descriptors in
          λ t. record { disks = disks t; size = λ d. size d t; descriptor = λ d. descriptor d t; status = status_on image; note = note_on image; block = data_at image }

      blocks : (lv b : ℕ) (p : Pp) → IsTrue (s.is_copy lv b p) → (block_at (contents_of image) group.mib p b ≡ block_at (contents_of base) group.mib p b)
          ⊎ Brings s lv b p (block_at (contents_of image) group.mib p b) ⊎ CopyBrings s lv b p (block_at (contents_of image) group.mib p b)
      blocks lv b p copy =
          subst (λ v. (v ≡ block_at (contents_of base) group.mib p b) ⊎ Brings s lv b p v ⊎ CopyBrings s lv b p v) (sym (blocks_are_sectors image group.mib b p)) (⊎_elim
          (λ same. inl (same ∙ sym (blocks_are_sectors base group.mib b p)))
          (λ is. inr (out.blocks lv b p (image.sector p.disk (sector_of group.mib p.pp b)) copy is))
          (crash.each p.disk (sector_of group.mib p.pp b)))

      notes : (d : ℕ) → (note_on image d ≡ note_on base d) ⊎ ((n : Groups) × (s.flying_note d ≡ Some n) × ((lv track_group : ℕ) → is_named (contents_of image) d lv track_group ≡ n lv track_group))
      unfolding note_on
      notes d = ⊎_elim
          (λ same. inl (note-same base image d crash.same same))
          (λ is. by_room (has_records image d) refl (out.notes d (image.sector d note_sector) is))
          (crash.each d note_sector)
        where
          by_room : (t : Bool) → has_records image d ≡ t → (n : Groups) × (s.flying_note d ≡ Some n) × ((lv track_group : ℕ) → names_if (note_in (image.sector d note_sector)) lv track_group ≡ n lv track_group)
              → ((if has_records image d then note_in (image.sector d note_sector) else None) ≡ (if has_records base d then note_in (base.sector d note_sector) else None))
              ⊎ ((n : Groups) × (s.flying_note d ≡ Some n) × ((lv track_group : ℕ) → names_if (if has_records image d then note_in (image.sector d note_sector) else None) lv track_group ≡ n lv track_group))
          by_room true room is = inr (is.0, is.1, λ lv g. ap (λ t. names_if (if t then note_in (image.sector d note_sector) else None) lv g) room ∙ is.2 lv g)
          by_room false room is = inl (ap (λ t. if t then note_in (image.sector d note_sector) else None) room ∙ sym (ap (λ t. if t then note_in (base.sector d note_sector) else None) (sym (room-same base image crash.same d) ∙ room)))

      pub remain : MayRemain s group in_flight (contents_of base) (contents_of image)
      remain = record {
        kept = record {
          rest = rest;
          raw = λ d b none from. data_is image d b from ∙ ⊎_elim (λ same. same) (λ is. absurd (out.raw d b (image.sector d b) none from is)) (crash.each d b) ∙ sym (data_is base d b from);
        };
        blocks = blocks;
        notes = notes;
        statuses = statuses in_flight out.statuses;
      }

pub images_remain : CrashImagesRemain
images_remain s facts group in_flight device media image matches may = remain device media matches.told image may s group in_flight matches.out

images_agree : (votes : Votes) (s : ModelState) (facts : List Fact) (group : Descriptor) (in_flight : Option (Stamped Status)) (device : Device) (media : Media) (image : Image)
    → AreVotesOf group votes → Found votes s → EachViewAgrees s facts → Matches s facts group in_flight device media → MayLeave device image → Kept (contents_of image) facts
images_agree votes s facts group in_flight device media image are found agrees matches may = remains_kept votes s facts group in_flight (contents_of (image_of device.sizes media)) (contents_of image) are found agrees matches.describes
    (images_remain s facts group in_flight device media image matches may) (images_within image)

pub images_kept : CrashImagesAreKept
images_kept votes s group in_flight device media image are good matches may = images_agree votes s s.facts group in_flight device media image are good.found (core_kept s good.sound) matches may

pub last_images_kept : LastImagesAreKept
last_images_kept votes s facts group in_flight device media image are good over matches may = images_agree votes s facts group in_flight device media image are good.found over.kept matches may
