-- What may be found of the group of a tied session: its descriptor, and no other.
use Rattle.std.proofs.Common.{◌≡◌, ℕ, List, inl, inr, ⊎_elim, Option, subst}
use Rattle.std.specs.Prelude.{IfSome, IsSomeAnd, Some, None}
use Rattle.lvm_num.specs.DescriptorBytes.{descriptor_of}
use Rattle.lvm_num.specs.Votes.{all_disks}
use Rattle.lvm_num.specs.declared.descriptor.Descriptor.{Descriptor}
use Rattle.lvm_num.specs.declared.record.Kind.TheVariants as kind
use Rattle.lvm_disk.specs.Device.{Device, Image, IsCrashImage, Media, image_of}
use Rattle.lvm_vol.specs.Facts.{Fact}
use Rattle.lvm_kept.specs.Contents.{contents_of, data_at, descriptor_on, note_on, status_on}
use Rattle.lvm_kept.specs.Plans.{ChangesBy}
use Rattle.lvm_kept.specs.Torn.{IsOutsideSlots}
use Rattle.lvm_kept.proofs.TornLemmas.Records.{newest_stays}
use Rattle.lvm_steps.proofs.MakingLemmas.Making.{media_may}
use Rattle.lvm_commit.specs.Committed.{HoldsCommitted}
use Rattle.lvm_commit.specs.LawsOfFinding.{FindsNothingNew}
use Rattle.lvm_commit.proofs.LawsOfFindingLemmas.NoMore.{rest_finds_nothing_new}
use Rattle.lvm_core.specs.Held.{IsHeld}
use Rattle.lvm_core.specs.Leaves.{MayBeFound}
use Rattle.lvm_session.specs.State.{Core, State, is_there}
use Rattle.lvm_line.specs.passed.Tie.{IsTied, LeavesDescriptors}

-- what is written outside the slots of descriptors makes none found
module _ (old new : Image) (by : ChangesBy (IsOutsideSlots kind.Descriptor) old new) where
  same_descriptor : (d : ℕ) → descriptor_on new d ≡ descriptor_on old d
  unfolding descriptor_on
  same_descriptor d = newest_stays Descriptor descriptor_of kind.Descriptor old new d by

  found_so : FindsNothingNew (contents_of old) (contents_of new)
  found_so = rest_finds_nothing_new (contents_of old) (contents_of new) shown
    where
      shown : contents_of new ≡ record (contents_of old) { status = status_on new; note = note_on new; block = data_at new }
      shown =
          let disks : new.disks ≡ old.disks = by.same.disks in
          let size : (d : ℕ) → new.size d ≡ old.size d = by.same.size in
          λ t. record { disks = disks t; size = λ d. size d t; descriptor = λ d. same_descriptor d t; status = status_on new; note = note_on new; block = data_at new }

module _ (past : List Fact) (s : State) (tied : IsTied past s) where
  abbrev image : Image
  image = image_of s.device.sizes tied.media

  pub tied_only : LeavesDescriptors s.device → (k : Descriptor) → MayBeFound s.device s.core.descriptor.id k → k ≡ s.core.descriptor
  tied_only leaves k it =
      let may : IsCrashImage image s.device.flights it.0 = subst (λ (o : Option Media). IsSomeAnd o (λ media. IsCrashImage (image_of s.device.sizes media) s.device.flights it.0)) tied.setting.told it.1 in
      let by : ChangesBy (IsOutsideSlots kind.Descriptor) image it.0 = record { same = may.same; each = λ d at. ⊎_elim (λ still. inl still) (λ flies. inr (leaves d at (it.0.sector d at) flies)) (may.each d at) } in
      let found = found_so image it.0 by s.core.descriptor.id k it.2 in
      tied.describes.stands.only found.0 k found.1

  pub tied_found : MayBeFound s.device s.core.descriptor.id s.core.descriptor
  tied_found = (image, media_may s.device tied.media tied.setting.told, (all_disks, tied.describes.stands.found))

-- so it is of a session whose disks hold what it says is committed
pub held_only : (device : Device) (core : Core) → LeavesDescriptors device → IsHeld device core → (k : Descriptor) → MayBeFound device core.descriptor.id k → k ≡ core.descriptor
held_only device core leaves held k it = by_media device.media held it.1
  where
    by_media : (o : Option Media) → IfSome o (λ media. HoldsCommitted (image_of device.sizes media) core.descriptor core.status.committed (is_there core) core.status.stamp core.homes)
        → IsSomeAnd o (λ media. IsCrashImage (image_of device.sizes media) device.flights it.0) → k ≡ core.descriptor
    by_media None holds left = absurd left
    by_media (Some media) holds may =
        let by : ChangesBy (IsOutsideSlots kind.Descriptor) (image_of device.sizes media) it.0 = record { same = may.same; each = λ d at. ⊎_elim (λ still. inl still) (λ flies. inr (leaves d at (it.0.sector d at) flies)) (may.each d at) } in
        let found = found_so (image_of device.sizes media) it.0 by core.descriptor.id k it.2 in
        holds.shows.only found.0 k found.1
