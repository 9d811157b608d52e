-- A disk that left goes on showing the next descriptor while a status is written to the others.
use Rattle.std.proofs.Common.{◌≡◌, ⊎_elim, ℕ, ◌<◌, ◌^◌, ◌-◌, Bool, None, ◌∙◌, ap, arith}
use Rattle.std.specs.Prelude.{IsFalse, if◌then◌else◌}
use Rattle.lvm_num.specs.declared.record.Kind.TheVariants as kind
use Rattle.lvm_num.specs.declared.descriptor.Descriptor.{Descriptor}
use Rattle.lvm_num.specs.DescriptorBytes.{descriptor_of}
use Rattle.lvm_num.proofs.Booleans.{clash}
use Rattle.lvm_rec.specs.declared.homes.Homes.{Homes}
use Rattle.lvm_rec.specs.Slots.{slot_for, newest_on}
use Rattle.lvm_disk.specs.Counts.{Rose}
use Rattle.lvm_disk.specs.Device.{Image}
use Rattle.lvm_kept.specs.Contents.{descriptor_on, has_records}
use Rattle.lvm_kept.specs.Plans.{ChangesBy}
use Rattle.lvm_kept.proofs.PlacesLemmas.{room-same}
use Rattle.lvm_status.specs.Update.{Stored}
use Rattle.lvm_commit.specs.Settling.{there, IsOfStatus}
use Rattle.lvm_change_laws.specs.Rule.{IsShownOn}

-- a count below its last value that rose isn't the same
pub not_risen : (a b : ℕ) → a < 2 ^ 64 - 1 → Rose a b → b ≡ a → ⊥
not_risen a b low rose same = let risen = rose.risen in grind (arith, low, risen, same)

module _ (first last : Stored) (next : Descriptor) (homes : Homes) (a b : Image) (by : ChangesBy (IsOfStatus first last) a b) (disk : ℕ) (apart : IsFalse (there first disk)) where
  sector_same : (s : ℕ) → b.sector disk s ≡ a.sector disk s
  sector_same s = ⊎_elim (λ same. same) (λ (it : IsOfStatus first last disk s (b.sector disk s)). absurd (clash (there first disk) (it.2.targets disk it.2.its.target) apart)) (by.each disk s)

  pub shown_same : descriptor_on b disk ≡ descriptor_on a disk
  unfolding descriptor_on
  shown_same = ap (λ (t : Bool). if t then newest_on descriptor_of kind.Descriptor (b.sector disk) else None) (room-same a b by.same disk)
      ∙ (λ t. if has_records a disk then newest_on descriptor_of kind.Descriptor (λ s. sector_same s t) else None)

  pub still_shown : IsShownOn a next homes disk → IsShownOn b next homes disk
  still_shown is = record {
    record_is = is.record_is;
    value = is.value;
    shown = shown_same ∙ is.shown;
    older = (λ t. slot_for descriptor_of kind.Descriptor (λ s. sector_same s t)) ∙ is.older;
  }
