-- What disks show while the parts of a beginning are written: the old records or the new ones.
use Rattle.std.proofs.Common.{◌≡◌, ◌⊎◌, inl, inr, ⊎_elim, ℕ, List, Some, IsTrue, arith}
use Rattle.lvm_num.specs.declared.descriptor.Descriptor.{Descriptor}
use Rattle.lvm_num.specs.declared.status.Status.{Status}
use Rattle.lvm_num.specs.DescriptorBytes.{descriptor_of}
use Rattle.lvm_num.specs.StatusBytes.{status_of}
use Rattle.lvm_disk.specs.Device.{Image}
use Rattle.lvm_kept.specs.Contents.{contents_of, descriptor_on, status_on, note_on, data_at}
use Rattle.lvm_kept.specs.Plans.{ChangesBy}
use Rattle.lvm_kept.specs.Torn.{MayWriteAll, IsOtherOrRecord, written as as_read, StandsOn}
use Rattle.lvm_kept.proofs.PlacesLemmas.{data-same}
use Rattle.lvm_kept.proofs.TornLemmas.Records.{newest_is, whole_is_new}
use Rattle.lvm_write.proofs.WrittenLemmas.Writing.{changes_more}
use Rattle.lvm_write.specs.Beginning.{Beginning, Part, describes, states, IsOfParts}
use Rattle.lvm_write.proofs.TornLemmas.{beside_descriptors, beside_statuses, below_data}

module _ (b : Beginning) (group : Descriptor) (status : Status) (parts : List Part) (old new : Image)
    (describe : MayWriteAll Descriptor descriptor_of (describes b) group old) (state : MayWriteAll Status status_of (states b) status old) (by : ChangesBy (IsOfParts b parts) old new) where
  by_descriptor : ChangesBy (IsOtherOrRecord (describes b)) old new
  by_descriptor = changes_more (IsOfParts b parts) (IsOtherOrRecord (describes b)) old new (beside_descriptors b describe.frames.content state.frames.content parts) by

  by_status : ChangesBy (IsOtherOrRecord (states b)) old new
  by_status = changes_more (IsOfParts b parts) (IsOtherOrRecord (states b)) old new (beside_statuses b describe.frames.content state.frames.content parts) by

  pub descriptors_show : (d : ℕ) → (descriptor_on new d ≡ descriptor_on old d) ⊎ (IsTrue (b.targets d) × (descriptor_on new d ≡ Some (as_read (describes b) group)))
  unfolding descriptor_on
  descriptors_show d = ⊎_elim (λ same. inl same) (λ is. inr (is.0, is.1)) (newest_is Descriptor descriptor_of (describes b) group old new d describe by_descriptor)

  pub statuses_show : (d : ℕ) → (status_on new d ≡ status_on old d) ⊎ (IsTrue (b.targets d) × (status_on new d ≡ Some (as_read (states b) status)))
  unfolding status_on
  statuses_show d = ⊎_elim (λ same. inl same) (λ is. inr (is.0, is.1)) (newest_is Status status_of (states b) status old new d state by_status)

  pub descriptor_is : (d : ℕ) → IsTrue (b.targets d) → StandsOn (describes b) new d → descriptor_on new d ≡ Some (as_read (describes b) group)
  unfolding descriptor_on
  descriptor_is d target stands = whole_is_new Descriptor descriptor_of (describes b) group old new d describe by_descriptor target stands

  pub status_is : (d : ℕ) → IsTrue (b.targets d) → StandsOn (states b) new d → status_on new d ≡ Some (as_read (states b) status)
  unfolding status_on
  status_is d target stands = whole_is_new Status status_of (states b) status old new d state by_status target stands

  -- all else is as it was
  pub rest_shows : contents_of new ≡ record (contents_of old) { descriptor = descriptor_on new; status = status_on new; note = note_on new }
  rest_shows =
      let disks : new.disks ≡ old.disks = by.same.disks in
      let size : (d : ℕ) → new.size d ≡ old.size d = by.same.size in
      let blocks : (d s : ℕ) → data_at new d s ≡ data_at old d s = data-same old new (λ d s high. ⊎_elim
      (λ same. same)
      (λ (is : IsOfParts b parts d s (new.sector d s)). absurd (let low = below_data b describe.frames.content state.frames.content parts d s (new.sector d s) is in omega (arith, low, high)))
      (by.each d s)) in
      λ t. record { disks = disks t; size = λ d. size d t; descriptor = descriptor_on new; status = status_on new; note = note_on new; block = λ d s. blocks d s t }
