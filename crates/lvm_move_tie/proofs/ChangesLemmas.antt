-- What a commit leaves of the disks beside its records.
use Rattle.std.proofs.Common.{◌≡◌, ⊎_elim, ℕ, ◌+◌, ◌<◌, ◌≤◌, List, length, arith}
use Rattle.std.specs.Prelude.{IsFalse}
use Rattle.lvm_num.specs.declared.record.Kind.{Kind}
use Rattle.lvm_num.specs.declared.record.Kind.TheVariants as kind
use Rattle.lvm_num.specs.Buffer.{Sector}
use Rattle.lvm_num.specs.DescriptorBytes.{descriptor_of}
use Rattle.lvm_num.specs.Geometry.{data_start}
use Rattle.lvm_num.specs.Record.{slot_size, slot_start}
use Rattle.lvm_num.proofs.Booleans.{clash_gives}
use Rattle.lvm_num.proofs.TornLemmas.Torn.{sectors-fit}
use Rattle.lvm_disk.specs.Device.{Image}
use Rattle.lvm_kept.specs.Contents.{data_at, descriptor_on, note_on, note_sector}
use Rattle.lvm_kept.specs.Places.{SameData}
use Rattle.lvm_kept.specs.Plans.{ChangesBy}
use Rattle.lvm_kept.proofs.PlacesLemmas.{at-same, newest-same, note-same, record_writes}
use Rattle.lvm_status.specs.Update.{Stored}
use Rattle.lvm_commit.specs.Settling.{IsOfCommit, there}

-- a sector of a record stands in its slot, below the data and behind the note
record IsInSlot (s : ℕ) : Type 0 where
  behind : 64 ≤ s
  below : s < data_start

in_slot : (k : Kind) (slot part s : ℕ) → slot < 2 → part < slot_size k → s ≡ slot_start k slot + part → IsInSlot s
in_slot kind.Descriptor slot part s two low is = record { behind = omega (arith, is); below = omega (arith, two, low, is) }
in_slot kind.Status slot part s two low is = record { behind = omega (arith, is); below = omega (arith, two, low, is) }

module _ (content : List ℕ) (first last : Stored) (old new : Image) (changes : ChangesBy (IsOfCommit content first last) old new) where
  placed : (d s : ℕ) (value : Sector) → IsOfCommit content first last d s value → IsInSlot s
  placed d s value is =
      let fit = sectors-fit is.0.kind (length is.0.framed.content) is.2.frames.content in
      let inside = is.2.its.its.inside in
      in_slot is.0.kind (is.0.slots d) is.2.its.its.part s (is.2.slots d) (omega (arith, fit, inside)) is.2.its.its.place

  same_at : (d s : ℕ) → (IsInSlot s → new.sector d s ≡ old.sector d s) → new.sector d s ≡ old.sector d s
  same_at d s other = ⊎_elim (λ same. same) (λ is. other (placed d s (new.sector d s) is)) (changes.each d s)

  same_data : SameData old new
  same_data d s from = same_at d s (λ at. absurd (let low = at.below in omega (arith, from, low)))

  pub blocks_stay : data_at new ≡ data_at old
  blocks_stay = record_writes old new same_data

  pub notes_stay : (d : ℕ) → note_on new d ≡ note_on old d
  notes_stay d = note-same old new d changes.same (same_at d note_sector (λ at. absurd (let low = at.behind in omega (arith, low))))

  -- a disk that isn't written shows its descriptor still
  pub descriptor_stays : (d : ℕ) → IsFalse (there first d) → descriptor_on new d ≡ descriptor_on old d
  unfolding descriptor_on
  descriptor_stays d away = at-same descriptor_of kind.Descriptor old new d changes.same (newest-same descriptor_of kind.Descriptor (old.sector d) (new.sector d) (λ slot s two from to. untouched s))
    where
      untouched : (s : ℕ) → new.sector d s ≡ old.sector d s
      untouched s = ⊎_elim (λ same. same) (λ is. clash_gives (there first d) (is.2.targets d is.2.its.target) away) (changes.each d s)
