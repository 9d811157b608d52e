-- Records stand below the data, so a command that writes records alone leaves data as it was, and usable copies even.
use Rattle.std.proofs.Common.{◌≡◌, inl, inr, ⊎_elim, ℕ, ◌+◌, ◌<◌, ◌≤◌, List, length, Some, sym, ap, subst, ◌∙◌, arith}
use Rattle.std.specs.Prelude.{IsTrue}
use Rattle.std.proofs.lemmas.Bool.{cases_Bool}
use Rattle.lvm_num.specs.declared.descriptor.Descriptor.{Descriptor}
use Rattle.lvm_num.specs.declared.descriptor.LvRow.{LvRow}
use Rattle.lvm_num.specs.declared.place.Pp.{Pp}
use Rattle.lvm_num.specs.declared.record.Kind.{Kind}
use Rattle.lvm_num.specs.declared.record.Kind.TheVariants as kind
use Rattle.lvm_num.specs.declared.status.Status.{Status}
use Rattle.lvm_num.specs.Buffer.{Sector}
use Rattle.lvm_num.specs.Descriptor.{copies_of}
use Rattle.lvm_num.specs.DescriptorBytes.{descriptor_bytes}
use Rattle.lvm_num.specs.Geometry.{data_start}
use Rattle.lvm_num.specs.Record.{Stamped, longest_content, record_sectors, slot_start}
use Rattle.lvm_num.specs.Status.{calls_stale}
use Rattle.lvm_num.proofs.Booleans.{clash}
use Rattle.lvm_disk.specs.Device.{Image, Media, image_of}
use Rattle.lvm_kept.specs.Contents.{contents_of}
use Rattle.lvm_kept.specs.Group.{IsOneOf}
use Rattle.lvm_kept.specs.Plans.{ChangesBy}
use Rattle.lvm_kept.proofs.PlacesLemmas.{data-same}
use Rattle.lvm_steps.proofs.LawsLemmas.Writes.{slot_below}
use Rattle.lvm_commit.specs.Settling.{IsOfCommit, IsOfStatus}
use Rattle.lvm_even.specs.Commands.{IsUsable}
use Rattle.lvm_even.proofs.CommandsLemmas.{free_keeps_even}
use Rattle.lvm_even.specs.Even.{IsEven}
use Rattle.lvm_volumes.specs.Even.{AreWanted}
use Rattle.lvm_session.specs.State.{State, is_there}
use Rattle.lvm_handover.specs.passed.Core.{IsOfCommand, NoPartition}

record_low : (kind : Kind) (slot part len s : ℕ) → slot < 2 → len ≤ longest_content kind → part < record_sectors len → s ≡ slot_start kind slot + part → s < data_start
record_low kind.Descriptor slot part len s two fits inside place = subst (λ (n : ℕ). n < data_start) (sym place) (slot_below kind.Descriptor slot part two (omega (arith, fits, inside)))
record_low kind.Status slot part len s two fits inside place = subst (λ (n : ℕ). n < data_start) (sym place) (slot_below kind.Status slot part two (omega (arith, fits, inside)))

module _ (N : Descriptor → Type 0) (old new : State) where
  low_status : (d s : ℕ) (value : Sector) → IsOfStatus old.core.status new.core.status d s value → s < data_start
  low_status d s value of = let w = of.0 in let fits = of.2.frames.content in record_low w.kind (w.slots d) of.2.its.its.part (length w.framed.content) s (of.2.slots d) fits of.2.its.its.inside of.2.its.its.place

  low_commit : (content : List ℕ) (d s : ℕ) (value : Sector) → IsOfCommit content old.core.status new.core.status d s value → s < data_start
  low_commit content d s value of = let w = of.0 in let fits = of.2.frames.content in record_low w.kind (w.slots d) of.2.its.its.part (length w.framed.content) s (of.2.slots d) fits of.2.its.its.inside of.2.its.its.place

  -- so a command that writes records alone leaves data as it was
  pub data_stays : (was is : Image) → ChangesBy (IsOfCommand N NoPartition old new) was is → (d s : ℕ) → (contents_of is).block d s ≡ (contents_of was).block d s
  data_stays was is change = data-same was is (λ d s high. ⊎_elim
      (λ same. same)
      (λ (brought : IsOfCommand N NoPartition old new d s (is.sector d s)). absurd (below d s (is.sector d s) high brought))
      (change.each d s))
    where
      below : (d s : ℕ) (value : Sector) → data_start ≤ s → IsOfCommand N NoPartition old new d s value → ⊥
      below d s value high (inl of) = let low = low_status d s value of in omega (arith, high, low)
      below d s value high (inr (inl of)) = let low = low_commit (descriptor_bytes of.0) d s value of.2 in omega (arith, high, low)
      below d s value high (inr (inr of)) = absurd of.1

-- ---- usable copies

module _ (N : Descriptor → Type 0) (old new : State) (was is : Media) (stood stands : Stamped Status) (wanted : AreWanted old new stood stands)
    (stale : (p : Pp) → IsTrue (calls_stale old.core.status.wanted p) → IsTrue (calls_stale new.core.status.wanted p)) where
  fewer : (row : LvRow) (lp : ℕ) (p : Pp) → IsOneOf old.core.descriptor.lvs row → IsOneOf (copies_of row lp) p → IsUsable (Some stands) (is_there new.core) p → IsUsable (Some stood) (is_there old.core) p
  fewer row lp p one copy usable = record {
    in_there = wanted.fewer p.disk usable.in_there;
    fresh = ap (λ (s : Status). calls_stale s p) wanted.before ∙ ⊎_elim
        (λ (was : IsTrue (calls_stale old.core.status.wanted p)). absurd (clash (calls_stale new.core.status.wanted p) (stale p was) (sym (ap (λ (s : Status). calls_stale s p) wanted.after) ∙ usable.fresh)))
        (λ isnt. isnt)
        (cases_Bool (calls_stale old.core.status.wanted p));
  }

  -- those that were even are so, where no mark was lost
  pub records_keep_even : ChangesBy (IsOfCommand N NoPartition old new) (image_of old.device.sizes was) (image_of new.device.sizes is)
      → IsEven (contents_of (image_of old.device.sizes was)) old.core.descriptor (Some stood) (is_there old.core) → IsEven (contents_of (image_of new.device.sizes is)) old.core.descriptor (Some stands) (is_there new.core)
  records_keep_even change = free_keeps_even (contents_of (image_of old.device.sizes was)) (contents_of (image_of new.device.sizes is)) old.core.descriptor (Some stood) (Some stands) (is_there old.core) (is_there new.core) fewer
      (λ d s. inl (data_stays N old new (image_of old.device.sizes was) (image_of new.device.sizes is) change d s))
