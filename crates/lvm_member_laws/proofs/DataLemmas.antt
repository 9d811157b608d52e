-- A change of members writes no data, so usable copies stay even.
use Rattle.std.proofs.Common.{◌≡◌, inl, inr, ⊎_elim, ℕ, ◌+◌, ◌<◌, ◌≤◌, List, length, Some, sym, ap, subst, ◌∙◌, arith}
use Rattle.std.specs.Prelude.{IsTrue}
use Rattle.std.proofs.lemmas.Bool.{cases_Bool}
use Rattle.lvm_num.specs.declared.descriptor.Descriptor.{Descriptor}
use Rattle.lvm_num.specs.declared.descriptor.LvRow.{LvRow}
use Rattle.lvm_num.specs.declared.place.Pp.{Pp}
use Rattle.lvm_num.specs.declared.record.Kind.{Kind}
use Rattle.lvm_num.specs.declared.record.Kind.TheVariants as kind
use Rattle.lvm_num.specs.declared.status.Status.{Status}
use Rattle.lvm_num.specs.Buffer.{Sector}
use Rattle.lvm_num.specs.Descriptor.{copies_of}
use Rattle.lvm_num.specs.DescriptorBytes.{descriptor_bytes}
use Rattle.lvm_num.specs.Geometry.{data_start}
use Rattle.lvm_num.specs.Record.{Stamped, longest_content, record_sectors, slot_start}
use Rattle.lvm_num.specs.Status.{calls_stale}
use Rattle.lvm_num.proofs.Booleans.{clash}
use Rattle.lvm_disk.specs.Device.{Image, Media, image_of}
use Rattle.lvm_kept.specs.Contents.{contents_of}
use Rattle.lvm_kept.specs.Group.{IsOneOf}
use Rattle.lvm_kept.specs.Plans.{ChangesBy}
use Rattle.lvm_kept.proofs.PlacesLemmas.{data-same}
use Rattle.lvm_steps.proofs.LawsLemmas.Writes.{slot_below}
use Rattle.lvm_erase.specs.Erasing.{ZeroesSlots}
use Rattle.lvm_commit.specs.Settling.{IsOfCommit, IsOfStatus}
use Rattle.lvm_even.specs.Commands.{IsUsable}
use Rattle.lvm_even.specs.Even.{IsEven}
use Rattle.lvm_even.proofs.CommandsLemmas.{free_keeps_even}
use Rattle.lvm_volumes.specs.Even.{AreWanted}
use Rattle.lvm_session.specs.State.{State, is_there}
use Rattle.lvm_members.specs.passed.Turnover.{IsOfChange}

zeroed_below : (disk d s : ℕ) (value : Sector) → ZeroesSlots disk d s value → s < data_start
zeroed_below disk d s value (slot, two, zeroes) = subst (λ (n : ℕ). n < data_start) (sym zeroes.1) (omega (arith, slot_below kind.Descriptor slot 0 two (omega arith)))

record_below : (kind : Kind) (slot part len s : ℕ) → slot < 2 → len ≤ longest_content kind → part < record_sectors len → s ≡ slot_start kind slot + part → s < data_start
record_below kind.Descriptor slot part len s two fits inside place = subst (λ (n : ℕ). n < data_start) (sym place) (slot_below kind.Descriptor slot part two (omega (arith, fits, inside)))
record_below kind.Status slot part len s two fits inside place = subst (λ (n : ℕ). n < data_start) (sym place) (slot_below kind.Status slot part two (omega (arith, fits, inside)))

module _ (N : Descriptor → Type 0) (joins erases : List ℕ) (old new : State) where
  status_below : (d s : ℕ) (value : Sector) → IsOfStatus old.core.status new.core.status d s value → s < data_start
  status_below d s value of = let w = of.0 in let fits = of.2.frames.content in record_below w.kind (w.slots d) of.2.its.its.part (length w.framed.content) s (of.2.slots d) fits of.2.its.its.inside of.2.its.its.place

  commit_below : (content : List ℕ) (d s : ℕ) (value : Sector) → IsOfCommit content old.core.status new.core.status d s value → s < data_start
  commit_below content d s value of = let w = of.0 in let fits = of.2.frames.content in record_below w.kind (w.slots d) of.2.its.its.part (length w.framed.content) s (of.2.slots d) fits of.2.its.its.inside of.2.its.its.place

  -- records and the heads of slots stand below the data
  below_data : (d s : ℕ) (value : Sector) → IsOfChange N joins erases old new d s value → s < data_start
  below_data d s value (inl of) = status_below d s value of
  below_data d s value (inr (inl of)) = commit_below (descriptor_bytes of.0) d s value of.2
  below_data d s value (inr (inr of)) = zeroed_below d d s value of.1

  data_stays : (was is : Image) → ChangesBy (IsOfChange N joins erases old new) was is → (d s : ℕ) → (contents_of is).block d s ≡ (contents_of was).block d s
  data_stays was is change = data-same was is (λ d s high. ⊎_elim
      (λ same. same)
      (λ (brought : IsOfChange N joins erases old new d s (is.sector d s)). let low = below_data d s (is.sector d s) brought in absurd (omega (arith, high, low)))
      (change.each d s))

  module _ (was is : Media) (stood stands : Stamped Status) (wanted : AreWanted old new stood stands)
      (stale : (p : Pp) → IsTrue (is_there new.core p.disk) → IsTrue (calls_stale old.core.status.wanted p) → IsTrue (calls_stale new.core.status.wanted p)) where
    fewer : (row : LvRow) (lp : ℕ) (p : Pp) → IsOneOf old.core.descriptor.lvs row → IsOneOf (copies_of row lp) p → IsUsable (Some stands) (is_there new.core) p → IsUsable (Some stood) (is_there old.core) p
    fewer row lp p one copy usable = record {
      in_there = wanted.fewer p.disk usable.in_there;
      fresh = ap (λ (s : Status). calls_stale s p) wanted.before ∙ ⊎_elim
          (λ (was : IsTrue (calls_stale old.core.status.wanted p)). absurd (clash (calls_stale new.core.status.wanted p) (stale p usable.in_there was) (sym (ap (λ (s : Status). calls_stale s p) wanted.after) ∙ usable.fresh)))
          (λ isnt. isnt)
          (cases_Bool (calls_stale old.core.status.wanted p));
    }

    -- those that were even are so, where no mark on a member that is there was lost
    pub change_keeps_even : ChangesBy (IsOfChange N joins erases old new) (image_of old.device.sizes was) (image_of new.device.sizes is)
        → IsEven (contents_of (image_of old.device.sizes was)) old.core.descriptor (Some stood) (is_there old.core) → IsEven (contents_of (image_of new.device.sizes is)) old.core.descriptor (Some stands) (is_there new.core)
    change_keeps_even change = free_keeps_even (contents_of (image_of old.device.sizes was)) (contents_of (image_of new.device.sizes is)) old.core.descriptor (Some stood) (Some stands) (is_there old.core) (is_there new.core) fewer
        (λ d s. inl (data_stays (image_of old.device.sizes was) (image_of new.device.sizes is) change d s))
