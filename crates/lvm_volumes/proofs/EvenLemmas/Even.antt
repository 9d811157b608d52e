-- Group commands keep usable copies even, by what they may write.
use Rattle.std.proofs.Common.{◌≡◌, ◌⊎◌, inl, inr, ⊎_elim, ℕ, zero, suc, ◌+◌, ◌<◌, ◌≤◌, Bool, true, false, List, [], length, Option, Some, refl, sym, ap, subst, ◌∙◌, arith}
use Rattle.std.specs.Prelude.{IsTrue, IsFalse, nat_lt, if◌then◌else◌}
use Rattle.std.proofs.lemmas.Bool.{cases_Bool}
use Rattle.std.proofs.lemmas.Bool.Decides.{nat_tests}
use Rattle.lvm_num.specs.declared.place.Pp.{Pp}
use Rattle.lvm_num.specs.declared.record.Kind.{Kind}
use Rattle.lvm_num.specs.declared.record.Kind.TheVariants as kind
use Rattle.lvm_num.specs.declared.descriptor.LvRow.{LvRow}
use Rattle.lvm_num.specs.declared.descriptor.Descriptor.{Descriptor}
use Rattle.lvm_num.specs.declared.status.Status.{Status}
use Rattle.lvm_num.specs.Buffer.{Sector}
use Rattle.lvm_num.specs.Descriptor.{copies_of}
use Rattle.lvm_num.specs.DescriptorBytes.{descriptor_bytes}
use Rattle.lvm_num.specs.Geometry.{data_start}
use Rattle.lvm_num.specs.Record.{Stamped, slot_start, longest_content, record_sectors}
use Rattle.lvm_num.specs.Status.{calls_stale}
use Rattle.lvm_disk.specs.Device.{Media, Image, image_of}
use Rattle.lvm_disk.specs.Steps.{BothTold}
use Rattle.lvm_kept.specs.Contents.{data_at, contents_of}
use Rattle.lvm_kept.specs.Group.{IsOneOf}
use Rattle.lvm_kept.specs.Plans.{ChangesBy}
use Rattle.lvm_commit.specs.LawsOfData.{IsFree, IsSectorOf}
use Rattle.lvm_commit.specs.Settling.{IsOfStatus, IsOfCommit}
use Rattle.lvm_write.specs.Written.{KeepsShelf}
use Rattle.lvm_session.specs.State.{State, is_there}
use Rattle.lvm_core.specs.Leaves.{NoVolume}
use Rattle.lvm_volumes.specs.passed.Core.{NoPartition, IsOfCommand, KeepsStatus}
use Rattle.lvm_volumes.specs.passed.VolumePlan.{without_volume}
use Rattle.lvm_volumes.specs.Volumes.{IsWith, IsChosen}
use Rattle.lvm_even.specs.Even.{IsEven}
use Rattle.lvm_even.specs.Commands.{IsUsable}
use Rattle.lvm_commit.proofs.AmongLemmas.{contains, of_map, of_rows}
use Rattle.lvm_steps.proofs.RecordLemmas.{clash}
use Rattle.lvm_even.proofs.CommandsLemmas.{free_keeps_even}
use Rattle.lvm_volumes.specs.Even.{AreWanted, MklvKeepsEven, RmlvKeepsEven}

-- records stand below the data
record_low : (kind : Kind) (slot part len s : ℕ) → slot < 2 → len ≤ longest_content kind → part < record_sectors len → s ≡ slot_start kind slot + part → s < data_start
record_low kind.Descriptor zero part len s two fits inside place = omega (arith, fits, inside, place)
record_low kind.Descriptor (suc zero) part len s two fits inside place = omega (arith, fits, inside, place)
record_low kind.Descriptor (suc (suc slot)) part len s two fits inside place = absurd (omega (arith, two))
record_low kind.Status zero part len s two fits inside place = omega (arith, fits, inside, place)
record_low kind.Status (suc zero) part len s two fits inside place = omega (arith, fits, inside, place)
record_low kind.Status (suc (suc slot)) part len s two fits inside place = absurd (omega (arith, two))

module _ (N : Descriptor → Type 0) (S Z : Pp → Type 0) (D : ℕ → Type 0) (old new : State) (was is : Media) (stood stands : Stamped Status) (writes : KeepsShelf (is_there old.core) (IsOfCommand N Z old new) old.device new.device) (status : KeepsStatus N S Z D old new) (free : (pp : Pp) → Z pp → IsFree old.core.descriptor pp)
    (told : old.device.media ≡ Some was) (told_new : new.device.media ≡ Some is) (wanted : AreWanted old new stood stands) where
  low_status : (d s : ℕ) (value : Sector) → IsOfStatus old.core.status new.core.status d s value → s < data_start
  low_status d s value of = let w = of.0 in record_low w.kind (w.slots d) of.2.its.its.part (length w.framed.content) s (of.2.slots d) of.2.frames.content of.2.its.its.inside of.2.its.its.place

  low_commit : (content : List ℕ) (d s : ℕ) (value : Sector) → IsOfCommit content old.core.status new.core.status d s value → s < data_start
  low_commit content d s value of = let w = of.0 in record_low w.kind (w.slots d) of.2.its.its.part (length w.framed.content) s (of.2.slots d) of.2.frames.content of.2.its.its.inside of.2.its.its.place

  change : ChangesBy (IsOfCommand N Z old new) (image_of old.device.sizes was) (image_of new.device.sizes is)
  change = subst (λ (m : Option Media). BothTold m (Some is) (λ a b. ChangesBy (IsOfCommand N Z old new) (image_of old.device.sizes a) (image_of new.device.sizes b))) told
      (subst (λ (m : Option Media). BothTold old.device.media m (λ a b. ChangesBy (IsOfCommand N Z old new) (image_of old.device.sizes a) (image_of new.device.sizes b))) told_new writes.media)

  abbrev before : Image
  before = image_of old.device.sizes was

  abbrev after : Image
  after = image_of new.device.sizes is

  only_free : (d s : ℕ) → (data_at after d s ≡ data_at before d s) ⊎ ((pp : Pp) × IsFree old.core.descriptor pp × IsSectorOf old.core.descriptor.mib pp d s)
  only_free d s = by (nat_lt s data_start) refl
    where
      at : (image : Image) (t : Bool) → nat_lt s data_start ≡ t → data_at image d s ≡ (if t then [] else image.sector d s)
      at image t e = ap (λ (b : Bool). if b then [] else image.sector d s) e

      above : IsFalse (nat_lt s data_start) → s < data_start → ⊥
      above no_ lower = absurd (grind (arith, nat_tests))

      by : (t : Bool) → nat_lt s data_start ≡ t → (data_at after d s ≡ data_at before d s) ⊎ ((pp : Pp) × IsFree old.core.descriptor pp × IsSectorOf old.core.descriptor.mib pp d s)
      by true e = inl (at after true e ∙ sym (at before true e))
      by false e = ⊎_elim
          (λ (same : after.sector d s ≡ before.sector d s). inl (at after false e ∙ same ∙ sym (at before false e)))
          (λ (brought : IsOfCommand N Z old new d s (after.sector d s)). ⊎_elim
          (λ of. absurd (above e (low_status d s (after.sector d s) of)))
          (⊎_elim
          (λ of. absurd (above e (low_commit (descriptor_bytes of.0) d s (after.sector d s) of.2)))
          (λ of. inr (of.0, free of.0 of.1, of.2.0)))
          brought)
          (change.each d s)

  fewer : (row : LvRow) (lp : ℕ) (p : Pp) → IsOneOf old.core.descriptor.lvs row → IsOneOf (copies_of row lp) p → IsUsable (Some stands) (is_there new.core) p → IsUsable (Some stood) (is_there old.core) p
  fewer row lp p one copy usable = record {
    in_there = wanted.fewer p.disk usable.in_there;
    fresh = ap (λ (s : Status). calls_stale s p) wanted.before ∙ ⊎_elim
        (λ (stale : IsTrue (calls_stale old.core.status.wanted p)). absurd (clash (calls_stale new.core.status.wanted p)
        (status.stale p (λ chosen. free p chosen (contains _ p (of_rows old.core.descriptor.lvs row p one (of_map row lp p copy)))) stale)
        (sym (ap (λ (s : Status). calls_stale s p) wanted.after) ∙ usable.fresh)))
        (λ isnt. isnt)
        (cases_Bool (calls_stale old.core.status.wanted p));
  }

  pub kept_even : IsEven (contents_of before) old.core.descriptor (Some stood) (is_there old.core) → IsEven (contents_of after) old.core.descriptor (Some stands) (is_there new.core)
  kept_even even = free_keeps_even (contents_of before) (contents_of after) old.core.descriptor (Some stood) (Some stands) (is_there old.core) (is_there new.core) fewer only_free even

pub mklv_keeps_even : MklvKeepsEven
mklv_keeps_even v old new was is stood stands writes status free told told_new wanted even = kept_even (IsWith v old.core) NoPartition (IsChosen v old.core) NoVolume old new was is stood stands writes status free told told_new wanted even

pub rmlv_keeps_even : RmlvKeepsEven
rmlv_keeps_even lv old new was is stood stands writes status told told_new wanted even =
    kept_even (λ next. next ≡ without_volume old.core.descriptor lv) NoPartition NoPartition (λ n. n ≡ lv) old new was is stood stands writes status (λ pp none. absurd none) told told_new wanted even
