-- Zeros, what disks show, and which records may be written, by the stamps that stand there.
use Rattle.std.proofs.Common.{◌≡◌, ⊎_elim, ℕ, ◌+◌, ◌^◌, ◌<◌, ◌≤◌, Bool, true, false, List, take, drop, get_or, Option, Some, None, Result, refl, sym, ◌∙◌, ap, subst, arith}
use Rattle.std.specs.Prelude.{IfSome, if◌then◌else◌}
use Rattle.std.proofs.lemmas.Bool.Decides.{nat_tests}
use Rattle.lvm_num.specs.declared.record.Stamp.{Stamp}
use Rattle.lvm_num.specs.declared.record.Kind.{Kind}
use Rattle.lvm_num.specs.declared.record.Kind.TheVariants as kind
use Rattle.lvm_num.specs.Buffer.{zero_sector}
use Rattle.lvm_num.specs.DescriptorBytes.{descriptor_of}
use Rattle.lvm_num.specs.StatusBytes.{status_of}
use Rattle.lvm_num.specs.Geometry.{data_start}
use Rattle.lvm_num.specs.Record.{Stamped, kind_magic, record_in, slot_start, slot_size, stamp_lt}
use Rattle.lvm_num.specs.Torn.{AreSectors, stamp_of}
use Rattle.lvm_num.proofs.TornLemmas.Fresh.{before_is_older}
use Rattle.lvm_num.proofs.RecordLemmas.Records.{below64, bytes-drop, bytes-take}
use Rattle.lvm_num.proofs.RecordLemmas.Newest.{of_two}
use Rattle.lvm_kept.specs.passed.Rec.{held, newest_on, slot_of}
use Rattle.lvm_kept.specs.passed.Disk.{Media, Image, AreSectors as AreWhole, image_of, IsWholeImage}
use Rattle.lvm_kept.proofs.passed.Rec.{held-record}
use Rattle.lvm_kept.specs.Changes.{IsBlank}
use Rattle.lvm_kept.specs.Contents.{has_records, newest_at, descriptor_on, status_on}
use Rattle.lvm_steps.specs.Behind.{StampsBefore, beginning_at}
use Rattle.lvm_steps.specs.Laws.{StandsBefore, BlankIsBefore, BlankIsBehind, AllIsBehindEnd, ShownIsBefore, LaterMayGo, SessionMayGo}
use Rattle.lvm_steps.proofs.LawsLemmas.Stamps.{if_told, session_is_before_later, later_is_after_too, later_is_ahead_too, behind_is_before}
use Rattle.lvm_steps.proofs.LawsLemmas.Writes.{slot_below}

-- ---- room for records

there_is : (image : Image) (d : ℕ) → has_records image d ≡ true → d < image.disks
there_is image d there = grind (arith, nat_tests)

large_is : (image : Image) (d : ℕ) → has_records image d ≡ true → data_start ≤ image.size d
large_is image d there = grind (arith, nat_tests)

inside : (image : Image) (d : ℕ) → has_records image d ≡ true → (kind : Kind) (slot k : ℕ) → slot < 2 → k < slot_size kind → slot_start kind slot + k < image.size d
inside image d there kind slot k two small = omega (arith, large_is image d there, slot_below kind slot k two small)

-- ---- zeros

no_magic : (kind : Kind) → take 2 zero_sector ≡ kind_magic kind → ⊥
no_magic kind.Descriptor e = absurd (omega (arith, ap (λ (l : List ℕ). get_or l 0 0) e))
no_magic kind.Status e = absurd (omega (arith, ap (λ (l : List ℕ). get_or l 0 0) e))

pub blank_is_before : BlankIsBefore
blank_is_before stamp image blank kind d slot there two k small magic =
    absurd (no_magic kind (ap (take 2) (sym (blank d (slot_start kind slot + k) (there_is image d there) (inside image d there kind slot k two small))) ∙ magic))

pub blank_is_behind : BlankIsBehind
blank_is_behind moment device = if_told
    (λ media. IsBlank (image_of device.sizes media))
    (λ media. StampsBefore (beginning_at moment) (image_of device.sizes media))
    (λ media. blank_is_before (beginning_at moment) (image_of device.sizes media))
    device.media

pub all_is_behind_end : AllIsBehindEnd
all_is_behind_end device = if_told (AreWhole device.sizes) (λ media. StampsBefore (beginning_at (2 ^ 64)) (image_of device.sizes media))
    (λ media whole kind d slot there two k small magic.
    let sector = media d (slot_start kind slot + k) in
    let bytes = (whole d (slot_start kind slot + k) (inside (image_of device.sizes media) d there kind slot k two small)).bytes in
    session_is_before_later (2 ^ 64) (stamp_of sector) (below64 (take 8 (drop 8 sector)) (bytes-take 8 (drop 8 sector) (bytes-drop 8 sector bytes))))
    device.media

-- ---- what is shown

whole_slot : (image : Image) → IsWholeImage image → (d : ℕ) → has_records image d ≡ true → (kind : Kind) (slot : ℕ) → slot < 2 → AreSectors kind (slot_start kind slot) (image.sector d)
whole_slot image whole d there kind slot two k small = whole d (slot_start kind slot + k) (inside image d there kind slot k two small)

module _ {X : Type 0} (content_of : List ℕ → Result X ℕ) (kind : Kind) (stamp : Stamp) (image : Image) (whole : IsWholeImage image) (before : StampsBefore stamp image) (d : ℕ) (r : Stamped X) where
  held_before : has_records image d ≡ true → (slot : ℕ) → slot < 2 → held content_of kind (slot_of kind slot (image.sector d)) ≡ Some r → stamp_lt r.stamp stamp ≡ true
  held_before there slot two is =
      let found = held-record content_of (record_in kind (slot_of kind slot (image.sector d))) r is in
      ap (λ (s : Stamp). stamp_lt s stamp) (sym found.2)
      ∙ before_is_older kind stamp (slot_start kind slot) (image.sector d) (whole_slot image whole d there kind slot two) (before kind d slot there two) found.0 found.1

  newest_before : newest_at content_of kind image d ≡ Some r → stamp_lt r.stamp stamp ≡ true
  newest_before = by_room (has_records image d) refl
    where
      by_room : (room : Bool) → has_records image d ≡ room → (if room then newest_on content_of kind (image.sector d) else None) ≡ Some r → stamp_lt r.stamp stamp ≡ true
      by_room true there is = ⊎_elim (held_before there 0 (omega arith)) (held_before there 1 (omega arith))
          (of_two (held content_of kind (slot_of kind 0 (image.sector d))) (held content_of kind (slot_of kind 1 (image.sector d))) r is)
      by_room false none is = absurd cc

pub shown_is_before : ShownIsBefore
unfolding descriptor_on status_on
shown_is_before stamp image whole before = record {
  descriptors = λ d r is. newest_before descriptor_of kind.Descriptor stamp image whole before d r is;
  statuses = λ d r is. newest_before status_of kind.Status stamp image whole before d r is;
}

-- ---- what may be written

pub later_may_go : LaterMayGo
later_may_go w stamp image d whole before no_later there = record {
  whole = λ slot two. whole_slot image whole d there w.kind slot two;
  before = λ slot two. later_is_after_too stamp w.framed.stamp image no_later before w.kind d slot there two;
}

pub session_may_go : SessionMayGo
session_may_go w moment device media d told whole behind le there =
    let told_before : StandsBefore w.framed.stamp device = behind_is_before w.framed.stamp device (later_is_ahead_too moment w.framed.stamp.epoch device le behind) in
    let before : StampsBefore w.framed.stamp (image_of device.sizes media) = subst (λ (o : Option Media). IfSome o (λ m. StampsBefore w.framed.stamp (image_of device.sizes m))) told told_before in
    let sectors : AreWhole device.sizes media = subst (λ (o : Option Media). IfSome o (AreWhole device.sizes)) told whole in
    record {
      whole = λ slot two. whole_slot (image_of device.sizes media) sectors d there w.kind slot two;
      before = λ slot two. before w.kind d slot there two;
    }
