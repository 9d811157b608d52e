-- Writes that leave all stamps before one.
use Rattle.std.proofs.Common.{◌≡◌, inl, inr, ⊎_elim, ℕ, ◌+◌, ◌<◌, true, take, sym, ◌∙◌, ap, subst, arith}
use Rattle.lvm_num.specs.declared.record.Stamp.{Stamp}
use Rattle.lvm_num.specs.declared.record.Kind.{Kind}
use Rattle.lvm_num.specs.declared.record.Kind.TheVariants as kind
use Rattle.lvm_num.specs.Buffer.{Sector}
use Rattle.lvm_num.specs.Geometry.{data_start}
use Rattle.lvm_num.specs.Record.{kind_magic, slot_start, slot_size, frame, stamp_lt}
use Rattle.lvm_num.specs.Torn.{stamp_of}
use Rattle.lvm_num.proofs.TornLemmas.Torn.{frame-carries}
use Rattle.lvm_num.proofs.TornLemmas.Fresh.{carried}
use Rattle.lvm_kept.specs.passed.Disk.{Image}
use Rattle.lvm_kept.specs.Contents.{has_records}
use Rattle.lvm_kept.specs.Plans.{Plan, ChangesBy}
use Rattle.lvm_kept.specs.Torn.{IsOfRecord, IsOutsideSlots}
use Rattle.lvm_kept.proofs.PlacesLemmas.{room-same}
use Rattle.lvm_steps.specs.Laws.{DataKeepsBefore, IsOfEarlier, IsOtherOrEarlier, NotesAndDataAreOutside, EarlierKeepBefore, RecordKeepsBefore, RecordIsBeforeNext}
use Rattle.lvm_steps.proofs.LawsLemmas.Stamps.{not_after, later_is_after_too}

-- ---- places

pub slot_below : (kind : Kind) (slot k : ℕ) → slot < 2 → k < slot_size kind → slot_start kind slot + k < data_start
slot_below kind.Descriptor slot k two small = omega arith
slot_below kind.Status slot k two small = omega arith

not_outside : (kind : Kind) (d slot k : ℕ) (value : Sector) → slot < 2 → k < slot_size kind → IsOutsideSlots kind d (slot_start kind slot + k) value → ⊥
not_outside kind.Descriptor d slot k value two small (inl below) = absurd (omega arith)
not_outside kind.Descriptor d slot k value two small (inr above) = absurd (omega arith)
not_outside kind.Status d slot k value two small (inl below) = absurd (omega arith)
not_outside kind.Status d slot k value two small (inr above) = absurd (omega arith)

pub notes_and_data_are_outside : NotesAndDataAreOutside
notes_and_data_are_outside kind.Descriptor d s value (inl is) = inl (omega arith)
notes_and_data_are_outside kind.Descriptor d s value (inr above) = inr (omega arith)
notes_and_data_are_outside kind.Status d s value (inl is) = inl (omega arith)
notes_and_data_are_outside kind.Status d s value (inr above) = inr (omega arith)

-- ---- sectors

-- what is asked of a sector in a slot
abbrev IsBefore : Kind → Stamp → Sector → Type 0
IsBefore kind stamp sector = take 2 sector ≡ kind_magic kind → stamp_lt (stamp_of sector) stamp ≡ true

unchanged : (kind : Kind) (stamp : Stamp) (old new : Sector) → new ≡ old → IsBefore kind stamp old → IsBefore kind stamp new
unchanged kind stamp old new same before = subst (IsBefore kind stamp) (sym same) before

-- each sector of a record has the record's stamp
of_earlier : (kind : Kind) (stamp : Stamp) (d s : ℕ) (value : Sector) → IsOfEarlier stamp d s value → IsBefore kind stamp value
of_earlier kind stamp d s value of magic =
    let w = of.write.framed in
    let part = frame of.write.kind w.stamp w.content of.its.its.part in
    ap (λ (x : Stamp). stamp_lt x stamp) (ap stamp_of of.its.its.is ∙ carried of.write.kind w part of.frames (frame-carries of.write.kind w.stamp w.content of.its.its.part)) ∙ of.earlier

in_slot : (kind : Kind) (stamp : Stamp) (d slot k : ℕ) (value : Sector) → slot < 2 → k < slot_size kind → IsOtherOrEarlier stamp d (slot_start kind slot + k) value → IsBefore kind stamp value
in_slot kind stamp d slot k value two small (inl outside) = absurd (not_outside kind d slot k value two small (outside kind))
in_slot kind stamp d slot k value two small (inr of) = of_earlier kind stamp d (slot_start kind slot + k) value of

-- ---- images

pub data_keeps_before : DataKeepsBefore
data_keeps_before stamp old new is before kind d slot there two k small =
    let was_there : has_records old d ≡ true = sym (room-same old new is.same d) ∙ there in
    unchanged kind stamp (old.sector d (slot_start kind slot + k)) (new.sector d (slot_start kind slot + k))
    (is.sectors d (slot_start kind slot + k) was_there (slot_below kind slot k two small))
    (before kind d slot was_there two k small)

pub earlier_keep_before : EarlierKeepBefore
earlier_keep_before stamp old new by before kind d slot there two k small =
    let was_there : has_records old d ≡ true = sym (room-same old new by.same d) ∙ there in
    ⊎_elim
    (λ same. unchanged kind stamp (old.sector d (slot_start kind slot + k)) (new.sector d (slot_start kind slot + k)) same (before kind d slot was_there two k small))
    (λ brought. in_slot kind stamp d slot k (new.sector d (slot_start kind slot + k)) two small brought)
    (by.each d (slot_start kind slot + k))

-- what one plan brings, a wider one brings too
pub changes_widen : (P Q : Plan) (old new : Image) → ((d s : ℕ) (value : Sector) → P d s value → Q d s value) → ChangesBy P old new → ChangesBy Q old new
changes_widen P Q old new more by = record { same = by.same; each = λ d s. ⊎_elim (λ same. inl same) (λ brought. inr (more d s (new.sector d s) brought)) (by.each d s) }

pub record_keeps_before : RecordKeepsBefore
record_keeps_before w stamp old new frames earlier by = earlier_keep_before stamp old new
    (changes_widen (IsOfRecord w) (IsOtherOrEarlier stamp) old new (λ d s value its. inr (record { write = w; frames = frames; earlier = earlier; its = its })) by)

pub record_is_before_next : RecordIsBeforeNext
record_is_before_next w next old new frames later by before = record_keeps_before w next old new frames later by (later_is_after_too w.framed.stamp next old (not_after w.framed.stamp next later) before)
