-- What lets a record be written depends on the slots of its kind.
use Rattle.std.proofs.Common.{◌≡◌, ◌⊎◌, inl, inr, ⊎_elim, ℕ, ◌+◌, ◌<◌, ◌≤◌, List, length, Result, refl, sym, subst, ◌∙◌, arith}
use Rattle.lvm_num.specs.declared.record.Kind.{Kind}
use Rattle.lvm_num.specs.declared.record.Kind.TheVariants as kind
use Rattle.lvm_num.specs.Buffer.{Sector, IsSector}
use Rattle.lvm_num.specs.Record.{slot_start, slot_size}
use Rattle.lvm_num.specs.Torn.{CarriesStamp}
use Rattle.lvm_num.proofs.RecordLemmas.Records.{joined-same}
use Rattle.lvm_num.proofs.TornLemmas.Torn.{sectors-fit}
use Rattle.lvm_kept.specs.passed.Rec.{held, slot_of, slot_to_write, slot_for}
use Rattle.lvm_kept.specs.passed.Disk.{Image}
use Rattle.lvm_kept.specs.Contents.{note_sector}
use Rattle.lvm_kept.specs.Plans.{ChangesBy}
use Rattle.lvm_kept.specs.Torn.{IsOutsideSlots, IsOfNote, IsOfRecord}
use Rattle.lvm_kept.proofs.PlacesLemmas.{room-same, newest-same}
use Rattle.lvm_steps.specs.Writable.{WritableStays, NotesAreOutside, RecordsAreOutside}

-- no sector of a slot is outside
not_outside : (kind : Kind) (slot s : ℕ) → slot < 2 → slot_start kind slot ≤ s → s < slot_start kind slot + slot_size kind → (s < slot_start kind 0) ⊎ (slot_start kind 1 + slot_size kind ≤ s) → ⊥
not_outside kind.Descriptor slot s two low high (inl below) = omega arith
not_outside kind.Descriptor slot s two low high (inr above) = omega arith
not_outside kind.Status slot s two low high (inl below) = omega arith
not_outside kind.Status slot s two low high (inr above) = omega arith

-- a sector of a slot of one kind is outside those of the other
other_outside : (a b : Kind) (slot k : ℕ) → (b ≡ a → ⊥) → slot < 2 → k < slot_size a → (slot_start a slot + k < slot_start b 0) ⊎ (slot_start b 1 + slot_size b ≤ slot_start a slot + k)
other_outside kind.Descriptor kind.Descriptor slot k differ two lt = absurd (differ refl)
other_outside kind.Descriptor kind.Status slot k differ two lt = inr (omega arith)
other_outside kind.Status kind.Descriptor slot k differ two lt = inl (omega arith)
other_outside kind.Status kind.Status slot k differ two lt = absurd (differ refl)

note_outside : (kind : Kind) → note_sector < slot_start kind 0
note_outside kind.Descriptor = omega arith
note_outside kind.Status = omega arith

pub notes_are_outside : NotesAreOutside
notes_are_outside targets sector kind old new by = record {
  same = by.same;
  each = λ d s. ⊎_elim (λ same. inl same) (λ (of : IsOfNote targets sector d s (new.sector d s)). inr (inl (let low = note_outside kind in omega (arith, of.place, low)))) (by.each d s);
}

pub records_are_outside : RecordsAreOutside
records_are_outside w kind old new differ frames slots by = record {
  same = by.same;
  each = λ d s. ⊎_elim
      (λ same. inl same)
      (λ (of : IsOfRecord w d s (new.sector d s)). inr (subst (λ (n : ℕ). (n < slot_start kind 0) ⊎ (slot_start kind 1 + slot_size kind ≤ n)) (sym of.its.place)
      (other_outside w.kind kind (w.slots d) of.its.part differ (slots d) (let fits = sectors-fit w.kind (length w.framed.content) frames.content in let in_record = of.its.inside in omega (arith, fits, in_record)))))
      (by.each d s);
}

module _ (kind : Kind) (old new : Image) (by : ChangesBy (IsOutsideSlots kind) old new) (d : ℕ) where
  in_slot : (slot s : ℕ) → slot < 2 → slot_start kind slot ≤ s → s < slot_start kind slot + slot_size kind → new.sector d s ≡ old.sector d s
  in_slot slot s two low high = ⊎_elim (λ same. same) (λ (out : (s < slot_start kind 0) ⊎ (slot_start kind 1 + slot_size kind ≤ s)). absurd (not_outside kind slot s two low high out)) (by.each d s)

  slot_same : (slot : ℕ) → slot < 2 → slot_of kind slot (new.sector d) ≡ slot_of kind slot (old.sector d)
  slot_same slot two = joined-same (new.sector d) (old.sector d) (slot_start kind slot) (slot_size kind) (λ s from to. in_slot slot s two from to)

  slot_for_same : {X : Type 0} (content_of : List ℕ → Result X ℕ) → slot_for content_of kind (new.sector d) ≡ slot_for content_of kind (old.sector d)
  slot_for_same content_of =
      let first = slot_same 0 (omega arith) in
      let second = slot_same 1 (omega arith) in
      λ t. slot_to_write (held content_of kind (first t)) (held content_of kind (second t))

  part_same : (slot k : ℕ) → slot < 2 → k < slot_size kind → new.sector d (slot_start kind slot + k) ≡ old.sector d (slot_start kind slot + k)
  part_same slot k two lt = in_slot slot (slot_start kind slot + k) two (omega arith) (omega (arith, lt))

pub writable_stays : (X : Type 0) → WritableStays X
writable_stays X content_of w x old new may by = record {
  frames = may.frames;
  slots = may.slots;
  there = λ d t. room-same old new by.same d ∙ may.there d t;
  each = λ d t. let was = may.each d t in record {
    frames = was.frames;
    reads = was.reads;
    slot = was.slot ∙ sym (slot_for_same w.kind old new by d content_of);
    whole = λ k lt. subst IsSector (sym (part_same w.kind old new by d (w.slots d) k (may.slots d) lt)) (was.whole k lt);
    fresh = λ k lt carries.
        let fits = sectors-fit w.kind (length w.framed.content) may.frames.content in
        let same : new.sector d (slot_start w.kind (w.slots d) + k) ≡ old.sector d (slot_start w.kind (w.slots d) + k) = part_same w.kind old new by d (w.slots d) k (may.slots d) (omega (arith, lt, fits)) in
        same ∙ was.fresh k lt (subst (λ (sector : Sector). CarriesStamp w.kind w.framed.stamp sector) same carries);
    later = λ y newest. was.later y (sym (newest-same content_of w.kind (old.sector d) (new.sector d) (λ slot s two low high. in_slot w.kind old new by d slot s two low high)) ∙ newest);
  };
}
