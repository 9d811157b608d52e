-- Which slot of a disk comes next, after a record of the session stands there.
use Rattle.std.proofs.Common.{◌≡◌, ◌⊎◌, inl, inr, ⊎_elim, ℕ, ◌+◌, ◌-◌, ◌<◌, ◌≤◌, Bool, true, false, List, length, Option, Some, None, Result, Ok, refl, sym, ap, subst, ◌∙◌, arith}
use Rattle.std.specs.Prelude.{if◌then◌else◌, option_and_then}
use Rattle.std.proofs.lemmas.Bool.{cases_lt}
use Rattle.std.proofs.lemmas.Bool.Decides.{nat_tests}
use Rattle.lvm_num.specs.declared.record.Kind.{Kind}
use Rattle.lvm_num.specs.declared.record.Stamp.{Stamp}
use Rattle.lvm_num.specs.declared.record.Framed.{Framed}
use Rattle.lvm_num.specs.Record.{Frames, Stamped, record_in, slot_start, slot_size, stamp_lt}
use Rattle.lvm_num.specs.Torn.{Sectors}
use Rattle.lvm_num.proofs.TornLemmas.Fresh.{before_is_older}
use Rattle.lvm_num.proofs.RecordLemmas.Records.{joined-same}
use Rattle.lvm_num.proofs.TornLemmas.Torn.{whole_is_read, sectors-fit}
use Rattle.lvm_rec.specs.Slots.{read_under, held, slot_of, slot_to_write, slot_for, SlotWrite, IsTornWrite, StandsIn, BothBefore, written_as}
use Rattle.lvm_rec.proofs.SlotsLemmas.Next.{slot_for_same}
use Rattle.lvm_rec.proofs.SlotsLemmas.SlotLaws.{slots-apart, held-record}

-- ---- of two records

not_after : (a b : Stamp) → stamp_lt a b ≡ true → stamp_lt b a ≡ false
not_after a b h = grind (arith, nat_tests)

-- the new one in slot 0, which is later than what stands in slot 1
then_second : {X : Type 0} (n : Stamped X) (o : Option (Stamped X)) → ((y : Stamped X) → o ≡ Some y → stamp_lt y.stamp n.stamp ≡ true) → slot_to_write (Some n) o ≡ 1
then_second n None later = refl
then_second n (Some y) later = ap (λ (t : Bool). if t then 0 else 1) (not_after y.stamp n.stamp (later y refl))

-- and the other way about
then_first : {X : Type 0} (n : Stamped X) (o : Option (Stamped X)) → ((y : Stamped X) → o ≡ Some y → stamp_lt y.stamp n.stamp ≡ true) → slot_to_write o (Some n) ≡ 0
then_first n None later = refl
then_first n (Some y) later = ap (λ (t : Bool). if t then 0 else 1) (later y refl)

-- ---- of a disk

module _ (w : SlotWrite) (old new : Sectors) (frames : Frames w.kind w.framed) (two : w.slot < 2) (torn : IsTornWrite w old new) where
  -- a sector of a slot that isn't written
  other_sector : (kind : Kind) (slot s : ℕ) → slot < 2 → (kind ≡ w.kind → ⊥) ⊎ (slot ≡ w.slot → ⊥) → slot_start kind slot ≤ s → s < slot_start kind slot + slot_size kind → new s ≡ old s
  other_sector kind slot s lt differ from to = ⊎_elim
      (λ same. same)
      (λ of. absurd (
      let place = of.place in
      let inside = of.inside in
      let fits = sectors-fit w.kind (length w.framed.content) frames.content in
      slots-apart kind w.kind slot w.slot (s - slot_start kind slot) of.part lt two (omega (arith, from, to)) (omega (arith, inside, fits)) differ (omega (arith, from, place))))
      (torn s)

  -- of the other kind the same slot comes next
  pub other_kind : {X : Type 0} (content_of : List ℕ → Result X ℕ) (kind : Kind) → (kind ≡ w.kind → ⊥) → slot_for content_of kind new ≡ slot_for content_of kind old
  other_kind content_of kind differ = slot_for_same content_of kind old new (λ slot s lt from to. other_sector kind slot s lt (inl differ) from to)

  module _ (X : Type 0) (content_of : List ℕ → Result X ℕ) (x : X) (reads : content_of w.framed.content ≡ Ok x) (both : BothBefore w old) (stands : StandsIn w new) where
    abbrev at : ℕ → Option (Stamped X)
    at slot = held content_of w.kind (slot_of w.kind slot new)

    own : at w.slot ≡ Some (written_as w x)
    own = ap (option_and_then (λ (r : Framed). read_under r.stamp (content_of r.content))) (whole_is_read w.kind w.framed (slot_start w.kind w.slot) new frames stands) ∙ ap (read_under w.framed.stamp) reads

    -- what stands in the other slot is earlier
    other : (slot : ℕ) → slot < 2 → (slot ≡ w.slot → ⊥) → (y : Stamped X) → at slot ≡ Some y → stamp_lt y.stamp w.framed.stamp ≡ true
    other slot lt differ y is =
        let was : held content_of w.kind (slot_of w.kind slot old) ≡ Some y = sym (ap (held content_of w.kind) (joined-same new old (slot_start w.kind slot) (slot_size w.kind) (λ s from to. other_sector w.kind slot s lt (inr differ) from to))) ∙ is in
        let found = held-record content_of (record_in w.kind (slot_of w.kind slot old)) y was in
        ap (λ (s : Stamp). stamp_lt s w.framed.stamp) (sym found.2) ∙ before_is_older w.kind w.framed.stamp (slot_start w.kind slot) old (both.whole slot lt) (both.before slot lt) found.0 found.1

    -- so that comes next
    pub turned : ((w.slot ≡ 0) × (slot_for content_of w.kind new ≡ 1)) ⊎ ((w.slot ≡ 1) × (slot_for content_of w.kind new ≡ 0))
    turned = by_slot (cases_lt w.slot 1)
      where
        by_slot : (w.slot < 1) ⊎ (1 ≤ w.slot) → ((w.slot ≡ 0) × (slot_for content_of w.kind new ≡ 1)) ⊎ ((w.slot ≡ 1) × (slot_for content_of w.kind new ≡ 0))
        by_slot (inl low) =
            let zero : w.slot ≡ 0 = omega (arith, low) in
            let here : at 0 ≡ Some (written_as w x) = subst (λ (n : ℕ). at n ≡ Some (written_as w x)) zero own in
            inl (zero, ap (λ (o : Option (Stamped X)). slot_to_write o (at 1)) here ∙ then_second (written_as w x) (at 1) (λ y is. other 1 (omega arith) (λ e. absurd (omega (arith, e, zero))) y is))
        by_slot (inr high) =
            let one : w.slot ≡ 1 = omega (arith, high, two) in
            let here : at 1 ≡ Some (written_as w x) = subst (λ (n : ℕ). at n ≡ Some (written_as w x)) one own in
            inr (one, ap (λ (o : Option (Stamped X)). slot_to_write (at 0) o) here ∙ then_first (written_as w x) (at 0) (λ y is. other 0 (omega arith) (λ e. absurd (omega (arith, e, one))) y is))
