-- Which slot of a disk its next record goes to, after a write of one and after none.
use Rattle.std.proofs.Common.{◌≡◌, ◌⊎◌, inl, inr, ⊎_elim, ℕ, ◌+◌, ◌<◌, ◌≤◌, Bool, true, false, List, length, Option, Some, None, Result, IsTrue, refl, sym, ◌∙◌, ap, subst, arith}
use Rattle.std.specs.Prelude.{if◌then◌else◌, option_and_then}
use Rattle.std.proofs.lemmas.Bool.Decides.{nat_tests}
use Rattle.lvm_num.specs.declared.record.Kind.{Kind}
use Rattle.lvm_num.specs.declared.record.Kind.TheVariants as kind
use Rattle.lvm_num.specs.declared.record.Framed.{Framed}
use Rattle.lvm_num.specs.declared.record.Stamp.{Stamp}
use Rattle.lvm_num.specs.Record.{Stamped, slot_start, slot_size, stamp_lt, newer}
use Rattle.lvm_num.proofs.RecordLemmas.Records.{joined-same}
use Rattle.lvm_num.proofs.TornLemmas.Torn.{whole_is_read, sectors-fit}
use Rattle.lvm_rec.specs.Slots.{read_under, held, slot_of, slot_to_write, slot_for}
use Rattle.lvm_disk.specs.Device.{Image}
use Rattle.lvm_kept.specs.Plans.{ChangesBy}
use Rattle.lvm_kept.specs.Torn.{RecordWrite, IsOtherOrRecord, MayWriteAll, StandsOn, written as as_read}

-- ---- a write

not_after : (a b : Stamp) → stamp_lt a b ≡ true → stamp_lt b a ≡ false
not_after a b h = grind (arith, nat_tests)

-- the new record in slot 0, before one in slot 1 that was the newest
then_second : {X : Type 0} (a b : Option (Stamped X)) (n : Stamped X) → slot_to_write a b ≡ 0 → ((y : Stamped X) → newer a b ≡ Some y → stamp_lt y.stamp n.stamp ≡ true) → slot_to_write (Some n) b ≡ 1
then_second a None n zero later = refl
then_second a (Some y) n zero later = ap (λ (t : Bool). if t then 0 else 1) (not_after y.stamp n.stamp (later y (newest_second a y zero)))
  where
    newest_second : {X : Type 0} (a : Option (Stamped X)) (y : Stamped X) → slot_to_write a (Some y) ≡ 0 → newer a (Some y) ≡ Some y
    newest_second None y zero = refl
    newest_second (Some x) y zero = by_test (stamp_lt x.stamp y.stamp) zero
      where
        by_test : (t : Bool) → (◌≡◌ {A = ℕ} (if t then 0 else 1) 0) → (if t then Some y else Some x) ≡ Some y
        by_test true zero = refl
        by_test false zero = absurd (omega (arith, zero))

-- and the other way about
then_first : {X : Type 0} (a b : Option (Stamped X)) (n : Stamped X) → slot_to_write a b ≡ 1 → ((y : Stamped X) → newer a b ≡ Some y → stamp_lt y.stamp n.stamp ≡ true) → slot_to_write a (Some n) ≡ 0
then_first None b n one later = refl
then_first (Some x) b n one later = ap (λ (t : Bool). if t then 0 else 1) (later x (newest_first x b one))
  where
    newest_first : {X : Type 0} (x : Stamped X) (b : Option (Stamped X)) → slot_to_write (Some x) b ≡ 1 → newer (Some x) b ≡ Some x
    newest_first x None one = refl
    newest_first x (Some y) one = by_test (stamp_lt x.stamp y.stamp) one
      where
        by_test : (t : Bool) → (◌≡◌ {A = ℕ} (if t then 0 else 1) 1) → (if t then Some y else Some x) ≡ Some x
        by_test true one = absurd (omega (arith, one))
        by_test false one = refl

-- a sector of one slot is in no other of the kind
not_here : (kind : Kind) (a b s : ℕ) → a < 2 → b < 2 → (a ≡ b → ⊥) → slot_start kind a ≤ s → s < slot_start kind a + slot_size kind → slot_start kind b ≤ s → s < slot_start kind b + slot_size kind → ⊥
not_here kind.Descriptor a b s la lb differ low high from to = differ (omega (arith, low, high, from, to))
not_here kind.Status a b s la lb differ low high from to = differ (omega (arith, low, high, from, to))

inside_kind : (kind : Kind) (a s : ℕ) → a < 2 → slot_start kind a ≤ s → s < slot_start kind a + slot_size kind → (slot_start kind 0 ≤ s) × (s < slot_start kind 1 + slot_size kind)
inside_kind kind.Descriptor a s la low high = (omega (arith, low), omega (arith, high, la))
inside_kind kind.Status a s la low high = (omega (arith, low), omega (arith, high, la))

module _ (X : Type 0) (content_of : List ℕ → Result X ℕ) (w : RecordWrite) (x : X) (old new : Image) (may : MayWriteAll X content_of w x old) (by : ChangesBy (IsOtherOrRecord w) old new) (d : ℕ) where
  abbrev was : ℕ → Option (Stamped X)
  was slot = held content_of w.kind (slot_of w.kind slot (old.sector d))

  abbrev now : ℕ → Option (Stamped X)
  now slot = held content_of w.kind (slot_of w.kind slot (new.sector d))

  -- the slot that isn't written
  other_slot : (slot : ℕ) → slot < 2 → (slot ≡ w.slots d → ⊥) → now slot ≡ was slot
  other_slot slot two differ = ap (held content_of w.kind) (joined-same (new.sector d) (old.sector d) (slot_start w.kind slot) (slot_size w.kind) (λ s low high. ⊎_elim
      (λ same. same)
      (λ (is : IsOtherOrRecord w d s (new.sector d s)). absurd (outside s low high is))
      (by.each d s)))
    where
      outside : (s : ℕ) → slot_start w.kind slot ≤ s → s < slot_start w.kind slot + slot_size w.kind → IsOtherOrRecord w d s (new.sector d s) → ⊥
      outside s low high (inl below) = let in_kind = (inside_kind w.kind slot s two low high).0 in omega (arith, in_kind, below)
      outside s low high (inr (inl above)) = let in_kind = (inside_kind w.kind slot s two low high).1 in omega (arith, in_kind, above)
      outside s low high (inr (inr of)) =
          let place = of.its.place in
          let fits = sectors-fit w.kind (length w.framed.content) may.frames.content in
          let inside = of.its.inside in
          not_here w.kind slot (w.slots d) s two (may.slots d) differ low high (omega (arith, place)) (omega (arith, place, fits, inside))

  -- the slot that is
  own_slot : IsTrue (w.targets d) → StandsOn w new d → now (w.slots d) ≡ Some (as_read w x)
  own_slot target stands =
      ap (option_and_then (λ (r : Framed). read_under r.stamp (content_of r.content))) (whole_is_read w.kind w.framed (slot_start w.kind (w.slots d)) (new.sector d) may.frames stands)
      ∙ ap (read_under w.framed.stamp) (may.each d target).reads

  -- then the other one comes next
  pub other_comes_next : IsTrue (w.targets d) → StandsOn w new d → ((w.slots d ≡ 0) × (slot_for content_of w.kind (new.sector d) ≡ 1)) ⊎ ((w.slots d ≡ 1) × (slot_for content_of w.kind (new.sector d) ≡ 0))
  other_comes_next target stands = by_slot (slot_is (w.slots d) (may.slots d))
    where
      slot_is : (n : ℕ) → n < 2 → (n ≡ 0) ⊎ (n ≡ 1)
      slot_is n two = elim (Rattle.std.proofs.lemmas.Bool.cases_lt n 1) [
        | inl low ↦ inl (omega (arith, low))
        | inr high ↦ inr (omega (arith, high, two))
      ]

      chosen : w.slots d ≡ slot_to_write (was 0) (was 1)
      chosen = (may.each d target).slot

      by_slot : (w.slots d ≡ 0) ⊎ (w.slots d ≡ 1) → ((w.slots d ≡ 0) × (slot_for content_of w.kind (new.sector d) ≡ 1)) ⊎ ((w.slots d ≡ 1) × (slot_for content_of w.kind (new.sector d) ≡ 0))
      by_slot (inl zero) =
          let own : now 0 ≡ Some (as_read w x) = subst (λ (n : ℕ). now n ≡ Some (as_read w x)) zero (own_slot target stands) in
          let other : now 1 ≡ was 1 = other_slot 1 (omega arith) (λ e. absurd (omega (arith, e, zero))) in
          inl (zero, (λ t. slot_to_write (own t) (other t)) ∙ then_second (was 0) (was 1) (as_read w x) (sym chosen ∙ zero) (may.each d target).later)
      by_slot (inr one) =
          let own : now 1 ≡ Some (as_read w x) = subst (λ (n : ℕ). now n ≡ Some (as_read w x)) one (own_slot target stands) in
          let other : now 0 ≡ was 0 = other_slot 0 (omega arith) (λ e. absurd (omega (arith, e, one))) in
          inr (one, (λ t. slot_to_write (other t) (own t)) ∙ then_first (was 0) (was 1) (as_read w x) (sym chosen ∙ one) (may.each d target).later)
