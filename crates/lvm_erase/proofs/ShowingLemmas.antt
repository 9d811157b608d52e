-- What a disk shows while its descriptor is erased.
use Rattle.std.proofs.Common.{◌≡◌, ◌⊎◌, inl, inr, ⊎_elim, ℕ, suc, ◌+◌, ◌<◌, ◌≤◌, Bool, true, false, List, ◌++◌, Option, Some, None, refl, sym, ◌∙◌, ap, subst, arith}
use Rattle.std.specs.Prelude.{◌==◌, if◌then◌else◌, option_and_then}
use Rattle.std.proofs.lemmas.Bool.{eqb-true, eqb-false}
use Rattle.lvm_num.specs.declared.record.Kind.TheVariants as kind
use Rattle.lvm_num.specs.declared.record.Framed.{Framed}
use Rattle.lvm_num.specs.declared.descriptor.Descriptor.{Descriptor}
use Rattle.lvm_num.specs.declared.status.Status.{Status}
use Rattle.lvm_num.specs.Buffer.{Sector, zero_sector}
use Rattle.lvm_num.specs.DescriptorBytes.{descriptor_of}
use Rattle.lvm_num.specs.Geometry.{data_start}
use Rattle.lvm_num.specs.Record.{Stamped, joined, newer, record_in, slot_start, stamp_lt}
use Rattle.lvm_num.specs.StatusBytes.{status_of}
use Rattle.lvm_num.specs.Torn.{Sectors}
use Rattle.lvm_num.proofs.RecordLemmas.Records.{joined-same}
use Rattle.lvm_rec.specs.Slots.{held, read_under, slot_of, slot_for, slot_to_write, newest_on}
use Rattle.lvm_disk.specs.Device.{Image, SameDisks}
use Rattle.lvm_rec.proofs.SlotsLemmas.SlotLaws.{slot-two}
use Rattle.lvm_kept.specs.Contents.{contents_of, descriptor_on, has_records, note_on, note_sector, status_on}
use Rattle.lvm_kept.specs.Plans.{ChangesBy}
use Rattle.lvm_kept.proofs.PlacesLemmas.{at-same, data-same, newest-same, note-same, room-same}
use Rattle.lvm_kept.proofs.TornLemmas.Records.{newest_stays}
use Rattle.lvm_erase.specs.Erasing.{ZeroesSlot, ZeroesSlots, ErasesTo, ShowsNewestOrNone, ErasingShowsOne, ErasedShowsNone}

-- ---- one slot

-- one that begins with zeros holds no record: its stamp would be of epoch 0
zeros_hold_none : (rest : List ℕ) → record_in kind.Descriptor (zero_sector ++ rest) ≡ None
unfolding record_in
zeros_hold_none rest = refl

first_of_slot : (slot : ℕ) (sectors : Sectors) → slot_of kind.Descriptor slot sectors ≡ sectors (slot_start kind.Descriptor slot) ++ joined sectors (suc (slot_start kind.Descriptor slot)) 1151
unfolding joined
first_of_slot slot sectors = refl

abbrev in_slot : ℕ → Sectors → Option (Stamped Descriptor)
in_slot slot sectors = held descriptor_of kind.Descriptor (slot_of kind.Descriptor slot sectors)

none_in_slot : (slot : ℕ) (sectors : Sectors) → sectors (slot_start kind.Descriptor slot) ≡ zero_sector → in_slot slot sectors ≡ None
none_in_slot slot sectors zeros =
    ap (held descriptor_of kind.Descriptor) (first_of_slot slot sectors ∙ ap (λ (s : Sector). s ++ joined sectors (suc (slot_start kind.Descriptor slot)) 1151) zeros)
    ∙ ap (option_and_then (λ (r : Framed). read_under r.stamp (descriptor_of r.content))) (zeros_hold_none (joined sectors (suc (slot_start kind.Descriptor slot)) 1151))

-- ---- while one is zeroed

-- a slot whose first sector stays is as it was
slot_stays : (disk slot : ℕ) (old new : Image) → slot < 2 → ChangesBy (ZeroesSlots disk) old new → new.sector disk (slot_start kind.Descriptor slot) ≡ old.sector disk (slot_start kind.Descriptor slot)
    → in_slot slot (new.sector disk) ≡ in_slot slot (old.sector disk)
slot_stays disk slot old new few by first = ap (held descriptor_of kind.Descriptor) (joined-same (new.sector disk) (old.sector disk) (slot_start kind.Descriptor slot) 1152 each)
  where
    each : (s : ℕ) → slot_start kind.Descriptor slot ≤ s → s < slot_start kind.Descriptor slot + 1152 → new.sector disk s ≡ old.sector disk s
    each s low high = ⊎_elim (λ same. same)
        (λ (is : ZeroesSlots disk disk s (new.sector disk s)).
        let place = is.2.1 in
        let other = is.1 in
        let at : s ≡ slot_start kind.Descriptor slot = omega (arith, low, high, place, few, other) in
        ap (new.sector disk) at ∙ first ∙ ap (old.sector disk) (sym at))
        (by.each disk s)

-- each slot is as it was, or holds no record
slot_after : (disk slot : ℕ) (old new : Image) → slot < 2 → ChangesBy (ZeroesSlots disk) old new → (in_slot slot (new.sector disk) ≡ in_slot slot (old.sector disk)) ⊎ (in_slot slot (new.sector disk) ≡ None)
slot_after disk slot old new few by = ⊎_elim
    (λ (same : new.sector disk (slot_start kind.Descriptor slot) ≡ old.sector disk (slot_start kind.Descriptor slot)). inl (slot_stays disk slot old new few by same))
    (λ (is : ZeroesSlots disk disk (slot_start kind.Descriptor slot) (new.sector disk (slot_start kind.Descriptor slot))). inr (none_in_slot slot (new.sector disk) is.2.2))
    (by.each disk (slot_start kind.Descriptor slot))

-- while one is zeroed the other stays
other_stays : (disk slot other : ℕ) (old new : Image) → slot < 2 → other < 2 → (slot ≡ other → ⊥) → ChangesBy (ZeroesSlot disk slot) old new → in_slot other (new.sector disk) ≡ in_slot other (old.sector disk)
other_stays disk slot other old new few few_too apart by = ap (held descriptor_of kind.Descriptor) (joined-same (new.sector disk) (old.sector disk) (slot_start kind.Descriptor other) 1152 each)
  where
    each : (s : ℕ) → slot_start kind.Descriptor other ≤ s → s < slot_start kind.Descriptor other + 1152 → new.sector disk s ≡ old.sector disk s
    each s low high = ⊎_elim (λ same. same)
        (λ (is : ZeroesSlot disk slot disk s (new.sector disk s)). let place = is.1 in absurd (apart (omega (arith, low, high, place, few, few_too))))
        (by.each disk s)

wider : (disk slot : ℕ) (old new : Image) → slot < 2 → ChangesBy (ZeroesSlot disk slot) old new → ChangesBy (ZeroesSlots disk) old new
wider disk slot old new few by = record { same = by.same; each = λ d s. ⊎_elim (λ same. inl same) (λ is. inr (slot, few, is)) (by.each d s) }

-- ---- the newest of two

alone : (x : Option (Stamped Descriptor)) → newer x None ≡ x
alone None = refl
alone (Some x) = refl

module _ (a b : Option (Stamped Descriptor)) where
  -- slot 0 comes next where slot 1 has the newest, or neither has one
  in_second : slot_to_write a b ≡ 0 → newer a b ≡ b
  in_second next = by a b next
    where
      by : (a b : Option (Stamped Descriptor)) → slot_to_write a b ≡ 0 → newer a b ≡ b
      by None b next = refl
      by (Some x) None next = absurd (omega (arith, next))
      by (Some x) (Some y) next = of (stamp_lt x.stamp y.stamp) next
        where
          of : (t : Bool) → ◌≡◌ {A = ℕ} (if t then 0 else 1) 0 → (if t then Some y else Some x) ≡ Some y
          of true next = refl
          of false next = absurd (omega (arith, next))

  in_first : slot_to_write a b ≡ 1 → newer a b ≡ a
  in_first next = by a b next
    where
      by : (a b : Option (Stamped Descriptor)) → slot_to_write a b ≡ 1 → newer a b ≡ a
      by None b next = absurd (omega (arith, next))
      by (Some x) None next = refl
      by (Some x) (Some y) next = of (stamp_lt x.stamp y.stamp) next
        where
          of : (t : Bool) → ◌≡◌ {A = ℕ} (if t then 0 else 1) 1 → (if t then Some y else Some x) ≡ Some x
          of true next = absurd (omega (arith, next))
          of false next = refl

  which : (slot_to_write a b ≡ 0) ⊎ (slot_to_write a b ≡ 1)
  which = by a b
    where
      by : (a b : Option (Stamped Descriptor)) → (slot_to_write a b ≡ 0) ⊎ (slot_to_write a b ≡ 1)
      by None b = inl refl
      by (Some x) None = inr refl
      by (Some x) (Some y) = of (stamp_lt x.stamp y.stamp)
        where
          of : (t : Bool) → (◌≡◌ {A = ℕ} (if t then 0 else 1) 0) ⊎ (◌≡◌ {A = ℕ} (if t then 0 else 1) 1)
          of true = inl refl
          of false = inr refl

  -- what is left of two where one is as it was or none
  module _ (c d : Option (Stamped Descriptor)) where
    keeps_second : newer a b ≡ b → (c ≡ a) ⊎ (c ≡ None) → d ≡ b → newer c d ≡ newer a b
    keeps_second newest (inl same) stays = (λ t. newer (same t) (stays t))
    keeps_second newest (inr none) stays = (λ t. newer (none t) (stays t)) ∙ sym newest

    keeps_first : newer a b ≡ a → c ≡ a → (d ≡ b) ⊎ (d ≡ None) → newer c d ≡ newer a b
    keeps_first newest stays (inl same) = (λ t. newer (stays t) (same t))
    keeps_first newest stays (inr none) = (λ t. newer (stays t) (none t)) ∙ alone a ∙ sym newest

    second_or_none : newer a b ≡ b → c ≡ None → (d ≡ b) ⊎ (d ≡ None) → (newer c d ≡ newer a b) ⊎ (newer c d ≡ None)
    second_or_none newest gone (inl same) = inl ((λ t. newer (gone t) (same t)) ∙ sym newest)
    second_or_none newest gone (inr none) = inr (λ t. newer (gone t) (none t))

    first_or_none : newer a b ≡ a → (c ≡ a) ⊎ (c ≡ None) → d ≡ None → (newer c d ≡ newer a b) ⊎ (newer c d ≡ None)
    first_or_none newest (inl same) gone = inl ((λ t. newer (same t) (gone t)) ∙ alone a ∙ sym newest)
    first_or_none newest (inr none) gone = inr (λ t. newer (none t) (gone t))

-- ---- the disk

shown_as : (old new : Image) (disk : ℕ) → has_records new disk ≡ has_records old disk
    → (newest_on descriptor_of kind.Descriptor (new.sector disk) ≡ newest_on descriptor_of kind.Descriptor (old.sector disk)) ⊎ (newest_on descriptor_of kind.Descriptor (new.sector disk) ≡ None)
    → (descriptor_on new disk ≡ descriptor_on old disk) ⊎ (descriptor_on new disk ≡ None)
unfolding descriptor_on
shown_as old new disk room newest = by (has_records new disk) (has_records old disk) room newest
  where
    by : (p q : Bool) → p ≡ q → {x y : Option (Stamped Descriptor)} → (x ≡ y) ⊎ (x ≡ None) → ((if p then x else None) ≡ (if q then y else None)) ⊎ ((if p then x else None) ≡ None)
    by true true e is = is
    by true false e is = absurd cc
    by false true e is = absurd cc
    by false false e is = inl refl

module _ (disk older : ℕ) (old new : Image) (is : older ≡ slot_for descriptor_of kind.Descriptor (old.sector disk)) where
  abbrev a : Option (Stamped Descriptor)
  a = in_slot 0 (old.sector disk)

  abbrev b : Option (Stamped Descriptor)
  b = in_slot 1 (old.sector disk)

  abbrev c : Option (Stamped Descriptor)
  c = in_slot 0 (new.sector disk)

  abbrev d : Option (Stamped Descriptor)
  d = in_slot 1 (new.sector disk)

  newest : ErasesTo disk older old new → (newer c d ≡ newer a b) ⊎ (newer c d ≡ None)
  newest (inl one) = ⊎_elim
      (λ (zero : slot_to_write a b ≡ 0).
      let at : older ≡ 0 = is ∙ zero in
      let few : older < 2 = omega (arith, at) in
      inl (keeps_second a b c d (in_second a b zero) (slot_after disk 0 old new (omega arith) (wider disk older old new few one)) (other_stays disk older 1 old new few (omega arith) (λ e. omega (arith, at, e)) one)))
      (λ (first : slot_to_write a b ≡ 1).
      let at : older ≡ 1 = is ∙ first in
      let few : older < 2 = omega (arith, at) in
      inl (keeps_first a b c d (in_first a b first) (other_stays disk older 0 old new few (omega arith) (λ e. omega (arith, at, e)) one) (slot_after disk 1 old new (omega arith) (wider disk older old new few one))))
      (which a b)
  newest (inr both) = ⊎_elim
      (λ (zero : slot_to_write a b ≡ 0).
      let at : older ≡ 0 = is ∙ zero in
      let gone : c ≡ None = none_in_slot 0 (new.sector disk) (subst (λ (n : ℕ). new.sector disk (slot_start kind.Descriptor n) ≡ zero_sector) at both.1) in
      second_or_none a b c d (in_second a b zero) gone (slot_after disk 1 old new (omega arith) both.0))
      (λ (first : slot_to_write a b ≡ 1).
      let at : older ≡ 1 = is ∙ first in
      let gone : d ≡ None = none_in_slot 1 (new.sector disk) (subst (λ (n : ℕ). new.sector disk (slot_start kind.Descriptor n) ≡ zero_sector) at both.1) in
      first_or_none a b c d (in_first a b first) (slot_after disk 0 old new (omega arith) both.0) gone)
      (which a b)

  same : ErasesTo disk older old new → SameDisks old new
  same (inl one) = one.same
  same (inr both) = both.0.same

pub shows_newest_or_none : ShowsNewestOrNone
shows_newest_or_none disk older old new is erases =
    let disks = same disk older old new is erases in
    shown_as old new disk (room-same old new disks disk) (newest disk older old new is erases)

-- ---- all that the disks show

module _ (disk older : ℕ) (old new : Image) (is : older ≡ slot_for descriptor_of kind.Descriptor (old.sector disk)) (erases : ErasesTo disk older old new) where
  by : ChangesBy (ZeroesSlots disk) old new
  by = of erases
    where
      of : ErasesTo disk older old new → ChangesBy (ZeroesSlots disk) old new
      of (inl one) = wider disk older old new (subst (λ (n : ℕ). n < 2) (sym is) (slot-two (in_slot 0 (old.sector disk)) (in_slot 1 (old.sector disk)))) one
      of (inr both) = both.0

  -- a sector that is the first of no slot stays
  untouched : (d s : ℕ) → ((slot : ℕ) → slot < 2 → d ≡ disk → s ≡ slot_start kind.Descriptor slot → ⊥) → new.sector d s ≡ old.sector d s
  untouched d s apart = ⊎_elim (λ same. same) (λ (it : ZeroesSlots disk d s (new.sector d s)). absurd (apart it.0 it.1 it.2.0 it.2.1)) (by.each d s)

  other_disk : (d : ℕ) → (d ≡ disk → ⊥) → descriptor_on new d ≡ descriptor_on old d
  unfolding descriptor_on
  other_disk d apart = at-same descriptor_of kind.Descriptor old new d by.same (newest-same descriptor_of kind.Descriptor (old.sector d) (new.sector d) (λ slot s two low high. untouched d s (λ n few here at. apart here)))

  own : (d : ℕ) → (descriptor_on new d ≡ descriptor_on old d) ⊎ ((d ≡ disk) × (descriptor_on new d ≡ None))
  own d = of (d == disk) refl
    where
      of : (b : Bool) → (d == disk) ≡ b → (descriptor_on new d ≡ descriptor_on old d) ⊎ ((d ≡ disk) × (descriptor_on new d ≡ None))
      of true here =
          let same = eqb-true d disk here in
          subst (λ (n : ℕ). (descriptor_on new n ≡ descriptor_on old n) ⊎ ((n ≡ disk) × (descriptor_on new n ≡ None))) (sym same)
          (⊎_elim (λ stays. inl stays) (λ none. inr (refl, none)) (shows_newest_or_none disk older old new is erases))
      of false apart = inl (other_disk d (eqb-false d disk apart))

  stated : (d : ℕ) → status_on new d ≡ status_on old d
  unfolding status_on
  stated d = newest_stays Status status_of kind.Status old new d (record { same = by.same; each = λ e s. ⊎_elim (λ same. inl same) (λ (it : ZeroesSlots disk e s (new.sector e s)). inr (inr (let at = it.2.1 in omega (arith, at)))) (by.each e s) })

  noted : (d : ℕ) → note_on new d ≡ note_on old d
  noted d = note-same old new d by.same (untouched d note_sector (λ slot few here at. omega (arith, at)))

  blocks : (d s : ℕ) → data_start ≤ s → new.sector d s ≡ old.sector d s
  blocks d s low = untouched d s (λ slot few here at. omega (arith, at, low, few))

  rest : contents_of new ≡ record (contents_of old) { descriptor = descriptor_on new }
  rest t = record { disks = by.same.disks t; size = λ d. by.same.size d t; descriptor = descriptor_on new; status = λ d. stated d t; note = λ d. noted d t; block = λ d s. data-same old new blocks d s t }

pub erasing_shows_one : ErasingShowsOne
erasing_shows_one disk older old new is erases = record { own = own disk older old new is erases; rest = rest disk older old new is erases }

pub erased_shows_none : ErasedShowsNone
unfolding descriptor_on
erased_shows_none disk image zeros = by (has_records image disk) (λ t. newer (none_in_slot 0 (image.sector disk) (zeros 0 (omega arith)) t) (none_in_slot 1 (image.sector disk) (zeros 1 (omega arith)) t))
  where
    by : (p : Bool) → {x : Option (Stamped Descriptor)} → x ≡ None → (if p then x else None) ≡ None
    by true none = none
    by false none = refl
