-- Zeros written to the first sector of one slot, and of both.
use Rattle.std.proofs.Common.{◌≡◌, inl, inr, ⊎_elim, ℕ, zero, suc, ◌+◌, ◌-◌, ◌<◌, Bool, true, false, not, Option, Some, None, slice_get, refl, sym, ◌∙◌, ap, arith, eq-eqb}
use Rattle.std.specs.Prelude.{◌==◌, ◌&&◌, nat_le, nat_lt, if◌then◌else◌, unwrap_or}
use Rattle.std.proofs.lemmas.Bool.{eqb-true, ltb-true, leb-true}
use Rattle.std.proofs.lemmas.Bool.Decides.{nat_tests}
use Rattle.lvm_num.specs.declared.record.Kind.TheVariants as kind
use Rattle.lvm_num.specs.Buffer.{Buffer, Sector, zero_sector}
use Rattle.lvm_num.specs.Record.{slot_start}
use Rattle.lvm_disk.specs.Device.{Image, Flight, Device, IsReady, image_of, written, MayLeave}
use Rattle.lvm_disk.specs.Steps.{Puts}
use Rattle.lvm_disk.specs.Paths.{DeviceStep, Path}
use Rattle.lvm_disk.proofs.PathsLemmas.{append-path, map-path}
use Rattle.lvm_kept.specs.Plans.{ChangesBy, IsPlanned}
use Rattle.lvm_transfer.specs.Transfer.{TransferGives, flight_of}
use Rattle.lvm_transfer.specs.declared.moves.Moved.{Moved}
use Rattle.lvm_transfer.specs.declared.moves.Moved.TheVariants as moved
use Rattle.lvm_transfer.proofs.StepsLemmas.{out_flights}
use Rattle.lvm_transfer.proofs.TransferLemmas.Ending.{one_left}
use Rattle.lvm_write.specs.Parts.{IfMoved}
use Rattle.lvm_write.specs.Written.{IsInPlan, IsWriting, KeepsShelf}
use Rattle.lvm_write.proofs.WrittenLemmas.Writing.{if_told, told_at, both_from, both_at, stand_told, changes_then, changes_more}
use Rattle.lvm_erase.specs.Erasing.{slot_number, ZeroesSlot, ZeroesSlots, StartsWithZeros, IsErased, ErasesTo, ErasesInOrder}

pub below_two : (second : Bool) → slot_number second < 2
below_two true = omega arith
below_two false = omega arith

-- ---- one transfer

module _ (disk slot first : ℕ) (buf : Buffer) (place : first ≡ slot_start kind.Descriptor slot) (zeros : slice_get buf.sectors 0 ≡ Some zero_sector) where
  -- it writes nothing but zeros to that sector
  pub slot_planned : IsPlanned (ZeroesSlot disk slot) (flight_of 0 true disk first 1 buf)
  slot_planned d s value is = go (disk == d) (nat_le first s) (nat_lt s (first + 1)) refl refl refl is
    where
      go : (p q r : Bool) → (disk == d) ≡ p → nat_le first s ≡ q → nat_lt s (first + 1) ≡ r → (if p && q && r then slice_get buf.sectors (s - first) else None) ≡ Some value → ZeroesSlot disk slot d s value
      go true true true p q r is =
          let low = leb-true first s q in
          let high = ltb-true s (first + 1) r in
          let at : s - first ≡ 0 = omega (arith, low, high) in
          let got : Some value ≡ Some zero_sector = sym is ∙ ap (slice_get buf.sectors) at ∙ zeros in
          (sym (eqb-true disk d p), omega (arith, low, high, place), cc)
      go true true false p q r is = absurd cc
      go true false u p q r is = absurd cc
      go false t u p q r is = absurd cc

  pub slots_planned : slot < 2 → IsPlanned (ZeroesSlots disk) (flight_of 0 true disk first 1 buf)
  slots_planned few d s value is = (slot, few, slot_planned d s value is)

  pub slots_in_plan : slot < 2 → IsInPlan (ZeroesSlots disk) (record { disk = disk; first = first; count = 1 })
  slots_in_plan few = (omega arith, λ s low high. (zero_sector, (slot, few, (refl, omega (arith, low, high, place), refl))))

  slot_written : (ticket : ℕ) → written (flight_of ticket true disk first 1 buf) disk first ≡ Some zero_sector
  slot_written ticket =
      let here : (disk == disk) ≡ true = eq-eqb disk disk refl in
      let above : nat_le first first ≡ true = grind (arith, nat_tests) in
      let below : nat_lt first (first + 1) ≡ true = grind (arith, nat_tests) in
      let at : first - first ≡ 0 = omega arith in
      ap (λ (b : Bool). if b && nat_le first first && nat_lt first (first + 1) then slice_get buf.sectors (first - first) else None) here
      ∙ ap (λ (b : Bool). if b && nat_lt first (first + 1) then slice_get buf.sectors (first - first) else None) above
      ∙ ap (λ (b : Bool). if b then slice_get buf.sectors (first - first) else None) below
      ∙ ap (slice_get buf.sectors) at
      ∙ zeros

  -- once it has ended well they stand there,
  pub slot_zeroed : (before : ℕ) (old new : Device) (ticket : ℕ) (how : Moved) → IsReady old → TransferGives before old new (flight_of ticket true disk first 1 buf) how → IfMoved how (λ back. StartsWithZeros disk slot new)
  slot_zeroed before old new ticket (moved.Done back) ready (now, out, ends) =
      let f = flight_of ticket true disk first 1 buf in
      let it = one_left f now.flights new.flights ends.flight (out_flights old now f out ready.flights) ends.flights in
      stand_told now.media new.media (Puts ends.flight) (λ media. media disk (slot_start kind.Descriptor slot) ≡ zero_sector) ends.media
      (λ m n puts. ap (n disk) (sym place)
      ∙ puts disk first
      ∙ ap (λ (g : Flight). unwrap_or (written g disk first) (m disk first)) it.0
      ∙ ap (λ (o : Option Sector). unwrap_or o (m disk first)) (slot_written ticket))
  slot_zeroed before old new ticket (moved.Failed back) ready gives = tt
  slot_zeroed before old new ticket (moved.Dark started) ready gives = tt
  slot_zeroed before old new ticket moved.Stuck ready gives = tt

  -- and the buffer is as it was
  pub slot_back : (before : ℕ) (old new : Device) (ticket : ℕ) (how : Moved) → IsReady old → TransferGives before old new (flight_of ticket true disk first 1 buf) how → IfMoved how (λ back. back ≡ buf)
  slot_back before old new ticket (moved.Done back) ready (now, out, ends) =
      let f = flight_of ticket true disk first 1 buf in
      let it = one_left f now.flights new.flights ends.flight (out_flights old now f out ready.flights) ends.flights in
      ends.kept (ap (λ (g : Flight). g.write) it.0) ∙ ap (λ (g : Flight). g.buf) it.0
  slot_back before old new ticket (moved.Failed back) ready gives = tt
  slot_back before old new ticket (moved.Dark started) ready gives = tt
  slot_back before old new ticket moved.Stuck ready gives = tt

-- ---- one after the other

-- up to the end of the first transfer only the older slot may differ
pub first_in_order : (disk older : ℕ) (old new : Device) → Path DeviceStep (IsWriting (ZeroesSlot disk older) old) old new → Path DeviceStep (ErasesInOrder disk older old) old new
first_in_order disk older old new path = map-path (ErasesInOrder disk older old) (λ now writing. if_told old.media
    (λ media. (image : Image) → MayLeave now image → ErasesTo disk older (image_of old.sizes media) image)
    (λ m told image may. inl (told_at old.media (λ media. (image : Image) → MayLeave now image → ChangesBy (ZeroesSlot disk older) (image_of old.sizes media) image) m told writing image may))) path

module _ (disk older newer : ℕ) (old mid new : Device) (few : older < 2) (few_too : newer < 2) (keeps : KeepsShelf (λ d. d == disk) (ZeroesSlots disk) old mid) (begins : StartsWithZeros disk older mid)
    (first : Path DeviceStep (IsWriting (ZeroesSlot disk older) old) old mid) (second : Path DeviceStep (IsWriting (ZeroesSlot disk newer) mid) mid new) where
  -- afterwards that begins with zeros
  later_in_order : (now : Device) → IsWriting (ZeroesSlot disk newer) mid now → ErasesInOrder disk older old now
  later_in_order now writing = if_told old.media
      (λ media. (image : Image) → MayLeave now image → ErasesTo disk older (image_of old.sizes media) image)
      (λ m told image may.
      let after = both_at old.media mid.media (λ was is. ChangesBy (ZeroesSlots disk) (image_of old.sizes was) (image_of mid.sizes is)) m keeps.media told in
      let by : ChangesBy (ZeroesSlot disk newer) (image_of mid.sizes after.0) image = told_at mid.media (λ media. (image : Image) → MayLeave now image → ChangesBy (ZeroesSlot disk newer) (image_of mid.sizes media) image) after.0 after.1 writing image may in
      inr (
        changes_then (ZeroesSlots disk) (image_of old.sizes m) (image_of mid.sizes after.0) image after.2
            (changes_more (ZeroesSlot disk newer) (ZeroesSlots disk) (image_of mid.sizes after.0) image (λ d s value is. (newer, few_too, is)) by),
        ⊎_elim
            (λ (same : image.sector disk (slot_start kind.Descriptor older) ≡ after.0 disk (slot_start kind.Descriptor older)).
            same ∙ told_at mid.media (λ media. media disk (slot_start kind.Descriptor older) ≡ zero_sector) after.0 after.1 begins)
            (λ (is : ZeroesSlot disk newer disk (slot_start kind.Descriptor older) (image.sector disk (slot_start kind.Descriptor older))). is.2)
            (by.each disk (slot_start kind.Descriptor older)),
      ))

  pub both_in_order : Path DeviceStep (ErasesInOrder disk older old) old new
  both_in_order = append-path (first_in_order disk older old mid first) (map-path (ErasesInOrder disk older old) later_in_order second)

-- what begins with zeros goes on so while zeros are written
pub zeros_stay : (disk slot : ℕ) (old new : Device) → KeepsShelf (λ d. d == disk) (ZeroesSlots disk) old new → StartsWithZeros disk slot old → StartsWithZeros disk slot new
zeros_stay disk slot old new keeps zeros = if_told new.media (λ media. media disk (slot_start kind.Descriptor slot) ≡ zero_sector)
    (λ n is.
    let back = both_from old.media new.media (λ was is. ChangesBy (ZeroesSlots disk) (image_of old.sizes was) (image_of new.sizes is)) n keeps.media is in
    ⊎_elim
    (λ (same : n disk (slot_start kind.Descriptor slot) ≡ back.0 disk (slot_start kind.Descriptor slot)). same ∙ told_at old.media (λ media. media disk (slot_start kind.Descriptor slot) ≡ zero_sector) back.0 back.1 zeros)
    (λ (p : ZeroesSlots disk disk (slot_start kind.Descriptor slot) (n disk (slot_start kind.Descriptor slot))). p.2.2)
    (back.2.each disk (slot_start kind.Descriptor slot)))

-- the two slots are both
pub both_erased : (disk : ℕ) (second : Bool) (device : Device) → StartsWithZeros disk (slot_number second) device → StartsWithZeros disk (slot_number (not second)) device → IsErased disk device
both_erased disk true device one other zero low = other
both_erased disk true device one other (suc zero) low = one
both_erased disk true device one other (suc (suc slot)) low = absurd (omega (arith, low))
both_erased disk false device one other zero low = one
both_erased disk false device one other (suc zero) low = other
both_erased disk false device one other (suc (suc slot)) low = absurd (omega (arith, low))
