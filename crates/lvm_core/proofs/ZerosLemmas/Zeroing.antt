-- Transfers of zeros to the sectors of a partition, one after another.
use Rattle.std.proofs.Common.{◌≡◌, ⊎_elim, ℕ, ◌+◌, ◌-◌, ◌*◌, ◌<◌, ◌≤◌, Bool, true, false, List, length, Option, Some, None, slice_get, get_or, length-set, refl, sym, ◌∙◌, ap, arith, eq-eqb}
use Rattle.std.specs.Prelude.{◌==◌, ◌&&◌, nat_le, nat_lt, if◌then◌else◌, unwrap_or, slice_set}
use Rattle.std.proofs.lemmas.Bool.{eqb-true, ltb-true, leb-true, cases_lt}
use Rattle.std.proofs.lemmas.Bool.Decides.{nat_tests}
use Rattle.std.proofs.lemmas.List.{get_or-set_same, get_or-set_other}
use Rattle.std.proofs.lemmas.Option.{slice_get-get_or, get_or_from_slice_get}
use Rattle.lvm_num.specs.declared.place.Pp.{Pp}
use Rattle.lvm_num.specs.Buffer.{Buffer, Sector, zero_sector}
use Rattle.lvm_num.specs.Geometry.{data_start, partition_blocks}
use Rattle.lvm_disk.specs.Device.{Media, Flight, Device, IsReady, image_of, written}
use Rattle.lvm_disk.specs.Steps.{Puts}
use Rattle.lvm_kept.specs.Plans.{ChangesBy, IsPlanned}
use Rattle.lvm_commit.specs.passed.Transfer.{TransferGives, flight_of, Moved}
use Rattle.lvm_commit.specs.passed.TransferMovesMoved as moved
use Rattle.lvm_commit.proofs.passed.Transfer.{one_left, out_flights}
use Rattle.lvm_write.specs.Parts.{IfMoved}
use Rattle.lvm_write.specs.Written.{IsInPlan, KeepsShelf}
use Rattle.lvm_write.proofs.WrittenLemmas.Writing.{if_told, told_at, both_from, stand_told}
use Rattle.lvm_commit.specs.LawsOfData.{IsSectorOf}
use Rattle.lvm_core.specs.Zeros.{IsZeroOf, IsZeroed, AreZeroed, IsClear}

-- ---- the buffer

-- one sector more is put
pub one_more : (xs : List Sector) (k : ℕ) (z : Sector) → k < length xs → ((i : ℕ) → i < k → slice_get xs i ≡ Some z) → (i : ℕ) → i < k + 1 → slice_get (slice_set xs k z) i ≡ Some z
one_more xs k z within below i less =
    let long : length (slice_set xs k z) ≡ length xs = length-set xs k z in
    slice_get-get_or (slice_set xs k z) i z (omega (arith, long, within, less))
    ∙ ap (λ (x : Sector). Some x) (⊎_elim
    (λ (lower : i < k). get_or-set_other xs k i z z (λ e. omega (arith, lower, e)) ∙ get_or_from_slice_get xs i z z (below i lower))
    (λ (higher : k ≤ i). let e : i ≡ k = omega (arith, higher, less) in ap (λ (n : ℕ). get_or (slice_set xs k z) n z) e ∙ get_or-set_same xs k z z within)
    (cases_lt i k))

-- ---- one piece

module _ (mib : ℕ) (pp : Pp) (piece first : ℕ) (buf : Buffer) (place : first ≡ data_start + partition_blocks mib * pp.pp + 256 * piece) (small : piece < 8 * mib) (clear : IsClear buf) where
  -- it writes nothing but zeros to sectors of the partition
  pub zeros_planned : IsPlanned (IsZeroOf mib pp) (flight_of 0 true pp.disk first 256 buf)
  zeros_planned d s value is = go (pp.disk == d) (nat_le first s) (nat_lt s (first + 256)) refl refl refl is
    where
      go : (p q r : Bool) → (pp.disk == d) ≡ p → nat_le first s ≡ q → nat_lt s (first + 256) ≡ r → (if p && q && r then slice_get buf.sectors (s - first) else None) ≡ Some value → IsZeroOf mib pp d s value
      go true true true p q r is =
          let low = leb-true first s q in
          let high = ltb-true s (first + 256) r in
          let got : Some value ≡ Some zero_sector = sym is ∙ clear (s - first) (omega (arith, low, high)) in (
            record { disk = sym (eqb-true pp.disk d p); low = omega (arith, low, place); high = omega (arith, high, place, small) },
            cc,
          )
      go true true false p q r is = absurd (cc)
      go true false u p q r is = absurd (cc)
      go false t u p q r is = absurd (cc)

  -- and each of its sectors is one
  pub zeros_in_plan : IsInPlan (IsZeroOf mib pp) (record { disk = pp.disk; first = first; count = 256 })
  zeros_in_plan = (omega arith, λ s low high. (zero_sector, (record { disk = refl; low = omega (arith, low, place); high = omega (arith, high, place, small) }, refl)))

  zero_written : (ticket s : ℕ) → first ≤ s → s < first + 256 → written (flight_of ticket true pp.disk first 256 buf) pp.disk s ≡ Some zero_sector
  zero_written ticket s low high =
      let here : (pp.disk == pp.disk) ≡ true = eq-eqb pp.disk pp.disk refl in
      let above : nat_le first s ≡ true = grind (arith, nat_tests, low) in
      let below : nat_lt s (first + 256) ≡ true = grind (arith, nat_tests, high) in
      ap (λ (b : Bool). if b && nat_le first s && nat_lt s (first + 256) then slice_get buf.sectors (s - first) else None) here
      ∙ ap (λ (b : Bool). if b && nat_lt s (first + 256) then slice_get buf.sectors (s - first) else None) above
      ∙ ap (λ (b : Bool). if b then slice_get buf.sectors (s - first) else None) below
      ∙ clear (s - first) (omega (arith, low, high))

  -- once it has ended well they stand there,
  pub piece_zeroed : (before : ℕ) (old new : Device) (ticket : ℕ) (how : Moved) → IsReady old → TransferGives before old new (flight_of ticket true pp.disk first 256 buf) how
      → IfMoved how (λ back. AreZeroed mib pp (256 * piece) (256 * piece + 256) new)
  piece_zeroed before old new ticket (moved.Done back) ready (now, out, ends) =
      let f = flight_of ticket true pp.disk first 256 buf in
      let it = one_left f now.flights new.flights ends.flight (out_flights old now f out ready.flights) ends.flights in
      stand_told now.media new.media (Puts ends.flight) (λ media. (k : ℕ) → 256 * piece ≤ k → k < 256 * piece + 256 → media pp.disk (data_start + partition_blocks mib * pp.pp + k) ≡ zero_sector) ends.media
      (λ m n puts k low high.
      let s : ℕ = data_start + partition_blocks mib * pp.pp + k in
      puts pp.disk s
      ∙ ap (λ (g : Flight). unwrap_or (written g pp.disk s) (m pp.disk s)) it.0
      ∙ ap (λ (o : Option Sector). unwrap_or o (m pp.disk s)) (zero_written ticket s (omega (arith, low, place)) (omega (arith, high, place))))
  piece_zeroed before old new ticket (moved.Failed back) ready gives = tt
  piece_zeroed before old new ticket (moved.Dark started) ready gives = tt
  piece_zeroed before old new ticket moved.Stuck ready gives = tt

  -- and the buffer is as it was
  pub piece_back : (before : ℕ) (old new : Device) (ticket : ℕ) (how : Moved) → IsReady old → TransferGives before old new (flight_of ticket true pp.disk first 256 buf) how → IfMoved how (λ back. back ≡ buf)
  piece_back before old new ticket (moved.Done back) ready (now, out, ends) =
      let f = flight_of ticket true pp.disk first 256 buf in
      let it = one_left f now.flights new.flights ends.flight (out_flights old now f out ready.flights) ends.flights in
      ends.kept (ap (λ (g : Flight). g.write) it.0) ∙ ap (λ (g : Flight). g.buf) it.0
  piece_back before old new ticket (moved.Failed back) ready gives = tt
  piece_back before old new ticket (moved.Dark started) ready gives = tt
  piece_back before old new ticket moved.Stuck ready gives = tt

-- ---- one piece after another

module _ (mib : ℕ) (pp : Pp) (old mid : Device) where
  -- zeros stay zeros while zeros are written
  pub zeros_stay : (targets : ℕ → Bool) → KeepsShelf targets (IsZeroOf mib pp) old mid → (from to : ℕ) → AreZeroed mib pp from to old → AreZeroed mib pp from to mid
  zeros_stay targets keeps from to zeros = if_told mid.media (λ media. (k : ℕ) → from ≤ k → k < to → media pp.disk (data_start + partition_blocks mib * pp.pp + k) ≡ zero_sector)
      (λ n is k low high.
      let s : ℕ = data_start + partition_blocks mib * pp.pp + k in
      let back = both_from old.media mid.media (λ was is. ChangesBy (IsZeroOf mib pp) (image_of old.sizes was) (image_of mid.sizes is)) n keeps.media is in
      ⊎_elim
      (λ (same : n pp.disk s ≡ back.0 pp.disk s). same ∙ told_at old.media (λ media. (i : ℕ) → from ≤ i → i < to → media pp.disk (data_start + partition_blocks mib * pp.pp + i) ≡ zero_sector) back.0 back.1 zeros k low high)
      (λ (zero : IsZeroOf mib pp pp.disk s (n pp.disk s)). zero.1)
      (back.2.each pp.disk s))

  pub zeros_join : (a b c : ℕ) → AreZeroed mib pp a b mid → AreZeroed mib pp b c mid → AreZeroed mib pp a c mid
  zeros_join a b c one two =
      let At : ℕ → ℕ → Media → Type 0 = λ from to media. (k : ℕ) → from ≤ k → k < to → media pp.disk (data_start + partition_blocks mib * pp.pp + k) ≡ zero_sector in
      if_told mid.media (At a c)
      (λ n is k low high. ⊎_elim
      (λ (less : k < b). told_at mid.media (At a b) n is one k low less)
      (λ (more : b ≤ k). told_at mid.media (At b c) n is two k more high)
      (cases_lt k b))

  pub no_zeros : AreZeroed mib pp 0 0 mid
  no_zeros = if_told mid.media (λ media. (k : ℕ) → 0 ≤ k → k < 0 → media pp.disk (data_start + partition_blocks mib * pp.pp + k) ≡ zero_sector) (λ n is k low high. absurd (omega (arith, high)))

  -- all of the partition
  pub all_zeroed : (n : ℕ) → n ≡ 8 * mib → AreZeroed mib pp 0 (256 * n) mid → IsZeroed mib pp mid
  all_zeroed n whole zeros =
      if_told mid.media (λ media. (d s : ℕ) → IsSectorOf mib pp d s → media d s ≡ zero_sector)
      (λ m is d s its.
      let low = its.low in
      let high = its.high in
      let place : s ≡ data_start + partition_blocks mib * pp.pp + (s - (data_start + partition_blocks mib * pp.pp)) = omega (arith, low) in
      ap (λ (x : ℕ). m x s) its.disk
      ∙ ap (λ (x : ℕ). m pp.disk x) place
      ∙ told_at mid.media (λ media. (k : ℕ) → 0 ≤ k → k < 256 * n → media pp.disk (data_start + partition_blocks mib * pp.pp + k) ≡ zero_sector) m is zeros
      (s - (data_start + partition_blocks mib * pp.pp)) (omega arith) (omega (arith, low, high, whole)))
