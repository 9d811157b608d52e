-- One sector more is put on a disk.
use Rattle.std.proofs.Common.{◌≡◌, ◌<◌, ◌≤◌, [], ℕ, zero, suc, List, Bool, slice_index, slice_index_or, slice_set, length, length-set, ap, sym, ◌∙◌, subst, ◌∷◌, ◌+◌, take, drop, ◌++◌, replicate, arith}
use Rattle.std.proofs.lemmas.List.{append_assoc, length-replicate, replicate-append-replicate}
use Rattle.lvm_num.specs.Buffer.{Sector, zero_sector, IsSector}
use Rattle.lvm_memory.specs.Media.{sizes_of, put_by, AllSectors}
use Rattle.lvm_memory.specs.Pieces.{joined, AreSizes, IsCut}

-- those of the first i sectors of a buffer are put on a disk in pieces that p picks
pub record PutSoFar (p : ℕ → Bool) (old : List (List Sector)) (kept : ℕ) (now : List (List Sector)) (sectors : List Sector) (first i : ℕ) : Type 0 where
  pub count : length (joined old) ≡ kept
  pub cut : IsCut 2048 (length (joined old)) now
  pub each : (s : ℕ) → slice_index_or (joined now) s [] ≡ put_by p first i sectors (joined old) s

-- the first n sectors of a list stand at the front of a disk in pieces
pub record TakenSoFar (sectors : List Sector) (old : List (List Sector)) (kept : ℕ) (now : List (List Sector)) (n : ℕ) : Type 0 where
  pub count : length (joined old) ≡ kept
  pub cut : IsCut 2048 (length (joined old)) now
  pub is : joined now ≡ take n sectors ++ drop n (joined old)

zero_byte : (n i : ℕ) → slice_index (replicate n 0) i < 256
zero_byte zero i = omega arith
zero_byte (suc n) zero = omega arith
zero_byte (suc n) (suc i) = zero_byte n i

pub zero_is_sector : IsSector zero_sector
zero_is_sector = record { long = length-replicate {A = ℕ} 512 0; bytes = zero_byte 512 }

pub zeros_are_sectors : (n : ℕ) → AllSectors (replicate n zero_sector)
zeros_are_sectors zero s below = absurd (omega arith)
zeros_are_sectors (suc n) zero below = zero_is_sector
zeros_are_sectors (suc n) (suc s) below = zeros_are_sectors n s (omega arith)

set_keeps : (l : List Sector) (i : ℕ) (x : Sector) → IsSector x → AllSectors l → (s : ℕ) → s < length (slice_set l i x) → IsSector (slice_index_or (slice_set l i x) s [])
set_keeps [] i x it all s below = all s below
set_keeps (y ∷ l) zero x it all zero below = it
set_keeps (y ∷ l) zero x it all (suc s) below = all (suc s) below
set_keeps (y ∷ l) (suc i) x it all zero below = all zero (omega arith)
set_keeps (y ∷ l) (suc i) x it all (suc s) below = set_keeps l i x it (λ k less. all (suc k) (omega (arith, less))) s (omega (arith, below))

-- a sector of a disk in pieces is written over
pub set_cut :
    (n count i : ℕ) (old new : List (List Sector)) (x : Sector) → IsCut n count old → IsSector x → sizes_of new ≡ sizes_of old → joined new ≡ slice_set (joined old) i x
    → IsCut n count new
set_cut n count i old new x cut it same set = record {
  counted = cut.counted;
  long = ap length set ∙ length-set (joined old) i x ∙ cut.long;
  sizes = subst (λ (sizes : List ℕ). AreSizes n sizes) (sym same) cut.sizes;
  sectors = subst AllSectors (sym set) (set_keeps (joined old) i x it cut.sectors);
}

take_drop_set : (l m : List Sector) (i : ℕ) (x y : Sector) → x ≡ slice_index_or l i y → i < length l → length m ≡ length l → slice_set (take i l ++ drop i m) i x ≡ take (suc i) l ++ drop (suc i) m
take_drop_set [] m i x y is below same = absurd (omega arith)
take_drop_set (z ∷ l) [] i x y is below same = absurd (omega (arith, same))
take_drop_set (z ∷ l) (w ∷ m) zero x y is below same = ap (λ (v : Sector). v ∷ m) is
take_drop_set (z ∷ l) (w ∷ m) (suc i) x y is below same = ap (λ (k : List Sector). z ∷ k) (take_drop_set l m i x y is (omega arith) (omega (arith, same)))

-- one sector more of the list
pub one_taken :
    (sectors : List Sector) (old now new : List (List Sector)) (count count_now i : ℕ) (x y : Sector) → TakenSoFar sectors old count now i → length sectors ≡ length (joined old)
    → i < length sectors → x ≡ slice_index_or sectors i y → joined new ≡ slice_set (joined now) i x → IsCut 2048 (length (joined now)) new → count_now ≡ count
    → TakenSoFar sectors old count_now new (i + 1)
one_taken sectors old now new count count_now i x y so_far long below is set cut same = let more : suc i ≡ i + 1 = omega arith in record {
  count = so_far.count ∙ sym same;
  cut = subst (λ (n : ℕ). IsCut 2048 n new) so_far.cut.long cut;
  is =
      set ∙ ap (λ (l : List Sector). slice_set l i x) so_far.is ∙ take_drop_set sectors (joined old) i x y is below (sym long)
      ∙ ap (λ (n : ℕ). take n sectors ++ drop n (joined old)) more;
}

-- a disk in pieces is cut as before
pub cut_again : (count : ℕ) (old now : List (List Sector)) → length (joined old) ≡ count → IsCut 2048 (length (joined old)) now → IsCut 2048 count now
cut_again count old now is cut = subst (λ (n : ℕ). IsCut 2048 n now) is cut

-- zeros are added behind sectors
pub record AddedSoFar (old now : List Sector) (n room_old room_now : ℕ) : Type 0 where
  pub is : now ≡ old ++ replicate n zero_sector
  pub room : room_old ≤ room_now

pub one_added :
    (old now new : List Sector) (n room room_now room_new : ℕ) → AddedSoFar old now n room room_now → new ≡ now ++ zero_sector ∷ [] → room_now ≤ room_new
    → AddedSoFar old new (n + 1) room room_new
one_added old now new n room room_now room_new so_far pushed more = record {
  is =
      pushed ∙ ap (λ (l : List Sector). l ++ zero_sector ∷ []) so_far.is ∙ append_assoc old (replicate n zero_sector) (zero_sector ∷ [])
      ∙ ap (λ (l : List Sector). old ++ l) (replicate-append-replicate n 1 zero_sector);
  room = let before = so_far.room in omega (arith, before, more);
}
