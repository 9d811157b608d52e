-- Where the blocks of a raw request lie, and what its flight carries.
use Rattle.std.proofs.Common.{◌≡◌, ◌==◌, nat_le, nat_lt, ◌≤◌, ◌<◌, ◌+◌, ◌-◌, ◌&&◌, ◌∷◌, [], ℕ, zero, suc, List, Bool, Some, None, true, false, cond, length, take, slice_get, slice_index_or, refl, sym, ◌∙◌, ap, arith}
use Rattle.std.proofs.lemmas.Bool.{eqb-true, ltb-true, leb-true}
use Rattle.lvm_disk.specs.passed.Num.{Buffer, Sector}
use Rattle.lvm_vol.specs.declared.entry.Vol.TheVariants.{Disk}
use Rattle.lvm_vol.specs.Facts.{is_over}
use Rattle.lvm_kept.specs.Raw.{raw_request, CarriesRequest}

pub over_here : (run id disk at count : ℕ) (write : Bool) (blocks : List Sector) (d b : ℕ) → is_over (raw_request run id disk at count write blocks) (Disk d) b ≡ true → (d ≡ disk) × (at ≤ b) × (b < at + count)
over_here run id disk at count write blocks d b over = go (disk == d) (nat_le at b) (nat_lt b (at + count)) refl refl refl over
  where
    go : (s t u : Bool) → (disk == d) ≡ s → nat_le at b ≡ t → nat_lt b (at + count) ≡ u → (s && t && u) ≡ true → (d ≡ disk) × (at ≤ b) × (b < at + count)
    go true true true p q r all = (sym (eqb-true disk d p), leb-true at b q, ltb-true b (at + count) r)
    go true true false p q r all = absurd (cc)
    go true false u p q r all = absurd (cc)
    go false t u p q r all = absurd (cc)

in_front : (n i : ℕ) (xs : List Sector) → i < n → n ≤ length xs → slice_get xs i ≡ Some (slice_index_or (take n xs) i [])
in_front zero i xs within long = absurd (omega (arith, within))
in_front (suc n) i [] within long = absurd (omega (arith, long))
in_front (suc n) zero (x ∷ xs) within long = refl
in_front (suc n) (suc i) (x ∷ xs) within long = in_front n i xs (omega (arith, within)) (omega (arith, long))

-- a write's flight carries the front of its buffer
pub carries_front :
    (run id disk at count ticket : ℕ) (buf : Buffer) → count ≤ length buf.sectors
    → CarriesRequest (raw_request run id disk at count true (take count buf.sectors)) (record { ticket = ticket; disk = disk; first = at; count = count; write = true; buf = buf })
carries_front run id disk at count ticket buf long = record {
  write = refl;
  there = λ d s over. let w = over_here run id disk at count true (take count buf.sectors) d s over in
      ap (λ (t : Bool). cond t (slice_get buf.sectors (s - at)) None) over ∙ in_front count (s - at) buf.sectors (let p = w.1 in let q = w.2 in omega (arith, p, q)) long;
  elsewhere = λ d s other. ap (λ (t : Bool). cond t (slice_get buf.sectors (s - at)) None) other;
}
