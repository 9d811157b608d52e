-- The blocks of a volume are fewer than 2 ^ 40.
use Rattle.std.proofs.Common.{◌≡◌, ℕ, zero, suc, ◌+◌, ◌*◌, ◌^◌, ◌<◌, ◌≤◌, ◌==◌, Bool, true, false, ◌||◌, List, [], ◌∷◌, length, map, get_or, Some, refl, subst, ap, arith, length-append, if◌then◌else◌}
use Rattle.std.specs.Prelude.{find}
use Rattle.std.specs.List.{list_any, AllByRecursion}
use Rattle.std.proofs.Math.Nat.{mul-le-mul_right}
use Rattle.std.proofs.lemmas.Bool.{eqb-true}
use Rattle.lvm_num.specs.declared.descriptor.LvRow.{LvRow}
use Rattle.lvm_num.specs.declared.descriptor.Descriptor.{Descriptor}
use Rattle.lvm_num.specs.Descriptor.{IsLaidOut, IsValid, IsVolume, is_size, partitions_in, volume_of}
use Rattle.lvm_num.specs.Geometry.{volume_blocks}
use Rattle.lvm_num.proofs.MarksLemmas.Maps.{find-Some}
use Rattle.lvm_num.proofs.MarksLemmas.Spots.{bounded, few_apart}

-- ---- partitions that are all different are few

few_partitions : (d : Descriptor) → IsValid d → length (partitions_in d.lvs) ≤ 130048
few_partitions d valid = few_apart (partitions_in d.lvs) (λ k e lt. bounded d valid (get_or (partitions_in d.lvs) k e) (valid.maps.places k e lt)) valid.maps.used_once

-- ---- those of one volume are among them

map_few : (rows : List LvRow) (row : LvRow) (lv : ℕ) → find (λ (r : LvRow). r.number == lv) rows ≡ Some row → length row.map ≤ length (partitions_in rows)
map_few [] row lv is = absurd (cc is)
map_few (r ∷ rows) row lv is = by (λ e. map_few rows row lv e) (r.number == lv) is
  where
    all : length (partitions_in (r ∷ rows)) ≡ length r.map + length (partitions_in rows)
    all = length-append r.map (partitions_in rows)

    by : (find (λ (x : LvRow). x.number == lv) rows ≡ Some row → length row.map ≤ length (partitions_in rows)) → (b : Bool) → (if b then Some r else find (λ (x : LvRow). x.number == lv) rows) ≡ Some row → length row.map ≤ length (partitions_in (r ∷ rows))
    by rest true e = let same : r ≡ row = cc e in let long : length r.map ≡ length row.map = ap (λ (x : LvRow). length x.map) same in omega (arith, all, long)
    by rest false e = let few = rest e in omega (arith, all, few)

-- ---- and its blocks

times_few : (lps copies : ℕ) → 1 ≤ copies → copies ≤ 3 → lps * copies ≤ 130048 → lps ≤ 130048
times_few lps zero low high few = absurd (omega (arith, low))
times_few lps (suc zero) low high few = omega (arith, few)
times_few lps (suc (suc zero)) low high few = omega (arith, few)
times_few lps (suc (suc (suc zero))) low high few = omega (arith, few)
times_few lps (suc (suc (suc (suc copies)))) low high few = absurd (omega (arith, high))

one_of_small : (mib : ℕ) (sizes : List ℕ) → AllByRecursion (λ size. size ≤ 1024) sizes → list_any (λ size. size == mib) sizes ≡ true → mib ≤ 1024
one_of_small mib [] small is = absurd (cc is)
one_of_small mib (size ∷ sizes) small is = by (size == mib) refl (λ e. one_of_small mib sizes small.1 e) is
  where
    by : (b : Bool) → (size == mib) ≡ b → (list_any (λ x. x == mib) sizes ≡ true → mib ≤ 1024) → b || list_any (λ x. x == mib) sizes ≡ true → mib ≤ 1024
    by true same rest e = let is_it = eqb-true size mib same in let low = small.0 in omega (arith, is_it, low)
    by false same rest e = rest e

size_small : (mib : ℕ) → is_size mib ≡ true → mib ≤ 1024
size_small mib is = one_of_small mib (1 ∷ 2 ∷ 4 ∷ 8 ∷ 16 ∷ 32 ∷ 64 ∷ 128 ∷ 256 ∷ 512 ∷ 1024 ∷ [])
    (omega arith, (omega arith, (omega arith, (omega arith, (omega arith, (omega arith, (omega arith, (omega arith, (omega arith, (omega arith, (omega arith, tt))))))))))) is

all_below : (mib lps : ℕ) → mib ≤ 1024 → lps ≤ 130048 → 2048 * mib * lps < 2 ^ 40
all_below mib lps size few =
    let small : 2048 * mib ≤ 2097152 = omega (arith, size) in
    let more : 2048 * mib * lps ≤ 2097152 * lps = mul-le-mul_right lps small in
    omega (arith, more, few)

pub blocks_fit : (d : Descriptor) (lv : ℕ) (row : LvRow) → IsValid d → volume_of d lv ≡ Some row → volume_blocks d.mib row.lps < 2 ^ 40
blocks_fit d lv row valid is =
    let found = find-Some (λ (r : LvRow). r.number == lv) d.lvs row is in
    let volume : IsVolume d.big row = subst (IsVolume d.big) (found.1.2 row) (valid.volumes.each found.1.0 row found.1.1) in
    let laid : IsLaidOut row = subst IsLaidOut (found.1.2 row) (valid.maps.laid_out found.1.0 row found.1.1) in
    let whole = laid.whole in
    let few = map_few d.lvs row lv is in
    let all = few_partitions d valid in
    all_below d.mib row.lps (size_small d.mib valid.head.size) (times_few row.lps row.copies volume.a_copy volume.copies (omega (arith, whole, few, all)))
