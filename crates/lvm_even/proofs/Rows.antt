-- The rows of a group, and lists of copies.
use Rattle.std.proofs.Common.{◌≡◌, inl, inr, ℕ, zero, suc, ◌<◌, ◌≤◌, Bool, true, false, List, [], ◌∷◌, Some, refl, sym, ap, subst, arith, rules}
use Rattle.std.specs.Prelude.{IsTrue, ◌==◌, if◌then◌else◌, find, AllPairs, length, slice_index_or}
use Rattle.std.proofs.lemmas.Bool.{eq-eqb, eqb-true}
use Rattle.lvm_num.specs.declared.descriptor.LvRow.{LvRow}
use Rattle.lvm_num.specs.declared.descriptor.Descriptor.{Descriptor}
use Rattle.lvm_num.specs.Descriptor.{IsValid, is_size, volume_of}
use Rattle.lvm_kept.specs.Group.{IsOneOf}
pub use Rattle.lvm_commit.proofs.passed.Steps.{at_passing, some_passing, none_passing, passes_none}

less : (r : LvRow) (rows : List LvRow) (row : LvRow) → ((j : ℕ) (d : LvRow) → j < length rows → r.number < (slice_index_or rows j d).number) → IsOneOf rows row → r.number < row.number
less r [] row rise one = absurd one
less r (x ∷ xs) row rise (inl here) = subst (λ (y : LvRow). r.number < y.number) (sym here) (rise 0 r (omega arith))
less r (x ∷ xs) row rise (inr one) = less r xs row (λ j d w. rise (suc j) d (omega (arith, w))) one

-- a row of a valid group is the volume of its number
row_found : (rows : List LvRow) (row : LvRow) → AllPairs (λ (a b : LvRow). a.number < b.number) rows → IsOneOf rows row → find (λ (r : LvRow). r.number == row.number) rows ≡ Some row
row_found [] row rise one = absurd one
row_found (r ∷ rows) row rise (inl here) = by (r.number == row.number) (subst (λ (x : LvRow). IsTrue (x.number == row.number)) here (eq-eqb row.number row.number refl))
  where
    by : (t : Bool) → IsTrue t → (if t then Some r else find (λ (r : LvRow). r.number == row.number) rows) ≡ Some row
    by true is = ap (λ (x : LvRow). Some x) (sym here)
    by false is = absurd cc
row_found (r ∷ rows) row rise (inr there) = by (r.number == row.number) refl (less r rows row (λ j d w. rise 0 (suc j) d (omega arith) (omega (arith, w))) there)
    (row_found rows row (λ i j d l w. rise (suc i) (suc j) d (omega (arith, l)) (omega (arith, w))) there)
  where
    by : (t : Bool) → (r.number == row.number) ≡ t → r.number < row.number → find (λ (r : LvRow). r.number == row.number) rows ≡ Some row → (if t then Some r else find (λ (r : LvRow). r.number == row.number) rows) ≡ Some row
    by true is low rest = absurd (let same = eqb-true r.number row.number is in omega (arith, low, same))
    by false is low rest = rest

pub row_is_volume : (group : Descriptor) (row : LvRow) → IsValid group → IsOneOf group.lvs row → volume_of group row.number ≡ Some row
row_is_volume group row valid one = row_found group.lvs row valid.volumes.numbers_rise one

-- the partitions of a valid group have some size
size_positive : (mib : ℕ) → is_size mib ≡ true → 1 ≤ mib
size_positive zero is = absurd cc
size_positive (suc mib) is = omega arith

pub mib_positive : (d : Descriptor) → IsValid d → 1 ≤ d.mib
mib_positive d valid = size_positive d.mib (search (rules, valid.head.size))
