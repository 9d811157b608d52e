-- Rows of members, whether they are spares or not.
use Rattle.std.proofs.Common.{◌≡◌, ℕ, Bool, true, false, ◌||◌, List, [], ◌∷◌, map, Some, refl, ap}
use Rattle.std.specs.Prelude.{◌==◌, if◌then◌else◌, find}
use Rattle.std.specs.List.{list_any}
use Rattle.lvm_num.specs.declared.descriptor.PvRow.{PvRow}
use Rattle.lvm_change_laws.specs.Rule.{unspared}

abbrev pub unspared_row : PvRow → PvRow
unspared_row row = record row { spare = false }

-- what doesn't ask for spares finds the same
pub unspared_any : (t : PvRow → Bool) → ((row : PvRow) → t (unspared_row row) ≡ t row) → (rows : List PvRow) → list_any t (unspared rows) ≡ list_any t rows
unspared_any t same [] = refl
unspared_any t same (row ∷ rows) = λ i. same row i || unspared_any t same rows i

pub unspared_found : (d : ℕ) (rows : List PvRow) (row : PvRow) → find (λ (r : PvRow). r.disk == d) rows ≡ Some row → find (λ (r : PvRow). r.disk == d) (unspared rows) ≡ Some (unspared_row row)
unspared_found d [] row is = absurd (cc is)
unspared_found d (x ∷ xs) row is = by (x.disk == d) (unspared_found d xs row) is
  where
    by : (b : Bool) → (find (λ (r : PvRow). r.disk == d) xs ≡ Some row → find (λ (r : PvRow). r.disk == d) (unspared xs) ≡ Some (unspared_row row))
        → (if b then Some x else find (λ (r : PvRow). r.disk == d) xs) ≡ Some row
        → (if b then Some (unspared_row x) else find (λ (r : PvRow). r.disk == d) (unspared xs)) ≡ Some (unspared_row row)
    by true rest found = let same : x ≡ row = cc found in ap (λ (r : PvRow). Some (unspared_row r)) same
    by false rest found = rest found

pub unspared_disks : (rows : List PvRow) → map (λ (row : PvRow). row.disk) (unspared rows) ≡ map (λ (row : PvRow). row.disk) rows
unspared_disks [] = refl
unspared_disks (row ∷ rows) = ap (λ (disks : List ℕ). row.disk ∷ disks) (unspared_disks rows)
