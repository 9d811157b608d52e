-- Members that stay when others leave.
use Rattle.std.proofs.Common.{◌≡◌, ℕ, Bool, true, false, ◌&&◌, ◌||◌, not, List, [], ◌∷◌, Option, Some, None, refl, sym, ◌∙◌, ap}
use Rattle.std.specs.Prelude.{◌==◌, if◌then◌else◌, filter, find}
use Rattle.std.specs.List.{list_any}
use Rattle.std.proofs.lemmas.Bool.{eqb-true, false≢true}
use Rattle.lvm_num.specs.declared.descriptor.PvRow.{PvRow}
use Rattle.lvm_num.specs.Disks.{Disks}
use Rattle.lvm_change_laws.specs.Rule.{no_member, staying}

-- where none leaves all stay
pub all_stay : (rows : List PvRow) → staying no_member rows ≡ rows
all_stay [] = refl
all_stay (row ∷ rows) = ap (λ (rest : List PvRow). row ∷ rest) (all_stay rows)

abbrev any_so : (PvRow → Bool) → ℕ → List PvRow → Bool
any_so t d rows = list_any (λ (row : PvRow). row.disk == d && t row) rows

abbrev any_at : ℕ → List PvRow → Bool
any_at d rows = list_any (λ (row : PvRow). row.disk == d) rows

abbrev row_at : ℕ → List PvRow → Option PvRow
row_at d rows = find (λ (r : PvRow). r.disk == d) rows

-- of the rows of one disk some has a property just where one has and the disk doesn't leave
pub staying_any : (leaves : Disks) (t : PvRow → Bool) (d : ℕ) (rows : List PvRow)
    → list_any (λ (row : PvRow). row.disk == d && t row) (staying leaves rows) ≡ (list_any (λ (row : PvRow). row.disk == d && t row) rows && not (leaves d))
staying_any leaves t d [] = refl
staying_any leaves t d (row ∷ rows) = by (leaves row.disk) (row.disk == d) refl refl (staying_any leaves t d rows)
  where
    here : (same : Bool) → same ≡ true → (row.disk == d) ≡ same → leaves d ≡ leaves row.disk
    here same is its = sym (ap leaves (eqb-true row.disk d (its ∙ is)))

    by : (goes same : Bool) → leaves row.disk ≡ goes → (row.disk == d) ≡ same → any_so t d (staying leaves rows) ≡ (any_so t d rows && not (leaves d))
        → any_so t d (if not goes then row ∷ staying leaves rows else staying leaves rows) ≡ (((same && t row) || any_so t d rows) && not (leaves d))
    by true true goes same rest = rest ∙ gone (any_so t d rows) (t row || any_so t d rows) (leaves d) (here true refl same ∙ goes)
      where
        gone : (a b l : Bool) → l ≡ true → (a && not l) ≡ (b && not l)
        gone true true true is = refl
        gone true false true is = refl
        gone false true true is = refl
        gone false false true is = refl
        gone a b false is = absurd (false≢true is)
    by true false goes same rest = rest
    by false true goes same rest = ap (λ (b : Bool). (b && t row) || any_so t d (staying leaves rows)) same ∙ ap (λ (b : Bool). t row || b) rest ∙ stays (t row) (any_so t d rows) (leaves d) (here true refl same ∙ goes)
      where
        stays : (a b l : Bool) → l ≡ false → (a || (b && not l)) ≡ ((a || b) && not l)
        stays true b false is = refl
        stays false b l is = refl
        stays true b true is = absurd (false≢true (sym is))
    by false false goes same rest = ap (λ (b : Bool). (b && t row) || any_so t d (staying leaves rows)) same ∙ rest

-- a disk is a member then just where it was and doesn't leave
pub staying_member : (leaves : Disks) (d : ℕ) (rows : List PvRow) → list_any (λ (row : PvRow). row.disk == d) (staying leaves rows) ≡ (list_any (λ (row : PvRow). row.disk == d) rows && not (leaves d))
staying_member leaves d [] = refl
staying_member leaves d (row ∷ rows) = by (leaves row.disk) (row.disk == d) refl refl (staying_member leaves d rows)
  where
    here : (row.disk == d) ≡ true → leaves d ≡ leaves row.disk
    here its = sym (ap leaves (eqb-true row.disk d its))

    by : (goes same : Bool) → leaves row.disk ≡ goes → (row.disk == d) ≡ same → any_at d (staying leaves rows) ≡ (any_at d rows && not (leaves d))
        → any_at d (if not goes then row ∷ staying leaves rows else staying leaves rows) ≡ ((same || any_at d rows) && not (leaves d))
    by true true goes same rest = rest ∙ gone (any_at d rows) (leaves d) (here same ∙ goes)
      where
        gone : (a l : Bool) → l ≡ true → (a && not l) ≡ (true && not l)
        gone true l is = refl
        gone false true is = refl
        gone false false is = absurd (false≢true is)
    by true false goes same rest = rest
    by false true goes same rest = ap (λ (b : Bool). b || any_at d (staying leaves rows)) same ∙ stays (leaves d) (here same ∙ goes)
      where
        stays : (l : Bool) → l ≡ false → true ≡ (true && not l)
        stays false is = refl
        stays true is = absurd (false≢true (sym is))
    by false false goes same rest = ap (λ (b : Bool). b || any_at d (staying leaves rows)) same ∙ rest

-- its row is the one that it had
pub staying_row : (leaves : Disks) (d : ℕ) (rows : List PvRow) (row : PvRow) → find (λ (r : PvRow). r.disk == d) (staying leaves rows) ≡ Some row → find (λ (r : PvRow). r.disk == d) rows ≡ Some row
staying_row leaves d [] row is = absurd cc
staying_row leaves d (x ∷ xs) row is = by (leaves x.disk) (x.disk == d) refl refl (staying_row leaves d xs row) is
  where
    none : (rows : List PvRow) → leaves d ≡ true → row_at d (staying leaves rows) ≡ None
    none [] goes = refl
    none (y ∷ ys) goes = by_none (leaves y.disk) (y.disk == d) refl refl (none ys goes)
      where
        by_none : (out same : Bool) → leaves y.disk ≡ out → (y.disk == d) ≡ same → row_at d (staying leaves ys) ≡ None → row_at d (if not out then y ∷ staying leaves ys else staying leaves ys) ≡ None
        by_none true same out its rest = rest
        by_none false true out its rest = absurd (false≢true (sym out ∙ ap leaves (eqb-true y.disk d its) ∙ goes))
        by_none false false out its rest = ap (λ (b : Bool). if b then Some y else row_at d (staying leaves ys)) its ∙ rest

    by : (goes same : Bool) → leaves x.disk ≡ goes → (x.disk == d) ≡ same → (row_at d (staying leaves xs) ≡ Some row → row_at d xs ≡ Some row)
        → row_at d (if not goes then x ∷ staying leaves xs else staying leaves xs) ≡ Some row → (if same then Some x else row_at d xs) ≡ Some row
    by true true goes same rest found = absurd (let e : None ≡ Some row = sym (none xs (sym (ap leaves (eqb-true x.disk d same)) ∙ goes)) ∙ found in cc (e))
    by true false goes same rest found = rest found
    by false true goes same rest found = sym (ap (λ (b : Bool). if b then Some x else row_at d (staying leaves xs)) same) ∙ found
    by false false goes same rest found = rest (sym (ap (λ (b : Bool). if b then Some x else row_at d (staying leaves xs)) same) ∙ found)
