-- Two statuses that say the same are one.
use Rattle.std.proofs.Common.{◌≡◌, ◌==◌, ℕ, Bool, true, ◌&&◌, not, List, [], ◌∷◌, if◌then◌else◌, refl, ap, ◌∙◌}
use Rattle.std.specs.Prelude.{bytes_eq}
use Rattle.std.proofs.lemmas.Bool.{eqb-true, and_parts}
use Rattle.std.proofs.lemmas.Slice.Eq.{bytes_eq-Decides}
use Rattle.lvm_num.specs.declared.status.Status.{Status}
use Rattle.lvm_num.specs.declared.status.StatusRow.{StatusRow}
use Rattle.lvm_num.proofs.Booleans.{same_by_if}
use Rattle.lvm_session.specs.Enabled.{same_row, same_rows, same_status}

row_is : (a b : StatusRow) → same_row a b ≡ true → a ≡ b
row_is a b e =
    let first = and_parts (a.disk == b.disk && (if a.missing then b.missing else not b.missing)) (bytes_eq a.stale b.stale) e in
    let second = and_parts (a.disk == b.disk) (if a.missing then b.missing else not b.missing) first.0 in
    ap (λ (n : ℕ). record a { disk = n }) (eqb-true a.disk b.disk second.0) ∙ ap (λ (t : Bool). record a { disk = b.disk; missing = t }) (same_by_if a.missing b.missing second.1)
    ∙ ap (λ (x : List ℕ). record b { stale = x }) ((bytes_eq-Decides a.stale b.stale).0 first.1)

rows_are : (xs ys : List StatusRow) → same_rows xs ys ≡ true → xs ≡ ys
rows_are [] [] e = refl
rows_are [] (y ∷ ys) e = absurd (cc e)
rows_are (x ∷ xs) [] e = absurd (cc e)
rows_are (x ∷ xs) (y ∷ ys) e = let it = and_parts (same_row x y) (same_rows xs ys) e in ap (λ (r : StatusRow). r ∷ xs) (row_is x y it.0) ∙ ap (λ (rs : List StatusRow). y ∷ rs) (rows_are xs ys it.1)

pub status_is : (a b : Status) → same_status a b ≡ true → a ≡ b
status_is a b e =
    let third = and_parts (a.id == b.id && (if a.big then b.big else not b.big) && bytes_eq a.dirty b.dirty) (same_rows a.rows b.rows) e in
    let second = and_parts (a.id == b.id && (if a.big then b.big else not b.big)) (bytes_eq a.dirty b.dirty) third.0 in
    let first = and_parts (a.id == b.id) (if a.big then b.big else not b.big) second.0 in
    ap (λ (n : ℕ). record a { id = n }) (eqb-true a.id b.id first.0) ∙ ap (λ (t : Bool). record a { id = b.id; big = t }) (same_by_if a.big b.big first.1)
    ∙ ap (λ (x : List ℕ). record a { id = b.id; big = b.big; dirty = x }) ((bytes_eq-Decides a.dirty b.dirty).0 second.1) ∙ ap (λ (rs : List StatusRow). record b { rows = rs }) (rows_are a.rows b.rows third.1)
