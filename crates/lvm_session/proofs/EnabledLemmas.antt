-- Two statuses say the same exactly where they are one.
use Rattle.std.proofs.Common.{◌≡◌, ◌==◌, ℕ, Bool, true, false, List, [], ◌∷◌, refl, ◌∙◌, ap}
use Rattle.std.specs.Prelude.{◌&&◌, not, bytes_eq, if◌then◌else◌}
use Rattle.std.specs.Bool.{Decides}
use Rattle.std.proofs.lemmas.Bool.Decides.{Decides-and, Decides-eqb, Decides-like}
use Rattle.std.proofs.lemmas.Slice.Eq.{bytes_eq-Decides}
use Rattle.lvm_num.specs.declared.status.Status.{Status}
use Rattle.lvm_num.specs.declared.status.StatusRow.{StatusRow}
use Rattle.lvm_session.specs.Enabled.{same_row, same_rows, same_status}

same_bits : (a b : Bool) → Decides (if a then b else not b) (a ≡ b)
same_bits true true = (λ is. refl, λ is. refl)
same_bits true false = (λ is. absurd cc, λ is. absurd cc)
same_bits false true = (λ is. absurd cc, λ is. absurd cc)
same_bits false false = (λ is. refl, λ is. refl)

rows_one : (a b : StatusRow) → Decides (same_row a b) (a ≡ b)
rows_one a b = Decides-like (same_row a b) (λ is. alike is.0.0 is.0.1 is.1) (λ is. ((ap (λ (r : StatusRow). r.disk) is, ap (λ (r : StatusRow). r.missing) is), ap (λ (r : StatusRow). r.stale) is))
    (Decides-and (a.disk == b.disk && (if a.missing then b.missing else not b.missing)) (bytes_eq a.stale b.stale)
    (Decides-and (a.disk == b.disk) (if a.missing then b.missing else not b.missing) (Decides-eqb a.disk b.disk) (same_bits a.missing b.missing)) (bytes_eq-Decides a.stale b.stale))
  where
    alike : a.disk ≡ b.disk → a.missing ≡ b.missing → a.stale ≡ b.stale → a ≡ b
    alike d m s = ap (λ n. record a { disk = n }) d ∙ ap (λ (t : Bool). record a { disk = b.disk; missing = t }) m ∙ ap (λ (x : List ℕ). record b { stale = x }) s

heads : {x y : StatusRow} {xs ys : List StatusRow} → x ∷ xs ≡ y ∷ ys → x ≡ y
heads e = cc e

tails : {x y : StatusRow} {xs ys : List StatusRow} → x ∷ xs ≡ y ∷ ys → xs ≡ ys
tails e = cc e

all_rows_one : (rows bs : List StatusRow) → Decides (same_rows rows bs) (rows ≡ bs)
all_rows_one [] [] = (λ is. refl, λ is. refl)
all_rows_one [] (b ∷ bs) = (λ is. absurd cc, λ is. absurd (cc is))
all_rows_one (a ∷ more) [] = (λ is. absurd cc, λ is. absurd (cc is))
all_rows_one (a ∷ more) (b ∷ bs) =
    Decides-like (same_rows (a ∷ more) (b ∷ bs)) (λ is. ap (λ (r : StatusRow). r ∷ more) is.0 ∙ ap (λ (rs : List StatusRow). b ∷ rs) is.1) (λ is. (heads is, tails is))
    (Decides-and (same_row a b) (same_rows more bs) (rows_one a b) (all_rows_one more bs))

pub status_one : (a b : Status) → Decides (same_status a b) (a ≡ b)
status_one a b =
    Decides-like (same_status a b) (λ is. alike is.0.0.0 is.0.0.1 is.0.1 is.1)
    (λ is. (((ap (λ (s : Status). s.id) is, ap (λ (s : Status). s.big) is), ap (λ (s : Status). s.dirty) is), ap (λ (s : Status). s.rows) is))
    (Decides-and (a.id == b.id && (if a.big then b.big else not b.big) && bytes_eq a.dirty b.dirty) (same_rows a.rows b.rows)
    (Decides-and (a.id == b.id && (if a.big then b.big else not b.big)) (bytes_eq a.dirty b.dirty)
    (Decides-and (a.id == b.id) (if a.big then b.big else not b.big) (Decides-eqb a.id b.id) (same_bits a.big b.big)) (bytes_eq-Decides a.dirty b.dirty)) (all_rows_one a.rows b.rows))
  where
    alike : a.id ≡ b.id → a.big ≡ b.big → a.dirty ≡ b.dirty → a.rows ≡ b.rows → a ≡ b
    alike i g d r =
        ap (λ n. record a { id = n }) i ∙ ap (λ (t : Bool). record a { id = b.id; big = t }) g ∙ ap (λ (x : List ℕ). record a { id = b.id; big = b.big; dirty = x }) d
        ∙ ap (λ (x : List StatusRow). record b { rows = x }) r
