-- The row of a transfer that was out is in the list.
use Rattle.std.proofs.Common.{◌≡◌, ◌==◌, ◌<◌, ◌++◌, ℕ, zero, suc, Bool, true, cond, List, [], ◌∷◌, Option, Some, None, length, slice_get, slice_index_or, refl, sym, ◌∙◌, ap, subst, arith}
use Rattle.std.specs.Prelude.{position}
use Rattle.std.specs.List.{list_any, position_or_len}
use Rattle.std.proofs.lemmas.Bool.{eq-eqb, lt-ltb, or_left, or_right}
use Rattle.std.proofs.lemmas.List.Folds.{find_at}
use Rattle.lvm_num.proofs.MarksLemmas.Maps.{find-Some}
use Rattle.lvm_num.proofs.Lists.{any_within}
use Rattle.lvm_disk.specs.Device.{Flight}
use Rattle.lvm_disk.specs.Steps.{Removes}
use Rattle.lvm_session.specs.declared.flown.Flown.{Flown}
use Rattle.lvm_session.specs.State.{Core}
use Rattle.lvm_session.specs.Owners.{AreRows}

-- ---- a search by a test

-- it finds one, where there is one
pub finds : {X : Type 0} (t : X → Bool) (rows : List X) → list_any t rows ≡ true → position t rows ≡ Some (position_or_len t rows)
finds t rows any = let is = lt-ltb (position_or_len t rows) (length rows) (any_within t rows any) in ap (λ (b : Bool). cond b (Some (position_or_len t rows)) None) is

pub some_there : {X : Type 0} (rows : List X) (k : ℕ) → k < length rows → (row : X) × (slice_get rows k ≡ Some row)
some_there [] k within = absurd (omega (arith, within))
some_there (row ∷ rows) zero within = (row, refl)
some_there (row ∷ rows) (suc k) within = some_there rows k (omega (arith, within))

read_same : {X : Type 0} (rows : List X) (k : ℕ) (read row : X) → slice_get rows k ≡ Some row → read ≡ slice_index_or rows k read → read ≡ row
read_same [] k read row there is = absurd (cc there)
read_same (r ∷ rows) zero read row there is = let same : r ≡ row = cc there in is ∙ same
read_same (r ∷ rows) (suc k) read row there is = read_same rows k read row there is

-- what stands at its place passes
pub record IsAt (t : Flown → Bool) (rows : List Flown) (at : ℕ) (row : Flown) : Type 0 where
  pub there : slice_get rows at ≡ Some row
  pub passes : t row ≡ true

pub is_at : (t : Flown → Bool) (rows : List Flown) (at : ℕ) (read : Flown) → list_any t rows ≡ true → position t rows ≡ Some at → read ≡ slice_index_or rows at read → IsAt t rows at read
is_at t rows at read any is reads =
    let place : position_or_len t rows ≡ at = (let e : ◌≡◌ {A = Option ℕ} (Some (position_or_len t rows)) (Some at) = sym (finds t rows any) ∙ is in cc e) in
    let within = any_within t rows any in
    let it = some_there rows at (omega (arith, within, place)) in
    let same = read_same rows at read it.0 it.1 reads in
    let found = find_at t rows ∙ ap (slice_get rows) place ∙ it.1 in
    record { there = it.1 ∙ ap Some (sym same); passes = ap t same ∙ (find-Some t rows it.0 found).0 }

-- ---- the row of a flight

tickets : (core : Core) (rows : List Flown) (f : Flight) (before after : List Flight) → AreRows core rows (before ++ f ∷ after) → list_any (λ (row : Flown). row.ticket == f.ticket) rows ≡ true
tickets core [] f [] after are = absurd are
tickets core [] f (g ∷ before) after are = absurd are
tickets core (row ∷ rows) f [] after are = or_left (row.ticket == f.ticket) (list_any (λ (r : Flown). r.ticket == f.ticket) rows) (eq-eqb row.ticket f.ticket (sym are.0.ticket))
tickets core (row ∷ rows) f (g ∷ before) after are = or_right (row.ticket == f.ticket) (list_any (λ (r : Flown). r.ticket == f.ticket) rows) (tickets core rows f before after are.1)

pub is_listed : (core : Core) (rows : List Flown) (old new : List Flight) (f : Flight) (ticket : ℕ) → AreRows core rows old → Removes f old new → f.ticket ≡ ticket → list_any (λ (row : Flown). row.ticket == ticket) rows ≡ true
is_listed core rows old new f ticket are removes own =
    subst (λ n. list_any (λ (row : Flown). row.ticket == n) rows ≡ true) own (tickets core rows f removes.before removes.after (subst (AreRows core rows) removes.was are))
