-- Whether a table has a row for exactly the members.
use Rattle.std.proofs.Common.{◌≡◌, inl, inr, ℕ, Bool, true, false, ◌&&◌, ◌||◌, List, [], ◌∷◌, get_or, refl, sym, ap, ◌∙◌, arith}
use Rattle.std.specs.Prelude.{◌==◌}
use Rattle.std.specs.List.{list_any, list_all}
use Rattle.std.proofs.lemmas.Bool.{eq-eqb, eqb-true, false≢true}
use Rattle.std.proofs.lemmas.List.Folds.{Any-from_list_any, list_any_at, list_all_at}
use Rattle.lvm_status.specs.passed.Num.{PvRow, Descriptor, StatusRow, Status, is_member}
use Rattle.lvm_status.specs.Table.{has_row}
use Rattle.lvm_status.proofs.passed.Num.{same_answer}
use Rattle.lvm_status.specs.Members.{HasItsRows, all_rows, all_members}
use Rattle.lvm_status.proofs.Disks.{bool_tells}
use Rattle.lvm_status.proofs.RunsLemmas.Sound.{and_left, and_right, both}

-- elements by their numbers, of which each passes a test, and one is found
module _ {X : Type 0} (number : X → ℕ) (test : ℕ → Bool) where
  pub passes : (xs : List X) (n : ℕ) → list_all (λ x. test (number x)) xs ≡ true → list_any (λ x. number x == n) xs ≡ true → test n ≡ true
  passes xs n every some =
      let found = Any-from_list_any (λ x. number x == n) xs some in
      let its : number (get_or xs found.0 found.1) ≡ n = ap number found.3 ∙ eqb-true (number found.1) n found.4 in
      elim (bool_tells (test n)) [
        | inl is ↦ is
        | inr isnt ↦ absurd (false≢true (sym (list_all_at (λ x. test (number x)) xs found.0 found.1 found.2 (ap test its ∙ isnt)) ∙ every))
      ]

  pub all_pass : (xs : List X) → ((n : ℕ) → list_any (λ x. number x == n) xs ≡ true → test n ≡ true) → list_all (λ x. test (number x)) xs ≡ true
  all_pass [] each = refl
  all_pass (x ∷ xs) each =
      both (test (number x)) (list_all (λ y. test (number y)) xs)
      (each (number x) (list_any_at (λ y. number y == number x) (x ∷ xs) 0 x (omega arith) (eq-eqb (number x) (number x) refl)))
      (all_pass xs (λ n some. each n (later (number x == n) (list_any (λ y. number y == n) xs) some)))
    where
      later : (a b : Bool) → b ≡ true → a || b ≡ true
      later true b e = refl
      later false b e = e

pub rows_are : (d : Descriptor) (s : Status) → all_rows d s && all_members d s ≡ true → HasItsRows d s
rows_are d s is disk =
    same_answer (has_row s disk) (is_member d disk)
    (passes (λ (row : StatusRow). row.disk) (is_member d) s.rows disk (and_right (all_rows d s) (all_members d s) is))
    (passes (λ (member : PvRow). member.disk) (has_row s) d.pvs disk (and_left (all_rows d s) (all_members d s) is))

pub rows_tell : (d : Descriptor) (s : Status) → HasItsRows d s → all_rows d s && all_members d s ≡ true
rows_tell d s has =
    both (all_rows d s) (all_members d s)
    (all_pass (λ (member : PvRow). member.disk) (has_row s) d.pvs (λ disk is. has disk ∙ is))
    (all_pass (λ (row : StatusRow). row.disk) (is_member d) s.rows (λ disk is. sym (has disk) ∙ is))
