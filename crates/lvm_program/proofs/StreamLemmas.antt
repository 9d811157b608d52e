-- Zeros that are written piece by piece.
use Rattle.std.proofs.Common.{◌≡◌, ◌*◌, zero, suc, refl, ◌+◌, ◌-◌, ◌≤◌, ◌++◌, ℕ, List, Option, replicate, sym, ◌∙◌, ap, arith, append_assoc, length-append}
use Rattle.std.proofs.Math.Nat.{suc-mul}
use Rattle.std.proofs.lemmas.List.{append-nil, replicate-append-replicate}
use Rattle.std.specs.List.{flat_map}
use Rattle.lvm_io.specs.Stream.{WhereTold, WritesFront}
use Rattle.lvm_io.proofs.StreamLemmas.Told.{told_on, told_same}

-- rows of zeros, one behind the other, are zeros
pub flat_zeros : (rows count : ℕ) → flat_map (λ (row : List ℕ). row) (replicate rows (replicate count 0)) ≡ replicate (rows * count) 0
flat_zeros zero count = ap (λ (n : ℕ). replicate n 0) {x = 0} {y = 0 * count} (omega arith)
flat_zeros (suc rows) count = ap (λ (l : List ℕ). replicate count 0 ++ l) (flat_zeros rows count) ∙ replicate-append-replicate count (rows * count) 0 ∙ ap (λ (n : ℕ). replicate n 0) {x = count + rows * count} {y = suc rows * count} (omega (arith, suc-mul rows count))

-- so many zeros have been written
pub record BlankSoFar (count : ℕ) (before after : Option (List ℕ)) (faults faults1 : ℕ) : Type 0 where
  pub written : WhereTold before after (λ a b. b ≡ a ++ replicate count 0)
  pub later : faults ≤ faults1
  pub well : faults1 ≡ faults

pub none_yet : (told : Option (List ℕ)) (faults : ℕ) → BlankSoFar 0 told told faults faults
none_yet told faults = record { written = told_same told (λ a b. b ≡ a ++ replicate 0 0) (λ a. sym (append-nil a)); later = omega arith; well = refl }

pub one_more : (count piece : ℕ) (before mid after : Option (List ℕ)) (faults faults1 faults2 : ℕ) → BlankSoFar count before mid faults faults1 → WhereTold mid after (λ a b. b ≡ a ++ replicate piece 0) → faults1 ≤ faults2 → faults2 ≡ faults1
    → BlankSoFar (count + piece) before after faults faults2
one_more count piece before mid after faults faults1 faults2 so_far more later well = record {
  written = told_on before mid after (λ a b. b ≡ a ++ replicate count 0) (λ a b. b ≡ a ++ replicate piece 0) (λ a b. b ≡ a ++ replicate (count + piece) 0)
      (λ a b c p q. q ∙ ap (λ (l : List ℕ). l ++ replicate piece 0) p ∙ append_assoc a (replicate count 0) (replicate piece 0) ∙ ap (λ (l : List ℕ). a ++ l) (replicate-append-replicate count piece 0)) so_far.written more;
  later = omega (arith, so_far.later, later);
  well = well ∙ so_far.well;
}

-- a front of one piece more is a front of them all
pub front_of_all : (count piece all : ℕ) (before mid after : Option (List ℕ)) (faults faults1 : ℕ) → BlankSoFar count before mid faults faults1 → count + piece ≤ all
    → WhereTold mid after (λ a b. WritesFront (replicate piece 0) a b) → WhereTold before after (λ a b. WritesFront (replicate all 0) a b)
front_of_all count piece all before mid after faults faults1 so_far within front =
    told_on before mid after (λ a b. b ≡ a ++ replicate count 0) (λ a b. WritesFront (replicate piece 0) a b) (λ a b. WritesFront (replicate all 0) a b) joined so_far.written front
  where
    left : ℕ
    left = all - (count + piece)

    joined : (a b c : List ℕ) → b ≡ a ++ replicate count 0 → WritesFront (replicate piece 0) b c → WritesFront (replicate all 0) a c
    joined a b c p q = record {
      front = replicate count 0 ++ q.front;
      rest = q.rest ++ replicate left 0;
      split =
          ap (λ (n : ℕ). replicate n 0) {x = all} {y = count + (piece + left)} (omega arith) ∙ sym (replicate-append-replicate count (piece + left) 0)
          ∙ ap (λ (l : List ℕ). replicate count 0 ++ l) (sym (replicate-append-replicate piece left 0) ∙ ap (λ (l : List ℕ). l ++ replicate left 0) q.split ∙ append_assoc q.front q.rest (replicate left 0))
          ∙ sym (append_assoc (replicate count 0) q.front (q.rest ++ replicate left 0));
      written = q.written ∙ ap (λ (l : List ℕ). l ++ q.front) p ∙ append_assoc a (replicate count 0) q.front;
      short = omega (arith, q.short, length-append q.rest (replicate left 0));
    }
