-- A loop that reads so many items, each by those before it.
use Rattle.std.proofs.Common.{◌≡◌, ℕ, suc, ◌+◌, ◌-◌, ◌<◌, ◌≤◌, List, [], ◌∷◌, ◌++◌, Result, Ok, refl, sym, ap, ◌∙◌, arith}
use Rattle.lvm_num.specs.Reading.{◌>>=◌, Rest}
use Rattle.lvm_fields.specs.declared.fault.Fault.{Fault}
use Rattle.lvm_fields.specs.declared.fault.Fault.TheVariants as faults
use Rattle.lvm_fields.specs.Reading.{Fails}

-- how many items are read by how one is
pub record Repeats (X : Type 0) (step : List X → Rest → Result (X × Rest) ℕ) (run : ℕ → List X → Rest → Result (List X × Rest) ℕ) : Type 0 where
  pub none : (items : List X) (rest : Rest) → run 0 items rest ≡ Ok (items, rest)
  pub next : (n : ℕ) (items : List X) (rest : Rest) → run (suc n) items rest ≡ (step items rest >>= λ x. run n (items ++ x.0 ∷ []) x.1)

module _ {X : Type 0} (step : List X → Rest → Result (X × Rest) ℕ) (run : ℕ → List X → Rest → Result (List X × Rest) ℕ) (repeats : Repeats X step run) where
  pub goes_on : (count i : ℕ) (items : List X) (rest : Rest) (item : X) (after : Rest) (total : Result (List X × Rest) ℕ) → i < count → step items rest ≡ Ok (item, after)
      → run (count - i) items rest ≡ total → run (count - (i + 1)) (items ++ item ∷ []) after ≡ total
  goes_on count i items rest item after total lt here so_far =
      let left : count - i ≡ suc (count - (i + 1)) = omega arith in
      sym (ap (λ n. run n items rest) left ∙ repeats.next (count - (i + 1)) items rest ∙ ap (λ (read : Result (X × Rest) ℕ). read >>= λ x. run (count - (i + 1)) (items ++ x.0 ∷ []) x.1) here)
      ∙ so_far

  pub ends : (e : Fault) (count i : ℕ) (items : List X) (rest : Rest) (total : Result (List X × Rest) ℕ) → i < count → Fails e (step items rest)
      → run (count - i) items rest ≡ total → Fails e total
  ends faults.Memory count i items rest total lt here so_far = tt
  ends (faults.At place) count i items rest total lt here so_far =
      let left : count - i ≡ suc (count - (i + 1)) = omega arith in
      sym so_far
      ∙ (ap (λ n. run n items rest) left ∙ repeats.next (count - (i + 1)) items rest ∙ ap (λ (read : Result (X × Rest) ℕ). read >>= λ x. run (count - (i + 1)) (items ++ x.0 ∷ []) x.1) here)

  pub is_done : (count i : ℕ) (items : List X) (rest : Rest) (total : Result (List X × Rest) ℕ) → count ≤ i → run (count - i) items rest ≡ total → total ≡ Ok (items, rest)
  is_done count i items rest total le so_far =
      let left : count - i ≡ 0 = omega arith in
      sym so_far ∙ ap (λ n. run n items rest) left ∙ repeats.none items rest
