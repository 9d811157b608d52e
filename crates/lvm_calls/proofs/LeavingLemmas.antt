-- The hold queue stays as it is where the one that leaves isn't inside.
use Rattle.std.proofs.Common.{◌≡◌, ◌==◌, ℕ, zero, suc, Bool, true, false, not, List, [], ◌∷◌, refl, ap, arith, if◌then◌else◌}
use Rattle.std.proofs.lemmas.Bool.{eqb-true}
use Rattle.lvm_hold.specs.declared.queue.Row.{Row}
use Rattle.lvm_hold.specs.Waiting.{IsInside, without}

pub none_leaves : (id : ℕ) (rows : List Row) → (IsInside rows id → ⊥) → rows ≡ without id rows
none_leaves id [] none = refl
none_leaves id (row ∷ rows) none = by_test (row.id == id) refl (none_leaves id rows (λ it. none (later it)))
  where
    later : IsInside rows id → IsInside (row ∷ rows) id
    later it = let within = it.among.1 in record { row = it.row; among = (suc it.among.0, omega (arith, within), it.among.2); its = it.its }

    by_test : (b : Bool) → (row.id == id) ≡ b → rows ≡ without id rows → row ∷ rows ≡ (if not b then row ∷ without id rows else without id rows)
    by_test true same rest = absurd (none (record { row = row; among = (zero, omega arith, refl); its = eqb-true row.id id same }))
    by_test false same rest = ap (λ (rs : List Row). row ∷ rs) rest
