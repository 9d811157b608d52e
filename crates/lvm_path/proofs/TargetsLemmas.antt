-- Targets at their places.
use Rattle.std.proofs.Common.{◌≡◌, ◌<◌, ◌≤◌, ℕ, zero, suc, List, [], ◌∷◌, length, take, slice_index_or, slice_set, refl, ap, le_of_suc-le-suc, arith}
use Rattle.lvm_sched.specs.declared.writes.TargetState.{TargetState}
use Rattle.lvm_path.specs.declared.target.Target.{Target}
use Rattle.lvm_path.specs.Targets.{with_state}

-- the target at a place, read, and written back with another state
pub set_is : (ts : List Target) (k : ℕ) (d : Target) (state : TargetState) → k < length ts → slice_set ts k (record (slice_index_or ts k d) { state = state }) ≡ with_state ts k state
set_is [] k d state within = refl
set_is (x ∷ ts) zero d state within = refl
set_is (x ∷ ts) (suc k) d state within = ap (λ ys. x ∷ ys) (set_is ts k d state (le_of_suc-le-suc within))

-- a front of so many is no longer than that
pub targets_fit : (ts : List Target) (k : ℕ) → length (take k ts) ≤ k
targets_fit [] zero = omega arith
targets_fit [] (suc k) = omega arith
targets_fit (t ∷ ts) zero = omega arith
targets_fit (t ∷ ts) (suc k) = let rest = targets_fit ts k in omega (arith, rest)
