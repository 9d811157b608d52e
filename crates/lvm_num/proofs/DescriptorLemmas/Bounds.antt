-- How many members, volumes and numbers of dirty volumes there are at most.
use Rattle.std.proofs.Common.{inl, inr, ℕ, zero, suc, ◌<◌, ◌≤◌, Bool, true, false, List, length, get_or, arith}
use Rattle.std.proofs.lemmas.Bool.{cases_lt}
use Rattle.lvm_num.specs.Descriptor.{most_members, most_volumes}
use Rattle.lvm_num.specs.Status.{AreDirty}

pub few_members : (big : Bool) → most_members big ≤ 128
few_members true = omega arith
few_members false = omega arith

pub few_volumes : (big : Bool) → most_volumes big ≤ 511
few_volumes true = omega arith
few_volumes false = omega arith

-- each number is above its place, so there are at most 511
above_place : (xs : List ℕ) → AreDirty xs → (k : ℕ) → k < length xs → k < get_or xs k 0
above_place xs all zero lt = omega (arith, (all.each 0 0 lt).least)
above_place xs all (suc k) lt =
    omega (arith, above_place xs all k (omega (arith, lt)), all.numbers_rise k (suc k) 0 (omega arith) lt)

pub few_dirty : (xs : List ℕ) → AreDirty xs → length xs ≤ 511
few_dirty xs all = elim (cases_lt 511 (length xs)) [
  | inl many ↦ absurd (omega (arith, above_place xs all 511 many, (all.each 511 0 many).most))
  | inr few ↦ few
]
