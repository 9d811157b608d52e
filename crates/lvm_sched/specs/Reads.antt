-- In which order the copies of a volume are read.
use Rattle.std.specs.Prelude.{◌≡◌, ◌==◌, ◌-◌, ◌<◌, ◌≤◌, ◌⊎◌, ℕ, List, [], ◌∷◌, All, Contains, filter, not, slice_index}
use Rattle.lvm_num.specs.declared.descriptor.Policy.{Policy}
use Rattle.lvm_num.specs.declared.descriptor.Policy.TheVariants as policy

-- copies with ascending numbers, above this one and up to 3
abbrev pub AreCopiesAbove : ℕ → List ℕ → Type 0
AreCopiesAbove below [] = Unit {0}
AreCopiesAbove below (copy ∷ copies) = (below < copy) × (copy ≤ 3) × AreCopiesAbove copy copies

-- copies with ascending numbers from 1 to 3
abbrev pub AreCopies : List ℕ → Type 0
AreCopies copies = AreCopiesAbove 0 copies

-- how many flights are out on the disk of a copy
abbrev pub load_of : List ℕ → ℕ → ℕ
load_of loads copy = slice_index loads (copy - 1)

-- no usable copy has a lower number
abbrev pub IsLowest : List ℕ → ℕ → Type 0
IsLowest usable first = All (λ copy. first ≤ copy) usable

-- the one is on a disk with fewer flights, or with as many and has no higher number
abbrev pub IsPreferred : List ℕ → ℕ → ℕ → Type 0
IsPreferred loads first copy = (load_of loads first < load_of loads copy) ⊎ ((load_of loads first ≡ load_of loads copy) × (first ≤ copy))

-- it comes next after the last one, or is the lowest where none comes after that
abbrev pub IsNextAround : List ℕ → ℕ → ℕ → Type 0
IsNextAround usable last first = ((last < first) × All (λ copy. (copy ≤ last) ⊎ (first ≤ copy)) usable) ⊎ (All (λ copy. copy ≤ last) usable × IsLowest usable first)

-- the copy that a policy reads first
abbrev pub IsFirst : Policy → List ℕ → ℕ → List ℕ → ℕ → Type 0
IsFirst policy.Parallel usable last loads first = All (IsPreferred loads first) usable
IsFirst policy.Sequential usable last loads first = IsLowest usable first
IsFirst policy.ParallelWrite usable last loads first = IsLowest usable first
IsFirst policy.RoundRobin usable last loads first = IsNextAround usable last first

-- the other copies, in their order
abbrev pub others : List ℕ → ℕ → List ℕ
others usable first = filter (λ copy. not (copy == first)) usable

-- one usable copy by the policy, and then the others ascending
pub record IsOrder (how : Policy) (usable : List ℕ) (last : ℕ) (loads : List ℕ) (first : ℕ) (rest : List ℕ) : Type 0 where
  pub among : Contains usable first
  pub chosen : IsFirst how usable last loads first
  pub then : rest ≡ others usable first

-- the order in which the usable copies are read
abbrev pub IsReadOrder : Policy → List ℕ → ℕ → List ℕ → List ℕ → Type 0
IsReadOrder how usable last loads [] = usable ≡ []
IsReadOrder how usable last loads (first ∷ rest) = IsOrder how usable last loads first rest
