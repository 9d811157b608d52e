-- Sectors in pieces, of which only the front is kept.
use Rattle.std.specs.Prelude.{◌≡◌, ℕ, ◌+◌, ◌-◌, ◌<◌, ◌≤◌, ◌^◌, List, ◌++◌, length, replicate, slice_index_or}
use Rattle.std.specs.List.{flat_map}
use Rattle.lvm_num.specs.Buffer.{Sector, zero_sector}
use Rattle.lvm_memory.specs.Media.{sizes_of, AllSectors}

-- the sectors, and zeros behind them until there are so many
abbrev pub filled_up : ℕ → List Sector → List Sector
filled_up count front = front ++ replicate (count - length front) zero_sector

-- of so many sectors those at the front are kept, with room for all
pub record FitsCapacity (count capacity : ℕ) (front : List Sector) : Type 0 where
  pub within : length front ≤ count
  pub room : count ≤ capacity

-- the sectors of pieces, one behind the other
abbrev pub joined : List (List Sector) → List Sector
joined pieces = flat_map (λ piece. piece) pieces

-- pieces of these sizes are of n sectors, the last of them of n at most
pub record AreSizes (n : ℕ) (sizes : List ℕ) : Type 0 where
  pub most : (k : ℕ) → slice_index_or sizes k 0 ≤ n
  pub full : (k : ℕ) → k + 1 < length sizes → slice_index_or sizes k 0 ≡ n

-- so many sectors, which 64 bits count, are cut into pieces of n
pub record IsCut (n count : ℕ) (pieces : List (List Sector)) : Type 0 where
  pub counted : count < 2 ^ 64
  pub long : length (joined pieces) ≡ count
  pub sizes : AreSizes n (sizes_of pieces)
  pub sectors : AllSectors (joined pieces)
