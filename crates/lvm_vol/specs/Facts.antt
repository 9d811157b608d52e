-- What a history tells: its entries, each with its data.
use Rattle.std.specs.Prelude.{◌≡◌, ◌⊎◌, ℕ, ◌+◌, ◌-◌, Bool, false, ◌&&◌, ◌==◌, nat_le, nat_lt, List, [], ◌∷◌, ◌++◌, Option, Some, None, slice_index_or}
use Rattle.std.specs.List.{filter_map}
use Rattle.lvm_num.specs.Buffer.{Sector}
use Rattle.lvm_num.specs.declared.descriptor.Mode.{Mode}
use Rattle.lvm_vol.specs.declared.entry.Vol.{Vol}
use Rattle.lvm_vol.specs.declared.entry.Vol.TheVariants.{Disk, Lv}
use Rattle.lvm_vol.specs.declared.entry.Outcome.{Outcome}

-- what was asked: blocks of a volume from one on, read or written; a write has its data
pub record Request : Type 0 where
  pub run : ℕ
  pub id : ℕ
  pub client : ℕ
  pub vol : Vol
  pub at : ℕ
  pub count : ℕ
  pub write : Bool
  pub blocks : List (List ℕ)

-- an entry with its data: a request whole, and the blocks that a read got
pub data Fact : Type 0 where
  Making : (lv blocks : ℕ) (mode : Mode) → Fact
  Made : (lv : ℕ) → Fact
  Split : (from lv : ℕ) → Fact
  Removing : (vol : Vol) → Fact
  Removed : (vol : Vol) → Fact
  Begun : (r : Request) → Fact
  Landed : (r : Request) (how : Outcome) (started : Bool) (got : List (List ℕ)) → Fact
  Taken : (r : Request) → Fact
  Cut : Fact
  On : (moment : ℕ) → Fact

-- x is one of the list
abbrev pub IsInList : {X : Type 0} → X → List X → Type 0
IsInList x [] = ⊥
IsInList x (y ∷ ys) = (y ≡ x) ⊎ IsInList x ys

abbrev pub same_vol : Vol → Vol → Bool
same_vol (Disk a) (Disk b) = a == b
same_vol (Lv a) (Lv b) = a == b
same_vol (Disk a) (Lv b) = false
same_vol (Lv a) (Disk b) = false

-- a request is named by its run and its number there
abbrev pub same_request : Request → Request → Bool
same_request r s = (r.run == s.run) && (r.id == s.id)

-- the request is over block b of the volume
abbrev pub is_over : Request → Vol → ℕ → Bool
is_over r vol b = same_vol r.vol vol && nat_le r.at b && nat_lt b (r.at + r.count)

-- block b of blocks that begin with block at
abbrev pub block_of : List (List ℕ) → ℕ → ℕ → Sector
block_of blocks at b = slice_index_or blocks (b - at) []

abbrev pub begun_by : Fact → Option Request
begun_by (Begun r) = Some r
begun_by _ = None

-- the requests that began, in their order
abbrev pub begun : List Fact → List Request
begun facts = filter_map begun_by facts

-- the history of a run behind those of earlier runs: the power was off between them
abbrev pub joined : List Fact → List Fact → List Fact
joined past facts = past ++ Cut ∷ facts
