-- The chains in which the rows of a history stand, and how far its requests have come.
use Rattle.std.specs.Prelude.{◌≡◌, ◌==◌, ℕ, suc, zero, ◌+◌, ◌-◌, ◌*◌, ◌/◌, ◌%◌, ◌<◌, ◌≤◌, ◌||◌, Bool, true, false, nat_lt, ◌++◌, if◌then◌else◌, List, [], ◌∷◌, length, map, slice_index_or, slice_set}
use Rattle.std.specs.List.{list_any}
use Rattle.lvm_vol.specs.declared.entry.Vol.{Vol}
use Rattle.lvm_vol.specs.declared.entry.Vol.TheVariants.{Disk, Lv}
use Rattle.lvm_vol.specs.declared.entry.Outcome.TheVariants as outcome
use Rattle.lvm_allowed.specs.declared.row.Ask.{Ask}
use Rattle.lvm_allowed.specs.declared.row.Row.{Row}
use Rattle.lvm_allowed.specs.declared.row.Row.TheVariants as row
use Rattle.lvm_chains.specs.declared.index.Step.{Step}
use Rattle.lvm_allowed.specs.Rows.{ask_of, is_landing, is_taking}

abbrev pub number_of : Vol → ℕ
number_of (Lv n) = n
number_of (Disk n) = 512 + n

-- the chain of the requests of a track group of a volume, of 4,096
abbrev pub chain_of : Vol → ℕ → ℕ
chain_of vol group = (31 * number_of vol + group) % 4096

-- the chain of what shapes volumes, and of the rest
abbrev pub plain_chain : Row → ℕ
plain_chain (row.Making lv size mode) = 4096
plain_chain (row.Split from lv) = 4096
plain_chain (row.Removed vol) = 4096
plain_chain row.Cut = 4096
plain_chain _ = 4097

-- the chain of a row: that of its request where it begins or lands
abbrev pub chain_in : List Ask → Row → ℕ
chain_in asks (row.Begun id) = chain_of (ask_of asks id).vol ((ask_of asks id).at / 256)
chain_in asks (row.Landed id how started) = chain_of (ask_of asks id).vol ((ask_of asks id).at / 256)
chain_in asks r = plain_chain r

-- the place of the newest that passes among the first so many, from 1; 0 where none does
abbrev pub newest_by : {X : Type 0} → (X → Bool) → X → List X → ℕ → ℕ
newest_by p d xs zero = 0
newest_by p d xs (suc k) = if p (slice_index_or xs k d) then suc k else newest_by p d xs k

-- the newest of a chain
abbrev pub newest : ℕ → List ℕ → ℕ → ℕ
newest chain chains k = newest_by (λ c. c == chain) 0 chains k

-- what is seen of an index: its room, the chain of each row, and how far each request has come
pub record Indexed : Type 0 where
  pub room : ℕ
  pub chains : List ℕ
  pub steps : List Step

abbrev pub empty_index : ℕ → Indexed
empty_index room = record { room = room; chains = []; steps = [] }

-- a request that has just begun
abbrev pub no_step : Step
no_step = record { landed = 0; taken = false }

abbrev pub with_landing : List Step → ℕ → ℕ → List Step
with_landing steps n place = slice_set steps n (record (slice_index_or steps n no_step) { landed = place })

abbrev pub with_taking : List Step → ℕ → List Step
with_taking steps n = slice_set steps n (record (slice_index_or steps n no_step) { taken = true })

abbrev pub has_landed_in : Indexed → ℕ → Bool
has_landed_in index id = nat_lt 0 (slice_index_or index.steps (id - 1) no_step).landed

abbrev pub has_taken_in : Indexed → ℕ → Bool
has_taken_in index id = (slice_index_or index.steps (id - 1) no_step).taken

-- the index once the request of this number has landed
abbrev pub landed_index : Indexed → List Ask → ℕ → Indexed
landed_index index asks id = record index {
  chains = index.chains ++ chain_in asks (row.Landed id outcome.Done true) ∷ [];
  steps = with_landing index.steps (id - 1) (length index.chains + 1);
}

-- how far the rows bring the request of this number
abbrev pub step_of : List Row → ℕ → Step
step_of rows id = record { landed = newest_by (is_landing id) row.Cut rows (length rows); taken = list_any (is_taking id) rows }

-- the row is about one of so many requests, or about none
abbrev pub IsOneOf : ℕ → Row → Type 0
IsOneOf n (row.Begun id) = id - 1 < n
IsOneOf n (row.Landed id how started) = id - 1 < n
IsOneOf n (row.Taken client id) = id - 1 < n
IsOneOf n _ = Unit {0}

abbrev pub AreOf : ℕ → List Row → Type 0
AreOf n [] = Unit {0}
AreOf n (r ∷ rows) = IsOneOf n r × AreOf n rows

-- the blocks of each request lie in one track group
abbrev pub AreInGroups : List Ask → Type 0
AreInGroups asks = (id : ℕ) → (ask_of asks id).at % 256 + (ask_of asks id).count ≤ 256

-- the index is that of these rows and requests
pub record IsIndexOf (index : Indexed) (asks : List Ask) (rows : List Row) : Type 0 where
  pub its_chains : index.chains ≡ map (chain_in asks) rows
  pub count : length index.steps ≡ length asks
  pub its_steps : (n : ℕ) → n < length asks → slice_index_or index.steps n no_step ≡ step_of rows (n + 1)
  pub named : AreOf (length asks) rows
  pub groups : AreInGroups asks
