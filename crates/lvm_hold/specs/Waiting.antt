-- Who waits for whom.
use Rattle.std.specs.Prelude.{◌≡◌, ◌<◌, ◌&&◌, ◌==◌, ℕ, List, Bool, true, nat_lt, filter, not, All, Contains}
use Rattle.std.specs.List.{list_any}
use Rattle.lvm_hold.specs.declared.queue.Held.{Held}
use Rattle.lvm_hold.specs.declared.queue.Row.{Row}
use Rattle.lvm_hold.specs.Conflicts.{conflicts}

-- how many may be inside, and who is, in order of ids
pub record Waiting : Type 0 where
  pub room : ℕ
  pub rows : List Row

-- the one of this id is inside
pub record IsInside (rows : List Row) (id : ℕ) : Type 0 where
  pub row : Row
  pub among : Contains rows row
  pub its : row.id ≡ id

-- the ids of all that are inside are below
abbrev pub AreBelow : List Row → ℕ → Type 0
AreBelow rows id = All (λ (row : Row). row.id < id) rows

-- the others
abbrev pub without : ℕ → List Row → List Row
without id rows = filter (λ (row : Row). not (row.id == id)) rows

-- of two that are inside, the earlier one conflicts with the later
pub record Blocks (rows : List Row) (earlier id : ℕ) : Type 0 where
  pub first : Row
  pub second : Row
  pub first_among : Contains rows first
  pub second_among : Contains rows second
  pub first_its : first.id ≡ earlier
  pub second_its : second.id ≡ id
  pub order : earlier < id
  pub conflict : conflicts first.ask second.ask ≡ true

-- an earlier one conflicts with one that asks for this
abbrev pub is_blocked : List Row → ℕ → Held → Bool
is_blocked rows id ask = list_any (λ (row : Row). nat_lt row.id id && conflicts row.ask ask) rows
