-- Rows in chains: those that may conflict stand in one chain, in order of ids.
use Rattle.std.specs.Prelude.{◌≡◌, ◌==◌, ◌+◌, ◌*◌, ◌/◌, ◌%◌, ◌<◌, ℕ, suc, Bool, true, false, if◌then◌else◌, List, [], ◌∷◌, Option, Some, None, length, slice_index_or, slice_set, All}
use Rattle.std.specs.List.{find}
use Rattle.std.specs.Option.{option_map}
use Rattle.lvm_hold.specs.declared.queue.Held.{Held}
use Rattle.lvm_hold.specs.declared.queue.Row.{Row}
use Rattle.lvm_hold.specs.Conflicts.{IsInGroup}
use Rattle.lvm_hold.specs.Order.{IsAscending}

-- the head of its chain, of 2,048
abbrev pub head_of : Held → ℕ
head_of a = (31 * a.lv + a.at / 256) % 2048

abbrev pub is_of : ℕ → Row → Bool
is_of head row = head_of row.ask == head

-- the first row of a chain, by its id
abbrev pub first_of : ℕ → List Row → Option ℕ
first_of head rows = option_map (λ (row : Row). row.id) (find (is_of head) rows)

-- for each row the next one of its chain
abbrev pub nexts_of : List Row → List (Option ℕ)
nexts_of [] = []
nexts_of (row ∷ rows) = first_of (head_of row.ask) rows ∷ nexts_of rows

-- one place further, or this one
abbrev pub further : Bool → Option ℕ → Option ℕ
further here (Some k) = Some (suc k)
further true None = Some 0
further false None = None

-- the place of the last row of a chain
abbrev pub last_of : ℕ → List Row → Option ℕ
last_of head [] = None
last_of head (row ∷ rows) = further (is_of head row) (last_of head rows)

-- the place of the row of this id
abbrev pub place_in : ℕ → List Row → Option ℕ
place_in id [] = None
place_in id (row ∷ rows) = if row.id == id then Some 0 else option_map suc (place_in id rows)

-- what is linked behind the row at a place, or behind the head where there is none
abbrev pub put_next : Option ℕ → Option ℕ → List (Option ℕ) → List (Option ℕ)
put_next None to nexts = nexts
put_next (Some k) to nexts = slice_set nexts k to

abbrev pub put_head : Option ℕ → ℕ → Option ℕ → List (Option ℕ) → List (Option ℕ)
put_head None head to heads = slice_set heads head to
put_head (Some k) head to heads = heads

-- each head leads to the first row of its chain, each row to the next
pub record IsChained (rows : List Row) (nexts heads : List (Option ℕ)) : Type 0 where
  pub ascending : IsAscending rows
  pub groups : All (λ (row : Row). IsInGroup row.ask) rows
  pub nexts_are : nexts ≡ nexts_of rows
  pub count : length heads ≡ 2048
  pub heads_are : (head : ℕ) → head < 2048 → slice_index_or heads head None ≡ first_of head rows
