-- The list of those that are inside.
use Rattle.std.specs.Prelude.{◌<◌, ◌&&◌, ℕ, List, [], ◌∷◌, Option, nat_lt, All}
use Rattle.std.specs.List.{find}
use Rattle.std.specs.Option.{option_map}
use Rattle.lvm_hold.specs.declared.queue.Row.{Row}
use Rattle.lvm_hold.specs.Conflicts.{conflicts}

-- each id is below the later ones
abbrev pub IsAscending : List Row → Type 0
IsAscending [] = Unit {0}
IsAscending (row ∷ rows) = All (λ (later : Row). row.id < later.id) rows × IsAscending rows

-- the first that is earlier than this one and conflicts with it
abbrev pub first_conflict : List Row → Row → Option ℕ
first_conflict rows this = option_map (λ (row : Row). row.id) (find (λ (row : Row). nat_lt row.id this.id && conflicts row.ask this.ask) rows)
