-- The rows of a table by their disks.
use Rattle.std.specs.Prelude.{◌≡◌, ℕ, ◌<◌, Bool, ◌==◌, if◌then◌else◌, List, length, set, slice_index_or}
use Rattle.std.specs.List.{list_any}
use Rattle.lvm_num.specs.declared.status.Status.{Status}
use Rattle.lvm_num.specs.declared.status.StatusRow.{StatusRow}

-- the row at a place, which is that of a disk
pub record IsRowAt (rows : List StatusRow) (disk place : ℕ) (row : StatusRow) : Type 0 where
  pub within : place < length rows
  pub there : (d : StatusRow) → slice_index_or rows place d ≡ row
  pub its : row.disk ≡ disk

-- a table with another row at a place
abbrev pub with_row_at : Status → ℕ → StatusRow → Status
with_row_at s place row = record s { rows = set s.rows place row }

-- a number is among the new ones or not, and any other is exactly where it was
abbrev pub SetsAmong : List ℕ → List ℕ → ℕ → Bool → Type 0
SetsAmong old new number is = (n : ℕ) → list_any (λ m. m == n) new ≡ (if n == number then is else list_any (λ m. m == n) old)
