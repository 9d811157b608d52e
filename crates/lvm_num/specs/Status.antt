-- A status: which partitions are stale, which disks are missing and which volumes are dirty. When it is valid.
use Rattle.std.specs.Prelude.{◌≡◌, ◌≢◌, ℕ, ◌^◌, ◌<◌, ◌≤◌, Bool, ◌&&◌, ◌==◌, List, length, Option, find, All, AllPairs}
use Rattle.std.specs.List.{list_any}
use Rattle.lvm_num.specs.declared.place.Pp.{Pp}
use Rattle.lvm_num.specs.declared.status.StatusRow.{StatusRow}
use Rattle.lvm_num.specs.declared.status.Status.{Status}
use Rattle.lvm_num.specs.Bits.{has_bit}
use Rattle.lvm_num.specs.Descriptor.{most_members}

-- ---- what it says

-- the row of a disk, if there is one
abbrev pub row_of : Status → ℕ → Option StatusRow
row_of s disk = find (λ row. row.disk == disk) s.rows

-- a disk without a row has nothing stale and isn't missing
abbrev pub calls_stale : Status → Pp → Bool
calls_stale s p = list_any (λ row. row.disk == p.disk && has_bit row.stale p.pp) s.rows

abbrev pub calls_missing : Status → ℕ → Bool
calls_missing s disk = list_any (λ row. row.disk == disk && row.missing) s.rows

-- whether the volume of this number may differ after a crash
abbrev pub calls_dirty : Status → ℕ → Bool
calls_dirty s number = list_any (λ n. n == number) s.dirty

-- ---- its rules, in the order of the record

-- a disk of the shelf, with bytes for the bits of 1,016 partitions
pub record IsStatusRow (row : StatusRow) : Type 0 where
  pub disk : row.disk < 128
  pub size : length row.stale ≡ 127

-- rows in the order of their disks
pub record AreStatusRows (rows : List StatusRow) : Type 0 where
  pub each : All IsStatusRow rows
  pub disks_rise : AllPairs (λ (a b : StatusRow). a.disk < b.disk) rows

-- a number that a volume may have
pub record IsVolumeNumber (number : ℕ) : Type 0 where
  pub least : 1 ≤ number
  pub most : number ≤ 511

-- numbers of volumes in their order
pub record AreDirty (numbers : List ℕ) : Type 0 where
  pub each : All IsVolumeNumber numbers
  pub numbers_rise : AllPairs (λ a b. a < b) numbers

-- a status as a record may state it
pub record IsValidStatus (s : Status) : Type 0 where
  pub some_id : s.id ≢ 0
  pub id : s.id < 2 ^ 64
  pub a_row : 1 ≤ length s.rows
  pub rows_fit : length s.rows ≤ most_members s.big
  pub rows : AreStatusRows s.rows
  pub dirty : AreDirty s.dirty
