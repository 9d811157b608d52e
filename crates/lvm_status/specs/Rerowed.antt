-- What a table says, over the rows of other members.
use Rattle.std.specs.Prelude.{◌≡◌, ℕ, false, ◌&&◌, List, replicate, unwrap_or}
use Rattle.std.specs.List.{range_with_len}
use Rattle.lvm_num.specs.declared.place.Pp.{Pp}
use Rattle.lvm_num.specs.declared.descriptor.Descriptor.{Descriptor}
use Rattle.lvm_num.specs.declared.status.StatusRow.{StatusRow}
use Rattle.lvm_num.specs.declared.status.Status.{Status}
use Rattle.lvm_num.specs.Descriptor.{is_member}
use Rattle.lvm_num.specs.Status.{row_of, calls_stale, calls_missing}
use Rattle.lvm_status.specs.Table.{has_row}

-- The group is the same. Of each member the new status says what the old one does, and of no other disk anything; its size is that of the descriptor.
pub record IsRerowed (d : Descriptor) (old new : Status) : Type 0 where
  pub id : new.id ≡ old.id
  pub big : new.big ≡ d.big
  pub rows : (disk : ℕ) → has_row new disk ≡ is_member d disk
  pub stale : (p : Pp) → calls_stale new p ≡ (is_member d p.disk && calls_stale old p)
  pub missing : (disk : ℕ) → calls_missing new disk ≡ (is_member d disk && calls_missing old disk)
  pub dirty : new.dirty ≡ old.dirty

-- the status has the size of the group, and a row for exactly its members
pub record HasRowsOf (d : Descriptor) (s : Status) : Type 0 where
  pub big : s.big ≡ d.big
  pub rows : (disk : ℕ) → has_row s disk ≡ is_member d disk

-- ---- rows

-- a row in which nothing is missing or stale
abbrev pub clear_row : ℕ → StatusRow
clear_row disk = record { disk = disk; missing = false; stale = replicate 127 0 }

-- the row of a disk, a clear one where it has none
abbrev pub row_for : Status → ℕ → StatusRow
row_for s disk = unwrap_or (row_of s disk) (clear_row disk)

-- that of another row's disk
abbrev pub row_from : Status → StatusRow → StatusRow
row_from s row = row_for s row.disk

-- the numbers of all disks
unfoldable pub disks_in_order : List ℕ
disks_in_order = range_with_len 0 128
