-- The descriptor of a group in which a copy stands on another partition.
use Rattle.std.specs.Prelude.{◌≡◌, ◌≢◌, ℕ, ◌+◌, ◌*◌, ◌-◌, ◌<◌, ◌≤◌, ◌==◌, false, if◌then◌else◌, map, slice_get, slice_set, Some}
use Rattle.std.specs.List.{list_any}
use Rattle.lvm_num.specs.declared.place.Pp.{Pp}
use Rattle.lvm_num.specs.declared.descriptor.LvRow.{LvRow}
use Rattle.lvm_num.specs.declared.descriptor.Descriptor.{Descriptor}
use Rattle.lvm_num.specs.Descriptor.{IsPartitionOf, copies_of, is_pp, partitions_used, volume_of}

-- where the map of a volume has a copy, from 1, of a logical partition, from 0
abbrev pub place_in_map : LvRow → ℕ → ℕ → ℕ
place_in_map row lp number = lp * row.copies + (number - 1)

-- the volume with this partition as that copy
abbrev pub with_copy_on : LvRow → ℕ → ℕ → Pp → LvRow
with_copy_on row lp number to = record row { map = slice_set row.map (place_in_map row lp number) to }

-- a volume of the group, where the copy is one of the volume of this number
abbrev pub moved_row : ℕ → ℕ → ℕ → Pp → LvRow → LvRow
moved_row lv lp number to row = if row.number == lv then with_copy_on row lp number to else row

-- the group with this partition as that copy
abbrev pub moved_descriptor : Descriptor → ℕ → ℕ → ℕ → Pp → Descriptor
moved_descriptor d lv lp number to = record d { lvs = map (moved_row lv lp number to) d.lvs }

-- The volume has the copy; no volume has the partition, which its member has; and no other copy of the logical partition stands on its disk.
pub record MayStandOn (d : Descriptor) (lv lp number : ℕ) (to : Pp) : Type 0 where
  pub row : LvRow
  pub volume : volume_of d lv ≡ Some row
  pub within : lp < row.lps
  pub some : 1 ≤ number
  pub copy : number ≤ row.copies
  pub free : list_any (is_pp to) (partitions_used d) ≡ false
  pub inside : IsPartitionOf d to
  pub apart : (k : ℕ) (p : Pp) → slice_get (copies_of row lp) k ≡ Some p → k ≢ number - 1 → p.disk ≢ to.disk
