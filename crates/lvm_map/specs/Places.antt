-- Where the blocks of a volume stand.
use Rattle.std.specs.Prelude.{◌≡◌, ℕ, ◌-◌, ◌<◌, ◌≤◌, ◌==◌, if◌then◌else◌, Option, Some, None, slice_get, option_map, option_and_then}
use Rattle.lvm_num.specs.declared.place.Pp.{Pp}
use Rattle.lvm_num.specs.declared.place.Place.{Place}
use Rattle.lvm_num.specs.declared.descriptor.LvRow.{LvRow}
use Rattle.lvm_num.specs.declared.descriptor.Descriptor.{Descriptor}
use Rattle.lvm_num.specs.Geometry.{partition_of, sector_of, volume_blocks}
use Rattle.lvm_num.specs.Descriptor.{copies_of, volume_of}

-- how many blocks the volume of a number has, if there is one
abbrev pub blocks_of : Descriptor → ℕ → Option ℕ
blocks_of d lv = option_map (λ (row : LvRow). volume_blocks d.mib row.lps) (volume_of d lv)

-- the partition that a copy, from 1, of a logical partition, from 0, is
abbrev pub copy_at : LvRow → ℕ → ℕ → Option Pp
copy_at row lp copy = if copy == 0 then None else slice_get (copies_of row lp) (copy - 1)

-- the sector of a block of a volume on the copy that is this partition
abbrev pub place_on : ℕ → Pp → ℕ → Place
place_on mib pp block = record { disk = pp.disk; sector = sector_of mib pp.pp block }

-- the sector at which a block of a volume stands on a copy, if that block and copy are there
abbrev pub place_of : Descriptor → ℕ → ℕ → ℕ → Option Place
place_of d lv copy block =
    option_and_then (λ (row : LvRow). option_map (λ pp. place_on d.mib pp block) (copy_at row (partition_of d.mib block) copy)) (volume_of d lv)

-- a block of a volume of the group and one of its copies
pub record IsBlockOfCopy (d : Descriptor) (lv copy block : ℕ) : Type 0 where
  pub row : LvRow
  pub volume : volume_of d lv ≡ Some row
  pub first : 1 ≤ copy
  pub last : copy ≤ row.copies
  pub within : block < volume_blocks d.mib row.lps
