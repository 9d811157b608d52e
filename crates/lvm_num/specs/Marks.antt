-- How the partitions of maps are marked one by one.
use Rattle.std.specs.Prelude.{◌≡◌, ◌≢◌, ℕ, ◌+◌, ◌*◌, ◌<◌, false, List, slice_index, All, AllPairs}
use Rattle.lvm_num.specs.declared.place.Pp.{Pp}
use Rattle.lvm_num.specs.declared.descriptor.PvRow.{PvRow}
use Rattle.lvm_num.specs.declared.descriptor.LvRow.{LvRow}
use Rattle.lvm_num.specs.Bits.{has_bit}
use Rattle.lvm_num.specs.Descriptor.{IsLaidOut, partitions_in}

-- how many partitions the member on each disk has, 0 for a disk that is no member
pub record AreCounts (rows : List PvRow) (counts : List ℕ) : Type 0 where
  pub members : All (λ (row : PvRow). slice_index counts row.disk ≡ row.pps) rows
  pub others : (disk : ℕ) → All (λ (row : PvRow). row.disk ≢ disk) rows → slice_index counts disk ≡ 0

-- a partition of a disk of the shelf, of 1,016 at most
pub record IsBounded (pp : Pp) : Type 0 where
  pub disk : pp.disk < 128
  pub number : pp.pp < 1016

-- a partition that its disk has by these counts
pub record IsWithinDisk (counts : List ℕ) (pp : Pp) : Type 0 where
  pub disk : pp.disk < 128
  pub partition : pp.pp < slice_index counts pp.disk

-- the number of a partition among those of all disks
abbrev pub spot : Pp → ℕ
spot pp = 1016 * pp.disk + pp.pp

-- partitions that are there, none of them marked or twice among them
pub record AreFree (counts marks : List ℕ) (map : List Pp) : Type 0 where
  pub within : All (IsWithinDisk counts) map
  pub free : All (λ (pp : Pp). has_bit marks (spot pp) ≡ false) map
  pub once : AllPairs (λ (a b : Pp). spot a ≢ spot b) map

-- maps of partitions that are there by these counts, none of which is used twice
pub record AreCounted (counts : List ℕ) (rows : List LvRow) : Type 0 where
  pub within : All (IsWithinDisk counts) (partitions_in rows)
  pub laid_out : All IsLaidOut rows
  pub once : AllPairs (λ (a b : Pp). spot a ≢ spot b) (partitions_in rows)
