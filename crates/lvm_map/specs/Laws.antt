-- Laws of places and of first fit.
use Rattle.std.specs.Prelude.{◌≡◌, ℕ, ◌*◌, ◌<◌, ◌≤◌, ◌%◌, false, List, length, take, Some, IsTrue, insert, slice_get, slice_set}
use Rattle.lvm_num.specs.declared.place.Pp.{Pp}
use Rattle.lvm_num.specs.declared.place.Place.{Place}
use Rattle.lvm_num.specs.declared.descriptor.PvRow.{PvRow}
use Rattle.lvm_num.specs.declared.descriptor.LvRow.{LvRow}
use Rattle.lvm_num.specs.declared.descriptor.Descriptor.{Descriptor}
use Rattle.lvm_num.specs.Geometry.{data_start, sectors_needed}
use Rattle.lvm_num.specs.Descriptor.{IsValid, AreVolumes, copies_of, member_of, most_volumes, partitions_used}
use Rattle.lvm_num.specs.Disks.{Disks}
use Rattle.lvm_map.specs.Places.{place_of}
use Rattle.lvm_map.specs.FirstFit.{is_among, has_partition_on, others_in, Asked, IsAllocated, HasNoPlace, new_volume, more_copies}

-- ---- places

-- one block of one copy
pub record AreSame (lv copy block other_lv other_copy other_block : ℕ) : Type 0 where
  pub same_volume : lv ≡ other_lv
  pub same_copy : copy ≡ other_copy
  pub same_block : block ≡ other_block

-- no two of them stand at one place
abbrev pub PlacesDiffer : Type 0
PlacesDiffer =
    (d : Descriptor) (lv copy block other_lv other_copy other_block : ℕ) (place : Place) → IsValid d
    → place_of d lv copy block ≡ Some place → place_of d other_lv other_copy other_block ≡ Some place
    → AreSame lv copy block other_lv other_copy other_block

-- a place lies in the data area of a member, inside its partitions
pub record IsDataOf (d : Descriptor) (place : Place) : Type 0 where
  pub row : PvRow
  pub member : member_of d place.disk ≡ Some row
  pub low : data_start ≤ place.sector
  pub high : place.sector < sectors_needed d.mib row.pps

abbrev pub PlacesAreData : Type 0
PlacesAreData = (d : Descriptor) (lv copy block : ℕ) (place : Place) → IsValid d → place_of d lv copy block ≡ Some place → IsDataOf d place

-- ---- first fit

-- a partition for a copy behind this front: of a usable member that is no spare, that no volume uses,
-- that stands nowhere before, and with no other copy of its logical partition on its disk
pub record IsNewPlace (d : Descriptor) (usable : Disks) (asked : Asked) (front : List Pp) (pp : Pp) : Type 0 where
  pub row : PvRow
  pub member : member_of d pp.disk ≡ Some row
  pub within : pp.pp < row.pps
  pub is_usable : IsTrue (usable pp.disk)
  pub no_spare : row.spare ≡ false
  pub free : is_among (partitions_used d) pp ≡ false
  pub new : is_among front pp ≡ false
  pub apart : has_partition_on (others_in asked front) pp.disk ≡ false

abbrev pub NewPlacesAreFree : Type 0
NewPlacesAreFree =
    (d : Descriptor) (usable : Disks) (asked : Asked) (pps : List Pp) (k : ℕ) (pp : Pp) → IsValid d → IsAllocated d usable asked pps
    → slice_get pps k ≡ Some pp → asked.kept ≤ k % asked.copies → IsNewPlace d usable asked (take k pps) pp

-- there is one map by first fit at most, and none where it finds no place
abbrev pub MapIsOne : Type 0
MapIsOne = (d : Descriptor) (usable : Disks) (asked : Asked) (one other : List Pp) → IsAllocated d usable asked one → IsAllocated d usable asked other → one ≡ other

abbrev pub NoPlaceIsNoMap : Type 0
NoPlaceIsNoMap = (d : Descriptor) (usable : Disks) (asked : Asked) (pps : List Pp) → HasNoPlace d usable asked → IsAllocated d usable asked pps → ⊥

-- the copies that were there keep their places
abbrev pub CopiesStay : Type 0
CopiesStay =
    (d : Descriptor) (usable : Disks) (row : LvRow) (copies : ℕ) (pps : List Pp) (lp : ℕ) → length row.map ≡ row.lps * row.copies → row.copies < copies
    → IsAllocated d usable (more_copies row copies) pps → lp < row.lps
    → take row.copies (copies_of (record row { copies = copies; map = pps }) lp) ≡ copies_of row lp

-- a descriptor with a volume whose map was allocated is valid, where the volume's other fields are
abbrev pub NewVolumeIsValid : Type 0
NewVolumeIsValid =
    (d : Descriptor) (usable : Disks) (row : LvRow) (k : ℕ) → IsValid d → k ≤ length d.lvs
    → IsAllocated d usable (new_volume row.lps row.copies) row.map
    → AreVolumes d.big (insert d.lvs k row) → length d.lvs < most_volumes d.big
    → IsValid (record d { lvs = insert d.lvs k row })

-- and so is one in which a volume has more copies
abbrev pub MoreCopiesAreValid : Type 0
MoreCopiesAreValid =
    (d : Descriptor) (usable : Disks) (row : LvRow) (k copies : ℕ) (pps : List Pp) → IsValid d → slice_get d.lvs k ≡ Some row
    → row.copies < copies → copies ≤ 3 → IsAllocated d usable (more_copies row copies) pps
    → IsValid (record d { lvs = slice_set d.lvs k (record row { copies = copies; map = pps }) })
