-- The copies that stand on a disk, or on one of several.
use Rattle.std.specs.Prelude.{◌≡◌, ◌⊎◌, ℕ, ◌+◌, ◌<◌, Bool, true, false, ◌==◌, if◌then◌else◌, List, [], ◌∷◌, flat_map, Option, Some, None, slice_get}
use Rattle.std.specs.List.{list_any, range_with_len}
use Rattle.std.specs.Option.{option_map_or}
use Rattle.lvm_num.specs.declared.place.Pp.{Pp}
use Rattle.lvm_num.specs.declared.descriptor.LvRow.{LvRow}
use Rattle.lvm_num.specs.declared.descriptor.Descriptor.{Descriptor}
use Rattle.lvm_num.specs.Descriptor.{copies_of, volume_of}
use Rattle.lvm_num.specs.Disks.{Disks}
use Rattle.lvm_move_plan.specs.declared.standing.VolumeCopy.{VolumeCopy}

-- ---- the list

-- whether there is such a partition, on one of the disks
abbrev pub is_on : Disks → Option Pp → Bool
is_on disks pp = option_map_or (λ (p : Pp). disks p.disk) pp false

-- a copy of a logical partition by its place, from 0, where it stands on one of the disks
abbrev pub standing_at : Disks → LvRow → ℕ → ℕ → List VolumeCopy
standing_at disks row lp place = if is_on disks (slice_get (copies_of row lp) place) then record { lv = row.number; lp = lp; number = place + 1 } ∷ [] else []

-- those of a logical partition
abbrev pub standing_with : Disks → LvRow → ℕ → List VolumeCopy
standing_with disks row lp = flat_map (standing_at disks row lp) (range_with_len 0 row.copies)

-- those of a volume
abbrev pub standing_in : Disks → LvRow → List VolumeCopy
standing_in disks row = flat_map (standing_with disks row) (range_with_len 0 row.lps)

-- whether the volume is the one of this number, where one is asked for
abbrev pub is_asked_for : Option ℕ → LvRow → Bool
is_asked_for None row = true
is_asked_for (Some lv) row = row.number == lv

-- those of a volume that is asked for
abbrev pub standing_of : Option ℕ → Disks → LvRow → List VolumeCopy
standing_of lv disks row = if is_asked_for lv row then standing_in disks row else []

-- those of all volumes that are asked for
abbrev pub standing_among : Descriptor → Option ℕ → Disks → List VolumeCopy
standing_among d lv disks = flat_map (standing_of lv disks) d.lvs

-- a disk alone, and the disks of a list
abbrev pub only : ℕ → Disks
only disk other = other == disk

abbrev pub listed : List ℕ → Disks
listed disks other = list_any (λ (disk : ℕ). other == disk) disks

-- those that stand on one disk
abbrev pub standing_on : Descriptor → Option ℕ → ℕ → List VolumeCopy
standing_on d lv disk = standing_among d lv (only disk)

-- ---- what it has

-- the copy is one of a volume that is asked for, on a partition of one of the disks
pub record StandsAmong (d : Descriptor) (lv : Option ℕ) (disks : Disks) (c : VolumeCopy) : Type 0 where
  pub row : LvRow
  pub volume : volume_of d c.lv ≡ Some row
  pub asked : is_asked_for lv row ≡ true
  pub within : c.lp < row.lps
  pub place : ℕ
  pub number : c.number ≡ place + 1
  pub pp : Pp
  pub its : slice_get (copies_of row c.lp) place ≡ Some pp
  pub there : disks pp.disk ≡ true

-- so it stands on the one
abbrev pub StandsOn : Descriptor → Option ℕ → ℕ → VolumeCopy → Type 0
StandsOn d lv disk c = StandsAmong d lv (only disk) c

-- the one comes first: by the volume, the logical partition, the copy
abbrev pub ComesBefore : VolumeCopy → VolumeCopy → Type 0
ComesBefore a b = (a.lv < b.lv) ⊎ ((a.lv ≡ b.lv) × ((a.lp < b.lp) ⊎ ((a.lp ≡ b.lp) × (a.number < b.number))))
