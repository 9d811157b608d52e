-- How a table is marked with the copies that are left behind.
use Rattle.std.specs.Prelude.{◌≡◌, ◌⊎◌, ℕ, ◌<◌, Bool, ◌&&◌, not, List, IsTrue, IsFalse}
use Rattle.std.specs.List.{list_any}
use Rattle.lvm_num.specs.declared.place.Pp.{Pp}
use Rattle.lvm_num.specs.declared.descriptor.LvRow.{LvRow}
use Rattle.lvm_num.specs.declared.status.Status.{Status}
use Rattle.lvm_num.specs.Disks.{Disks}
use Rattle.lvm_num.specs.Descriptor.{copies_of}
use Rattle.lvm_num.specs.Status.{calls_stale}
use Rattle.lvm_num.specs.Among.{IsOneOf}
use Rattle.lvm_status.specs.Table.{has_row, SameMembers, SameMissing}

-- one of the copies of a logical partition is fresh on a disk that answers
abbrev pub is_served : Disks → Status → List Pp → Bool
is_served answering s copies = list_any (λ (p : Pp). answering p.disk && not (calls_stale s p)) copies

-- the copy is on a disk that doesn't answer, while another one serves
pub record IsLostCopy (answering : Disks) (s : Status) (copies : List Pp) (p : Pp) : Type 0 where
  pub one : IsOneOf copies p
  pub absent : IsFalse (answering p.disk)
  pub served : IsTrue (is_served answering s copies)

-- so it is of a logical partition of the volume below one of them
pub record IsLeftBelow (answering : Disks) (s : Status) (row : LvRow) (most : ℕ) (p : Pp) : Type 0 where
  pub lp : ℕ
  pub below : lp < most
  pub left : IsLostCopy answering s (copies_of row lp) p

-- so it is of one of these volumes
pub record IsLeftIn (answering : Disks) (s : Status) (rows : List LvRow) (p : Pp) : Type 0 where
  pub row : LvRow
  pub volume : IsOneOf rows row
  pub left : IsLeftBelow answering s row row.lps p

-- The table calls just these partitions stale beside those that it did, none of them on a disk that answers; all else is as it was.
pub record MarksLost (answering : Disks) (P : Pp → Type 0) (old new : Status) : Type 0 where
  pub members : SameMembers old new
  pub missing : SameMissing old new
  pub dirty : new.dirty ≡ old.dirty
  pub kept : (p : Pp) → IsTrue (calls_stale old p) → IsTrue (calls_stale new p)
  pub marked : (p : Pp) → P p → IsTrue (calls_stale new p)
  pub only : (p : Pp) → IsTrue (calls_stale new p) → IsTrue (calls_stale old p) ⊎ P p
  pub answered : (p : Pp) → IsTrue (answering p.disk) → calls_stale new p ≡ calls_stale old p

-- the status has a mark for the partition: its disk has a row
pub record HasMark (s : Status) (p : Pp) : Type 0 where
  pub disk : p.disk < 128
  pub partition : p.pp < 1016
  pub row : IsTrue (has_row s p.disk)
