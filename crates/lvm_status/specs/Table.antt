-- What a stale table says, and what stays when it changes.
use Rattle.std.specs.Prelude.{◌≡◌, ℕ, Bool, ◌==◌, map, unwrap_or, count_by}
use Rattle.std.specs.List.{list_any}
use Rattle.std.specs.Option.{option_map}
use Rattle.lvm_num.specs.declared.place.Pp.{Pp}
use Rattle.lvm_num.specs.declared.descriptor.LvRow.{LvRow}
use Rattle.lvm_num.specs.declared.descriptor.Descriptor.{Descriptor}
use Rattle.lvm_num.specs.declared.status.StatusRow.{StatusRow}
use Rattle.lvm_num.specs.declared.status.Status.{Status}
use Rattle.lvm_num.specs.Descriptor.{volume_of}
use Rattle.lvm_num.specs.Status.{calls_stale, calls_missing, IsValidStatus}

-- whether the disk has a row
abbrev pub has_row : Status → ℕ → Bool
has_row s disk = list_any (λ (row : StatusRow). row.disk == disk) s.rows

-- The group, its size and the disks that have rows stay, and the status is one that a record may state.
pub record SameMembers (old new : Status) : Type 0 where
  pub id : new.id ≡ old.id
  pub big : new.big ≡ old.big
  pub disks : map (λ (row : StatusRow). row.disk) new.rows ≡ map (λ (row : StatusRow). row.disk) old.rows
  pub valid : IsValidStatus new

-- the same partitions are stale
abbrev pub SameStale : Status → Status → Type 0
SameStale old new = (p : Pp) → calls_stale new p ≡ calls_stale old p

-- the same disks are missing
abbrev pub SameMissing : Status → Status → Type 0
SameMissing old new = (disk : ℕ) → calls_missing new disk ≡ calls_missing old disk

-- how many copies of the partitions of a volume are stale, 0 without that volume
abbrev pub stale_count : Status → Descriptor → ℕ → ℕ
stale_count s d lv = unwrap_or (option_map (λ (row : LvRow). count_by (calls_stale s) row.map) (volume_of d lv)) 0
