-- Which volumes stay dirty once the usable copies of all are equal.
use Rattle.std.specs.Prelude.{ℕ, zero, suc, ◌==◌, ◌&&◌, ◌||◌, Bool, false, List, length, filter}
use Rattle.std.specs.List.{list_any}
use Rattle.lvm_num.specs.declared.descriptor.LvRow.{LvRow}
use Rattle.lvm_num.specs.declared.descriptor.Descriptor.{Descriptor}
use Rattle.lvm_num.specs.declared.status.Status.{Status}
use Rattle.lvm_num.specs.Disks.{Disks}
use Rattle.lvm_num.specs.Descriptor.{IsValid, copies_of}
use Rattle.lvm_num.specs.Modes.{is_passive}
use Rattle.lvm_num.specs.Record.{Stamped}
use Rattle.lvm_num.specs.Status.{IsValidStatus}
use Rattle.lvm_write.specs.Next.{IsNextStatus}
use Rattle.lvm_tidying.specs.Cleaned.{IsCleaned}
use Rattle.lvm_recovery.specs.Plan.{usable_by}

-- one of the first logical partitions of the volume has no usable copy
abbrev pub lacks_usable : Status → Disks → LvRow → ℕ → Bool
lacks_usable status disks row zero = false
lacks_usable status disks row (suc lp) = lacks_usable status disks row lp || length (filter (usable_by status disks) (copies_of row lp)) == 0

-- it is of this number, in mode passive, and has such a logical partition
abbrev pub is_left : Status → Disks → ℕ → LvRow → Bool
is_left status disks number row = row.number == number && is_passive row.mode && lacks_usable status disks row row.lps

abbrev pub any_still_dirty : Status → Disks → ℕ → List LvRow → Bool
any_still_dirty status disks number rows = list_any (is_left status disks number) rows

-- the volume of this number does
abbrev pub is_still_dirty : Descriptor → Status → Disks → ℕ → Bool
is_still_dirty group status disks number = any_still_dirty status disks number group.lvs

-- the status that says so of just those of its volumes
abbrev pub left_dirty : Descriptor → Status → Disks → Status → Status
left_dirty group status disks next = record next { dirty = filter (is_still_dirty group status disks) next.dirty }

-- ---- law

-- It is the one with which a group goes on, and a record may state it.
pub record IsLeftCleaned (group : Descriptor) (was next : Stamped Status) (there : Disks) : Type 0 where
  pub cleaned : IsCleaned group there next (left_dirty group was.value there next.value)
  pub valid : IsValidStatus (left_dirty group was.value there next.value)

abbrev pub LeftDirtyIsCleaned : Type 0
LeftDirtyIsCleaned = (group : Descriptor) (was next : Stamped Status) (there : Disks) → IsValid group → IsNextStatus group there was next.value → IsLeftCleaned group was next there
