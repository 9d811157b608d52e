-- What a listing counts: partitions, those that are free and those that are stale, disks and votes.
use Rattle.std.specs.Prelude.{ℕ, ◌+◌, ◌/◌, ◌&&◌, ◌==◌, if◌then◌else◌, length, sum_by, count_by}
use Rattle.lvm_num.specs.declared.place.Pp.{Pp}
use Rattle.lvm_num.specs.declared.descriptor.PvRow.{PvRow}
use Rattle.lvm_num.specs.declared.descriptor.LvRow.{LvRow}
use Rattle.lvm_num.specs.declared.descriptor.Descriptor.{Descriptor}
use Rattle.lvm_num.specs.declared.status.Status.{Status}
use Rattle.lvm_num.specs.Descriptor.{partitions_used}
use Rattle.lvm_num.specs.Status.{calls_stale, calls_missing}
use Rattle.lvm_num.specs.Votes.{total_votes}
use Rattle.lvm_map.specs.FirstFit.{free_of, has_partition_on}

-- the partitions of all members, missing ones and spares too
abbrev pub all_partitions : Descriptor → ℕ
all_partitions d = sum_by (λ (row : PvRow). row.pps) d.pvs

-- those of a member that no volume has, and those of all members
abbrev pub free_on : Descriptor → PvRow → ℕ
free_on d row = length (free_of (partitions_used d) row)

abbrev pub all_free : Descriptor → ℕ
all_free d = sum_by (free_on d) d.pvs

-- those of volumes that are stale, on all members and on one disk
abbrev pub all_stale : Descriptor → Status → ℕ
all_stale d s = count_by (calls_stale s) (partitions_used d)

abbrev pub stale_on : Descriptor → Status → ℕ → ℕ
stale_on d s disk = count_by (λ (pp : Pp). pp.disk == disk && calls_stale s pp) (partitions_used d)

-- those of one volume
abbrev pub stale_in : Status → LvRow → ℕ
stale_in s row = count_by (calls_stale s) row.map

-- the members that are missing
abbrev pub missing_members : Descriptor → Status → ℕ
missing_members d s = count_by (λ (row : PvRow). calls_missing s row.disk) d.pvs

-- the members that carry a copy of a volume
abbrev pub carriers : Descriptor → LvRow → ℕ
carriers d row = count_by (λ (member : PvRow). has_partition_on row.map member.disk) d.pvs

-- the votes with which the group stays on: more than half, or one where quorum checking is off
abbrev pub quorum_votes : Descriptor → ℕ
quorum_votes d = if d.quorum then total_votes d / 2 + 1 else 1
