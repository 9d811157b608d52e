-- The texts that list a group, its volumes, where one of them lies, and a member.
use Rattle.std.specs.Prelude.{ℕ, ◌+◌, if◌then◌else◌, List, [], ◌++◌, length, flat_map, codes}
use Rattle.std.specs.List.{range_with_len}
use Rattle.std.specs.Option.{option_map_or}
use Rattle.std.specs.Fmt.{decimal}
use Rattle.lvm_num.specs.declared.place.Pp.{Pp}
use Rattle.lvm_num.specs.declared.descriptor.PvRow.{PvRow}
use Rattle.lvm_num.specs.declared.descriptor.LvRow.{LvRow}
use Rattle.lvm_num.specs.declared.descriptor.Descriptor.{Descriptor}
use Rattle.lvm_num.specs.declared.status.Status.{Status}
use Rattle.lvm_num.specs.Descriptor.{copies_of, member_of, volume_of}
use Rattle.lvm_num.specs.Status.{calls_stale, calls_missing}
use Rattle.lvm_num.specs.Votes.{total_votes}
use Rattle.lvm_show.specs.Counts.{all_partitions, free_on, all_free, all_stale, stale_on, stale_in, missing_members, carriers, quorum_votes}
use Rattle.lvm_show.specs.Texts.{disk_name, counted, four_digits}

-- ---- a group

unfoldable pub name_line : Descriptor → List ℕ
name_line d = codes "VOLUME GROUP " ++ d.name ++ codes "\n"

-- the size of a partition in MiB, the members, those that are missing, and the volumes
unfoldable pub sizes_text : Descriptor → Status → List ℕ
sizes_text d s =
    counted (codes "PP SIZE") d.mib ++ counted (codes "PVs") (length d.pvs)
    ++ counted (codes "MISSING PVs") (missing_members d s) ++ counted (codes "LVs") (length d.lvs)

-- the partitions, those that are free, and those that are stale
unfoldable pub partitions_text : Descriptor → Status → List ℕ
partitions_text d s = counted (codes "PPs") (all_partitions d) ++ counted (codes "FREE PPs") (all_free d) ++ counted (codes "STALE PPs") (all_stale d s)

-- the votes, and how many the group stays on with
unfoldable pub votes_text : Descriptor → List ℕ
votes_text d = counted (codes "VGDAs") (total_votes d) ++ counted (codes "QUORUM") (quorum_votes d)

-- a group
abbrev pub group_text : Descriptor → Status → List ℕ
group_text d s = name_line d ++ sizes_text d s ++ partitions_text d s ++ votes_text d

-- ---- its volumes

-- a volume: its logical partitions, its partitions, the disks that carry it, its stale partitions
abbrev pub volume_line : Descriptor → Status → LvRow → List ℕ
volume_line d s row =
    row.name ++ codes " LPs " ++ decimal row.lps ++ codes " PPs " ++ decimal (length row.map)
    ++ codes " PVs " ++ decimal (carriers d row) ++ codes " stale " ++ decimal (stale_in s row) ++ codes "\n"

-- the volumes in the order of their numbers
abbrev pub volumes_text : Descriptor → Status → List ℕ
volumes_text d s = flat_map (volume_line d s) d.lvs

-- ---- where a volume lies

-- a copy: its partition's number from 1, its disk, and whether it is stale
abbrev pub copy_text : Status → Pp → List ℕ
copy_text s pp = codes " " ++ four_digits (pp.pp + 1) ++ codes " " ++ disk_name pp.disk ++ (if calls_stale s pp then codes " stale" else [])

-- a logical partition, counted from 0: its number from 1, and its copies in copy order
abbrev pub partition_line : Status → LvRow → ℕ → List ℕ
partition_line s row lp = four_digits (lp + 1) ++ flat_map (copy_text s) (copies_of row lp) ++ codes "\n"

abbrev pub map_text : Status → LvRow → List ℕ
map_text s row = flat_map (partition_line s row) (range_with_len 0 row.lps)

-- the volume of a number, and nothing without it
abbrev pub volume_map_text : Descriptor → Status → ℕ → List ℕ
volume_map_text d s lv = option_map_or (map_text s) (volume_of d lv) []

-- ---- a member

abbrev pub state_text : Status → ℕ → List ℕ
state_text s disk = if calls_missing s disk then codes "missing" else codes "active"

-- the group's name, and whether it is missing
unfoldable pub member_state : Descriptor → Status → ℕ → List ℕ
member_state d s disk = disk_name disk ++ codes " " ++ d.name ++ codes " " ++ state_text s disk

-- its partitions, those that are free, and those that are stale
unfoldable pub member_counts : Descriptor → Status → PvRow → List ℕ
member_counts d s row = codes " pps " ++ decimal row.pps ++ codes " free " ++ decimal (free_on d row) ++ codes " stale " ++ decimal (stale_on d s row.disk) ++ codes "\n"

-- a member
abbrev pub member_text : Descriptor → Status → PvRow → List ℕ
member_text d s row = member_state d s row.disk ++ member_counts d s row

-- the member on a disk, and nothing without it
abbrev pub disk_text : Descriptor → Status → ℕ → List ℕ
disk_text d s disk = option_map_or (member_text d s) (member_of d disk) []
