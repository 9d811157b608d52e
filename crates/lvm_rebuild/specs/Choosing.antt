-- To which partition a copy goes that stands on a missing disk.
use Rattle.std.specs.Prelude.{ℕ, Bool, ◌&&◌, not, if◌then◌else◌, List, map, filter, find, is_some, Option, None, Result, Ok, Err}
use Rattle.std.specs.List.{list_any}
use Rattle.std.specs.Option.{option_map_or}
use Rattle.lvm_num.specs.declared.place.Pp.{Pp}
use Rattle.lvm_num.specs.declared.descriptor.PvRow.{PvRow}
use Rattle.lvm_num.specs.declared.descriptor.Descriptor.{Descriptor}
use Rattle.lvm_num.specs.Descriptor.{partitions_used}
use Rattle.lvm_session.specs.Calls.{has_numbers}
use Rattle.lvm_session.specs.Judging.{copies_in, is_missing, is_usable}
use Rattle.lvm_session.specs.State.{Core}
use Rattle.lvm_move_plan.specs.declared.standing.VolumeCopy.{VolumeCopy}
use Rattle.lvm_move_plan.specs.Planned.{lowest_free, stands_beside}
use Rattle.lvm_move_plan.specs.Standing.{listed, standing_among}
use Rattle.lvm_migrate.specs.declared.fault.MoveFault.TheVariants as move
use Rattle.lvm_rebuild.specs.declared.fault.RebuildFault.{RebuildFault}
use Rattle.lvm_rebuild.specs.declared.fault.RebuildFault.TheVariants as fault

-- ---- what is to be rebuilt

-- the members that are missing
abbrev pub lost_members : Core → List ℕ
lost_members core = map (λ (row : PvRow). row.disk) (filter (λ (row : PvRow). is_missing core row.disk) core.descriptor.pvs)

-- the copies that stand on them, in the order of volumes, logical partitions and copies
abbrev pub lost_copies : Core → List VolumeCopy
lost_copies core = standing_among core.descriptor None (listed (lost_members core))

-- ---- where it goes

-- the disk isn't missing, and wasn't
abbrev pub is_at_hand : Core → List ℕ → ℕ → Bool
is_at_hand core lost disk = not (listed lost disk) && not (is_missing core disk)

-- it has no copy of the logical partition of this one, and a free partition
abbrev pub has_place : Descriptor → VolumeCopy → PvRow → Bool
has_place d c row = not (stands_beside d row.disk c) && is_some (lowest_free (partitions_used d) row)

-- a member takes the copy: a spare that is so
abbrev pub serves : Core → List ℕ → VolumeCopy → PvRow → Bool
serves core lost c row = row.spare && (is_at_hand core lost row.disk && has_place core.descriptor c row)

-- the lowest free partition of the first that does
abbrev pub spare_for : Core → List ℕ → VolumeCopy → Option Pp
spare_for core lost c = option_map_or (lowest_free (partitions_used core.descriptor)) (find (serves core lost c) core.descriptor.pvs) None

-- some copy of its logical partition is usable
abbrev pub has_fresh : Core → VolumeCopy → Bool
has_fresh core c = list_any (is_usable core) (copies_in core.descriptor c.lv c.lp)

-- that partition, or why there is none: the numbers of stamps are short, no copy of the logical partition is usable, or no spare takes it
abbrev pub choice_of : Core → List ℕ → VolumeCopy → Result Pp RebuildFault
choice_of core lost c =
    if not (has_numbers core) then Err (fault.Move move.HistoryFull)
    else if not (has_fresh core c) then Err (fault.Move (move.NoFresh c.lp))
    else option_map_or (λ (pp : Pp). Ok pp) (spare_for core lost c) (Err (fault.NoSpare c.lp))
