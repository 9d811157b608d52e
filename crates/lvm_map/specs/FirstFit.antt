-- First fit: where the copies of a new volume, and further copies of one that is there, are put.
use Rattle.std.specs.Prelude.{◌≡◌, ℕ, ◌+◌, ◌-◌, ◌*◌, ◌/◌, ◌%◌, ◌<◌, ◌&&◌, ◌==◌, nat_lt, not, Bool, if◌then◌else◌, List, [], ◌++◌, map, length, take, drop, filter, flat_map, Option, None, slice_get}
use Rattle.std.specs.List.{list_any, range_with_len}
use Rattle.lvm_num.specs.declared.place.Pp.{Pp}
use Rattle.lvm_num.specs.declared.descriptor.PvRow.{PvRow}
use Rattle.lvm_num.specs.declared.descriptor.LvRow.{LvRow}
use Rattle.lvm_num.specs.declared.descriptor.Descriptor.{Descriptor}
use Rattle.lvm_num.specs.Descriptor.{partitions_used}
use Rattle.lvm_num.specs.Disks.{Disks}
use Rattle.lvm_map.specs.declared.fit.MapFault.{MapFault}
use Rattle.lvm_map.specs.declared.fit.MapFault.TheVariants.{NoRoom, Memory}

-- ---- free partitions

-- whether the partition is one of these
abbrev pub is_among : List Pp → Pp → Bool
is_among pps pp = list_any (λ (p : Pp). p.disk == pp.disk && p.pp == pp.pp) pps

-- whether one of these is on the disk
abbrev pub has_partition_on : List Pp → ℕ → Bool
has_partition_on pps disk = list_any (λ (pp : Pp). pp.disk == disk) pps

-- the partitions of a member, by their numbers
abbrev pub partitions_of : PvRow → List Pp
partitions_of row = map (λ k. record { disk = row.disk; pp = k }) (range_with_len 0 row.pps)

-- those that aren't among the used ones
abbrev pub free_of : List Pp → PvRow → List Pp
free_of used row = filter (λ pp. not (is_among used pp)) (partitions_of row)

-- whether a member may take a copy beside these others of its logical partition: it is usable, is no
-- spare, and holds none of them
abbrev pub may_take : Disks → List Pp → PvRow → Bool
may_take usable others row = usable row.disk && not row.spare && not (has_partition_on others row.disk)

-- where a copy may go, the first choice first: the free partitions of such members, in the
-- descriptor's order and then by their numbers
abbrev pub choices : Descriptor → Disks → List Pp → List Pp → List Pp
choices d usable used others = flat_map (free_of used) (filter (may_take usable others) d.pvs)

-- how many partitions of usable members that are no spares are free
abbrev pub free_count : Descriptor → Disks → ℕ
free_count d usable = length (choices d usable (partitions_used d) [])

-- ---- a map, one copy after the other

-- what is asked for: so many copies of so many logical partitions, of which each keeps as many as it
-- has in the old map
pub record Asked : Type 0 where
  pub lps : ℕ
  pub copies : ℕ
  pub kept : ℕ
  pub old : List Pp

-- what a new volume asks for, and a volume that is to have more copies
abbrev pub new_volume : ℕ → ℕ → Asked
new_volume lps copies = record { lps = lps; copies = copies; kept = 0; old = [] }

abbrev pub more_copies : LvRow → ℕ → Asked
more_copies row copies = record { lps = row.lps; copies = copies; kept = row.copies; old = row.map }

-- the copy of the old map that is kept behind this front of the new one, and the copies of the same
-- logical partition that the front ends with
abbrev pub kept_next : Asked → List Pp → Option Pp
kept_next asked front = slice_get asked.old (length front / asked.copies * asked.kept + length front % asked.copies)

abbrev pub others_in : Asked → List Pp → List Pp
others_in asked front = drop (length front - length front % asked.copies) front

-- what comes behind the front: the copy that is kept, or the first choice
abbrev pub next_fit : Descriptor → Disks → Asked → List Pp → Option Pp
next_fit d usable asked front =
    if nat_lt (length front % asked.copies) asked.kept then kept_next asked front
    else slice_get (choices d usable (partitions_used d ++ front) (others_in asked front)) 0

-- each partition of the list is what comes behind those before it
abbrev pub IsFirstFit : Descriptor → Disks → Asked → List Pp → Type 0
IsFirstFit d usable asked pps = (k : ℕ) → k < length pps → next_fit d usable asked (take k pps) ≡ slice_get pps k

-- the whole map by first fit
pub record IsAllocated (d : Descriptor) (usable : Disks) (asked : Asked) (pps : List Pp) : Type 0 where
  pub whole : length pps ≡ asked.lps * asked.copies
  pub fits : IsFirstFit d usable asked pps

-- first fit finds no place for one of the copies
pub record HasNoPlace (d : Descriptor) (usable : Disks) (asked : Asked) : Type 0 where
  pub front : List Pp
  pub short : length front < asked.lps * asked.copies
  pub fits : IsFirstFit d usable asked front
  pub none : next_fit d usable asked front ≡ None

-- why there is no map
abbrev pub IsFault : Descriptor → Disks → Asked → MapFault → Type 0
IsFault d usable asked (NoRoom free) = HasNoPlace d usable asked × (free ≡ free_count d usable)
IsFault d usable asked Memory = Unit {0}
