-- What is asked of a new group, and the group and the status that are made of it.
use Rattle.std.specs.Prelude.{◌≡◌, ◌≢◌, IsTrue, AllPairs, ℕ, ◌-◌, ◌/◌, ◌<◌, ◌≤◌, ◌+◌, Bool, true, false, ◌==◌, nat_le, List, [], ◌∷◌, ◌++◌, length, map, filter, find, fold, max, replicate, Option, Some, None, unwrap_or, slice_index_or}
use Rattle.std.specs.List.{list_any, range_with_len}
use Rattle.std.specs.Option.{ForSome}
use Rattle.lvm_num.specs.declared.descriptor.PvRow.{PvRow}
use Rattle.lvm_num.specs.declared.descriptor.Descriptor.{Descriptor}
use Rattle.lvm_num.specs.declared.status.StatusRow.{StatusRow}
use Rattle.lvm_num.specs.declared.status.Status.{Status}
use Rattle.lvm_num.specs.Descriptor.{is_size}
use Rattle.lvm_num.specs.Disks.{Disks}
use Rattle.lvm_num.specs.Geometry.{data_start, partition_blocks, partition_count}
use Rattle.lvm_vol.specs.declared.entry.Vol.TheVariants.{Disk}
use Rattle.lvm_vol.specs.Facts.{Removed}
use Rattle.lvm_vol.specs.Log.{Log}
use Rattle.lvm_core.specs.declared.refused.Cause.{Cause}
use Rattle.lvm_core.specs.declared.refused.Cause.TheVariants as cause

-- A new group of some disks: its name, the size of its partitions in MiB where one is given, whether groups without volumes may give way, and its moment.
pub record NewGroup : Type 0 where
  pub name : List ℕ
  pub mib : Option ℕ
  pub disks : List ℕ
  pub force : Bool
  pub moment : ℕ

-- It can be asked for: some disks, none of them twice, a size that a descriptor may state, and a moment.
pub record IsWellFormed (w : NewGroup) : Type 0 where
  pub some : 1 ≤ length w.disks
  pub differ : AllPairs (λ a b. a ≢ b) w.disks
  pub size : ForSome w.mib (λ given. IsTrue (is_size given))
  pub moment : w.moment ≢ 0

-- the disks of a list, as a set
abbrev pub among : List ℕ → Disks
among disks disk = list_any (λ named. named == disk) disks

-- ---- the size of its partitions

-- the sectors of a disk of a shelf with these sizes
abbrev pub sectors_on : List ℕ → ℕ → ℕ
sectors_on sizes disk = slice_index_or sizes disk 0

-- those of the largest of the disks named
abbrev pub most_sectors : List ℕ → List ℕ → ℕ
most_sectors sizes disks = fold (λ most disk. max most (sectors_on sizes disk)) 0 disks

-- the sizes that a partition may have, in MiB
abbrev pub sizes_in_order : List ℕ
sizes_in_order = 1 ∷ 2 ∷ 4 ∷ 8 ∷ 16 ∷ 32 ∷ 64 ∷ 128 ∷ 256 ∷ 512 ∷ 1024 ∷ []

-- the least size of which a disk of so many sectors has no more than 1,016, and 1,024 where there is none
abbrev pub least_size : ℕ → ℕ
least_size sectors = unwrap_or (find (λ mib. nat_le ((sectors - data_start) / partition_blocks mib) 1016) sizes_in_order) 1024

-- the one that is given, or that which fits the largest of the disks named
abbrev pub size_for : List ℕ → List ℕ → Option ℕ → ℕ
size_for sizes disks given = unwrap_or given (least_size (most_sectors sizes disks))

-- ---- what is made

abbrev pub member_for : List ℕ → ℕ → ℕ → PvRow
member_for sizes mib disk = record { disk = disk; pps = partition_count (sectors_on sizes disk) mib; spare = false }

-- A descriptor with a member for each disk, in the order in which they are named, and no volumes. More than half of the votes must be there.
abbrev pub descriptor_for : List ℕ → List ℕ → ℕ → List ℕ → ℕ → Descriptor
descriptor_for sizes name mib disks moment = record {
  id = moment;
  name = name;
  mib = mib;
  quorum = true;
  even = false;
  big = false;
  pvs = map (member_for sizes mib) disks;
  lvs = [];
}

-- a member that is there, with nothing stale
abbrev pub clear_row : ℕ → StatusRow
clear_row disk = record { disk = disk; missing = false; stale = replicate 127 0 }

-- the numbers of all disks that a shelf may have
unfoldable pub disks_in_order : List ℕ
disks_in_order = range_with_len 0 128

-- a status with a row for each disk, by their numbers
abbrev pub status_for : List ℕ → ℕ → Status
status_for disks moment = record { id = moment; big = false; dirty = []; rows = map clear_row (filter (among disks) disks_in_order) }

-- the group and the status that are made of what is asked
abbrev pub new_group : List ℕ → NewGroup → Descriptor
new_group sizes w = descriptor_for sizes w.name (size_for sizes w.disks w.mib) w.disks w.moment

abbrev pub new_status : NewGroup → Status
new_status w = status_for w.disks w.moment

-- the history with the entries by which the contents of disks are given up
abbrev pub given_up : Log → List ℕ → Log
given_up log disks = record log { facts = log.facts ++ map (λ disk. Removed (Disk disk)) disks }

-- ---- what is refused before any disk is read

-- the first disk named that isn't there
abbrev pub first_absent : List ℕ → List ℕ → Option ℕ
first_absent sizes disks = find (λ disk. nat_le (length sizes) disk) disks

-- the first on which no partition of this size fits
abbrev pub first_too_small : List ℕ → ℕ → List ℕ → Option ℕ
first_too_small sizes mib disks = find (λ disk. partition_count (sectors_on sizes disk) mib == 0) disks

-- each disk named is there, they are no more than a group may have, and each has room for a partition
pub record AreFit (sizes disks : List ℕ) (given : Option ℕ) : Type 0 where
  pub there : first_absent sizes disks ≡ None
  pub few : length disks ≤ 32
  pub fit : first_too_small sizes (size_for sizes disks given) disks ≡ None

-- and there are entries for that, and for the group's being on
pub record MayMakeGroup (sizes : List ℕ) (spare : ℕ) (disks : List ℕ) (given : Option ℕ) : Type 0 where
  pub disks_fit : AreFit sizes disks given
  pub entries : length disks + 1 ≤ spare

-- the refusals at that point, each exactly where it holds and those before it don't
abbrev pub RefusesFirst : List ℕ → ℕ → List ℕ → Option ℕ → Cause → Type 0
RefusesFirst sizes spare disks given (cause.NoDisk disk) = first_absent sizes disks ≡ Some disk
RefusesFirst sizes spare disks given (cause.TooMany limit) = (first_absent sizes disks ≡ None) × (32 < length disks) × (limit ≡ 32)
RefusesFirst sizes spare disks given (cause.TooSmall disk) = (first_absent sizes disks ≡ None) × (length disks ≤ 32) × (first_too_small sizes (size_for sizes disks given) disks ≡ Some disk)
RefusesFirst sizes spare disks given cause.HistoryFull = AreFit sizes disks given × (spare < length disks + 1)
RefusesFirst sizes spare disks given _ = ⊥
