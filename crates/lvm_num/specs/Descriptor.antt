-- What makes a descriptor valid, and the words on its members and volumes.
use Rattle.std.specs.Prelude.{◌≡◌, ◌≢◌, ℕ, ◌*◌, ◌^◌, ◌<◌, ◌≤◌, Bool, true, ◌&&◌, ◌==◌, if◌then◌else◌, List, [], ◌∷◌, length, take, drop, Option, Some, IsTrue, find, flat_map, All, AllPairs}
use Rattle.std.specs.List.{list_any}
use Rattle.lvm_num.specs.declared.place.Pp.{Pp}
use Rattle.lvm_num.specs.declared.descriptor.PvRow.{PvRow}
use Rattle.lvm_num.specs.declared.descriptor.LvRow.{LvRow}
use Rattle.lvm_num.specs.declared.descriptor.Descriptor.{Descriptor}
use Rattle.lvm_num.specs.Name.{is_name}

-- ---- its words

-- the row of a member, if the disk is one
abbrev pub member_of : Descriptor → ℕ → Option PvRow
member_of d disk = find (λ row. row.disk == disk) d.pvs

-- whether the disk is a member's
abbrev pub is_member : Descriptor → ℕ → Bool
is_member d disk = list_any (λ row. row.disk == disk) d.pvs

-- the volume of a number, if there is one
abbrev pub volume_of : Descriptor → ℕ → Option LvRow
volume_of d number = find (λ row. row.number == number) d.lvs

-- the copies of a logical partition of a volume, in copy order
abbrev pub copies_of : LvRow → ℕ → List Pp
copies_of row lp = take row.copies (drop (lp * row.copies) row.map)

-- whether it is this partition
abbrev pub is_pp : Pp → Pp → Bool
is_pp p q = p.disk == q.disk && p.pp == q.pp

-- the partitions that these volumes have, and that all volumes have
abbrev pub partitions_in : List LvRow → List Pp
partitions_in rows = flat_map (λ row. row.map) rows

abbrev pub partitions_used : Descriptor → List Pp
partitions_used d = partitions_in d.lvs

-- ---- its rules, in the order of the record

-- a partition size in MiB
abbrev pub is_size : ℕ → Bool
is_size mib = list_any (λ size. size == mib) (1 ∷ 2 ∷ 4 ∷ 8 ∷ 16 ∷ 32 ∷ 64 ∷ 128 ∷ 256 ∷ 512 ∷ 1024 ∷ [])

-- the most members, and the most volumes, which is the greatest number of one too
abbrev pub most_members : Bool → ℕ
most_members big = if big then 128 else 32

abbrev pub most_volumes : Bool → ℕ
most_volumes big = if big then 511 else 255

-- what stands before the rows
pub record IsHead (d : Descriptor) : Type 0 where
  pub some_id : d.id ≢ 0
  pub id : d.id < 2 ^ 64
  pub name : IsTrue (is_name d.name)
  pub size : IsTrue (is_size d.mib)
  pub even : d.even ≡ true → length d.pvs ≡ 2
  pub a_member : 1 ≤ length d.pvs
  pub members : length d.pvs ≤ most_members d.big
  pub volumes : length d.lvs ≤ most_volumes d.big

-- a member: a disk of the shelf with 1 to 1,016 partitions
pub record IsMember (row : PvRow) : Type 0 where
  pub disk : row.disk < 128
  pub a_partition : 1 ≤ row.pps
  pub partitions : row.pps ≤ 1016

-- members, each on a disk of its own
pub record AreMembers (rows : List PvRow) : Type 0 where
  pub each : All IsMember rows
  pub disks_differ : AllPairs (λ (a b : PvRow). a.disk ≢ b.disk) rows

-- a volume: one to three copies of one or more logical partitions
pub record IsVolume (big : Bool) (row : LvRow) : Type 0 where
  pub a_number : 1 ≤ row.number
  pub number : row.number ≤ most_volumes big
  pub a_copy : 1 ≤ row.copies
  pub copies : row.copies ≤ 3
  pub a_partition : 1 ≤ row.lps
  pub partitions : row.lps < 2 ^ 32
  pub name : IsTrue (is_name row.name)

-- volumes in the order of their numbers, each with a name of its own
pub record AreVolumes (big : Bool) (rows : List LvRow) : Type 0 where
  pub each : All (IsVolume big) rows
  pub numbers_rise : AllPairs (λ (a b : LvRow). a.number < b.number) rows
  pub names_differ : AllPairs (λ (a b : LvRow). a.name ≢ b.name) rows

-- the partition is one that its member has
abbrev pub IsPartitionOf : Descriptor → Pp → Type 0
IsPartitionOf d pp = (row : PvRow) × (member_of d pp.disk ≡ Some row) × (pp.pp < row.pps)

-- a volume's map has all copies, and those of one logical partition stand on different disks
pub record IsLaidOut (row : LvRow) : Type 0 where
  pub whole : length row.map ≡ row.lps * row.copies
  pub strict : (lp : ℕ) → lp < row.lps → AllPairs (λ (a b : Pp). a.disk ≢ b.disk) (copies_of row lp)

-- maps of partitions that are there, none of which is used twice
pub record AreMaps (d : Descriptor) : Type 0 where
  pub places : All (IsPartitionOf d) (partitions_used d)
  pub laid_out : All IsLaidOut d.lvs
  pub used_once : AllPairs (λ (a b : Pp). a ≢ b) (partitions_used d)

-- a group as a record may state it
pub record IsValid (d : Descriptor) : Type 0 where
  pub head : IsHead d
  pub members : AreMembers d.pvs
  pub volumes : AreVolumes d.big d.lvs
  pub maps : AreMaps d
