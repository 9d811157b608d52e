-- What a set of disks says of a group: its descriptor, its voters, its status, and which copies are fresh.
use Rattle.std.specs.Prelude.{◌≡◌, ◌⊎◌, ℕ, ◌<◌, Bool, false, ◌&&◌, not, nat_le, ◌==◌, if◌then◌else◌, List, [], ◌∷◌, Option, Some, None, IsTrue, filter}
use Rattle.std.specs.List.{list_any, AllByRecursion}
pub use Rattle.lvm_disk.specs.passed.Num.{IsOneOf}
use Rattle.lvm_disk.specs.passed.Num.{Pp, LvRow, Descriptor, Status, Sector, Disks, partition_of, sector_of, sectors_needed, copies_of, all_disks, votes_in, is_enough_to_read, CanRead, Stamped, newest_below, calls_stale, calls_dirty, Noted, names}
use Rattle.lvm_kept.specs.Contents.{Contents}

-- the record, if its value passes
abbrev pub if_passes : {X : Type 0} → (X → Bool) → Option (Stamped X) → Option (Stamped X)
if_passes test None = None
if_passes test (Some r) = if test r.value then Some r else None

-- there is a record, and its value passes
abbrev pub passes : {X : Type 0} → (X → Bool) → Option (Stamped X) → Bool
passes test None = false
passes test (Some r) = test r.value

abbrev pub is_of : ℕ → Descriptor → Bool
is_of id g = g.id == id

abbrev pub is_status_of : ℕ → Status → Bool
is_status_of id s = s.id == id

-- the newest descriptor of the group among the disks
unfoldable pub descriptor_among : Contents → Disks → ℕ → Option (Stamped Descriptor)
descriptor_among c disks id = newest_below (λ d. if disks d then if_passes (is_of id) (c.descriptor d) else None) c.disks

-- the disk is a member, and has the sectors that its partitions need
abbrev pub has_room : Contents → ℕ → Descriptor → Bool
has_room c d g = list_any (λ row. row.disk == d && nat_le (sectors_needed g.mib row.pps) (c.size d)) g.pvs

-- the voters: members among the disks whose own newest descriptor is of the group and which are large enough
unfoldable pub is_voter : Contents → Disks → ℕ → Disks
is_voter c disks id d = disks d && passes (is_of id) (c.descriptor d) && passes (has_room c d) (descriptor_among c disks id)

-- the voters' votes are enough to read
unfoldable pub has_quorum : Contents → Disks → ℕ → Bool
has_quorum c disks id = passes (λ g. is_enough_to_read g (votes_in g (is_voter c disks id))) (descriptor_among c disks id)

-- the newest status of the group among the voters
unfoldable pub status_among : Contents → Disks → ℕ → Option (Stamped Status)
status_among c disks id = newest_below (λ d. if is_voter c disks id d then if_passes (is_status_of id) (c.status d) else None) c.disks

-- The disks hold a quorum of the group, whose descriptor this is.
pub record Finds (c : Contents) (disks : Disks) (id : ℕ) (group : Descriptor) : Type 0 where
  pub quorum : IsTrue (has_quorum c disks id)
  pub newest : Stamped Descriptor
  pub found : descriptor_among c disks id ≡ Some newest
  pub is : newest.value ≡ group

-- some set of disks holds a quorum of the group and finds this descriptor
abbrev pub IsFound : Contents → ℕ → Descriptor → Type 0
IsFound c id group = (disks : Disks) × Finds c disks id group

-- the members by a descriptor, among these disks: those whose own newest descriptor is of the group and which are large enough
abbrev pub members_in : Contents → Disks → ℕ → Descriptor → Disks
members_in c disks id g d = disks d && passes (is_of id) (c.descriptor d) && has_room c d g

-- the newest status of the group among them
abbrev pub status_by : Contents → Disks → ℕ → Descriptor → Option (Stamped Status)
status_by c disks id g = newest_below (λ d. if members_in c disks id g d then if_passes (is_status_of id) (c.status d) else None) c.disks

-- By a descriptor that is found the members among the disks have votes enough to read. That descriptor need not be the newest among them:
-- they hold a quorum as soon as it is.
pub record ReadsGroup (c : Contents) (disks : Disks) (id : ℕ) (group : Descriptor) : Type 0 where
  pub found : IsFound c id group
  pub enough : CanRead group (members_in c disks id group)

-- A set of disks that holds a quorum is one, by the descriptor that it finds; its voters are the members, and its status is theirs.
pub record ReadsBy (c : Contents) (disks : Disks) (id : ℕ) (group : Descriptor) : Type 0 where
  pub reads : ReadsGroup c disks id group
  pub voters : is_voter c disks id ≡ members_in c disks id group
  pub status : status_among c disks id ≡ status_by c disks id group

abbrev pub FindingReads : Type 0
FindingReads = (c : Contents) (disks : Disks) (id : ℕ) (group : Descriptor) → Finds c disks id group → ReadsBy c disks id group

-- ---- one group, and others

-- the two are one group, but for their volumes
abbrev pub IsAlike : Descriptor → Descriptor → Type 0
IsAlike a b = record a { lvs = [] } ≡ record b { lvs = [] }

-- whatever sets of disks find is of one group
abbrev pub IsOneFound : Contents → Type 0
IsOneFound c = (v w : ℕ) (g h : Descriptor) → IsFound c v g → IsFound c w h → v ≡ w

-- no set of disks finds another group
abbrev pub IsOnlyGroup : Contents → ℕ → Type 0
IsOnlyGroup c id = (other : ℕ) (k : Descriptor) → IsFound c other k → other ≡ id

-- ---- copies

-- nothing is stale or dirty without a status
abbrev pub is_stale_by : Option (Stamped Status) → Pp → Bool
is_stale_by status p = passes (λ s. calls_stale s p) status

abbrev pub is_dirty_by : Option (Stamped Status) → ℕ → Bool
is_dirty_by status lv = passes (λ s. calls_dirty s lv) status

-- the copies of a logical partition that stand on these disks and that the status doesn't call stale, in copy order
abbrev pub fresh_on : Disks → Option (Stamped Status) → LvRow → ℕ → List Pp
fresh_on disks status row lp = filter (λ p. disks p.disk && not (is_stale_by status p)) (copies_of row lp)

-- the fresh copies of a logical partition, as a set of disks tells them
abbrev pub fresh : Contents → Disks → ℕ → LvRow → ℕ → List Pp
fresh c disks id row lp = fresh_on (is_voter c disks id) (status_among c disks id) row lp

-- a block of a volume, on a copy
abbrev pub block_at : Contents → ℕ → Pp → ℕ → Sector
block_at c mib p b = c.block p.disk (sector_of mib p.pp b)

-- the block is one of this partition of the volume
pub record IsBlockOf (mib : ℕ) (row : LvRow) (lp b : ℕ) : Type 0 where
  pub inside : lp < row.lps
  pub partition : partition_of mib b ≡ lp

-- a consistency record, if there is one, names the track group of the volume
abbrev pub names_if : Option Noted → ℕ → ℕ → Bool
names_if None lv group = false
names_if (Some note) lv group = names note lv group

-- the disk's does
abbrev pub is_named : Contents → ℕ → ℕ → ℕ → Bool
is_named c d lv group = names_if (c.note d) lv group

-- there is one
abbrev pub IsSome : {X : Type 0} → List X → Type 0
IsSome [] = ⊥
IsSome (x ∷ xs) = Unit {0}

-- the copies hold one value at the block
abbrev pub HoldOne : Contents → ℕ → List Pp → ℕ → Type 0
HoldOne c mib copies b = (value : Sector) × AllByRecursion (λ p. block_at c mib p b ≡ value) copies
