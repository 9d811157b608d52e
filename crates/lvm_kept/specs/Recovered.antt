-- What a varyon leaves.
use Rattle.std.specs.Prelude.{◌≡◌, ◌⊎◌, ◌↔◌, ℕ, ◌+◌, ◌%◌, ◌<◌, ◌≤◌, List, [], ◌∷◌, None, Some, IsTrue, IsFalse, option_map, is_some}
use Rattle.std.specs.List.{AllByRecursion}
use Rattle.lvm_disk.specs.passed.Num.{Mode, Pp, PvRow, LvRow, Descriptor, Status, Kind, Disks, data_start, partition_blocks, track_group_of, sector_of, member_of, copies_of, Stamped, slot_start, slot_size, calls_stale, calls_missing, calls_dirty}
use Rattle.lvm_disk.specs.passed.NumDescriptorMode.{Active, Passive, Off}
use Rattle.lvm_disk.specs.passed.NumRecordKind as kind
use Rattle.lvm_vol.specs.Facts.{Fact}
use Rattle.lvm_disk.specs.Device.{Range}
use Rattle.lvm_kept.specs.Contents.{Contents, note_sector}
use Rattle.lvm_kept.specs.Group.{Finds, descriptor_among, is_voter, status_among, is_stale_by, is_dirty_by, fresh, block_at, IsBlockOf, is_named, IsOneOf, IsSome, HoldOne}
use Rattle.lvm_kept.specs.Kept.{Kept}

-- ---- ranges that were written

-- the range lies from one sector up to another
abbrev pub Within : Range → ℕ → ℕ → Type 0
Within r low high = (low ≤ r.first) × (r.first + r.count ≤ high)

-- a slot of the kind
abbrev pub IsInSlot : Kind → Range → Type 0
IsInSlot kind r = (slot : ℕ) × (slot < 2) × Within r (slot_start kind slot) (slot_start kind slot + slot_size kind)

-- the consistency record, a status slot or a descriptor slot
abbrev pub IsRecordRange : Range → Type 0
IsRecordRange r = Within r note_sector (note_sector + 1) ⊎ IsInSlot kind.Status r ⊎ IsInSlot kind.Descriptor r

module _ (old : Contents) (disks : Disks) (id : ℕ) (group : Descriptor) where
  -- a voter's consistency record names the track group
  abbrev pub IsNamedByVoter : ℕ → ℕ → Type 0
  IsNamedByVoter lv track_group = (d : ℕ) × IsTrue (is_voter old disks id d) × IsTrue (is_named old d lv track_group)

  -- the block is one that a varyon makes equal: by the notes in mode active, by the dirty mark in mode passive
  abbrev pub IsMadeEqual : Mode → ℕ → ℕ → Type 0
  IsMadeEqual Active lv b = IsNamedByVoter lv (track_group_of b)
  IsMadeEqual Passive lv b = IsTrue (is_dirty_by (status_among old disks id) lv)
  IsMadeEqual Off lv b = ⊥

  -- a block of a fresh copy that is made equal, and the sector at which it stands
  pub record IsCopied (d s : ℕ) : Type 0 where
    pub row : LvRow
    pub lp : ℕ
    pub block : ℕ
    pub copy : Pp
    pub volume : IsOneOf group.lvs row
    pub inside : IsBlockOf group.mib row lp block
    pub fresh_copy : IsOneOf (fresh old disks id row lp) copy
    pub made : IsMadeEqual row.mode row.number block
    pub disk : copy.disk ≡ d
    pub sector : sector_of group.mib copy.pp block ≡ s

  -- a range within one fresh copy of a logical partition, of blocks that are made equal
  pub record IsCopyRange (r : Range) : Type 0 where
    pub row : LvRow
    pub lp : ℕ
    pub block : ℕ
    pub copy : Pp
    pub volume : IsOneOf group.lvs row
    pub inside : IsBlockOf group.mib row lp block
    pub fresh_copy : IsOneOf (fresh old disks id row lp) copy
    pub disk : copy.disk ≡ r.disk
    pub first : r.first ≡ sector_of group.mib copy.pp block
    pub fits : block % partition_blocks group.mib + r.count ≤ partition_blocks group.mib
    pub made : (i : ℕ) → i < r.count → IsMadeEqual row.mode row.number (block + i)

  -- the first of the copies, before, and each of them after
  abbrev pub MadeEqual : Contents → List Pp → ℕ → Type 0
  MadeEqual new [] b = Unit {0}
  MadeEqual new (first ∷ copies) b = AllByRecursion (λ p. block_at new group.mib p b ≡ block_at old group.mib first b) (first ∷ copies)

  -- a copy on a member that isn't a voter, whose logical partition has a fresh copy
  pub record IsLeftBehind (p : Pp) : Type 0 where
    pub row : LvRow
    pub lp : ℕ
    pub volume : IsOneOf group.lvs row
    pub inside : lp < row.lps
    pub one : IsOneOf (copies_of row lp) p
    pub absent : IsFalse (is_voter old disks id p.disk)
    pub other : IsSome (fresh old disks id row lp)

  -- a passive volume that is dirty, and has a logical partition without a fresh copy
  pub record IsLeftDirty (lv : ℕ) : Type 0 where
    pub row : LvRow
    pub lp : ℕ
    pub volume : IsOneOf group.lvs row
    pub number : row.number ≡ lv
    pub mode : row.mode ≡ Passive
    pub dirty : IsTrue (is_dirty_by (status_among old disks id) lv)
    pub inside : lp < row.lps
    pub none : fresh old disks id row lp ≡ []

-- What the disks show before and after a varyon of the group by a set of disks, and the ranges that it wrote.
pub record Recovered (old : Contents) (wrote : List Range) (new : Contents) (disks : Disks) (id : ℕ) (group : Descriptor) : Type 0 where
  pub found_before : Finds old disks id group
  pub same_disks : new.disks ≡ old.disks
  pub same_sizes : new.size ≡ old.size
  -- it writes records of voters, and blocks of fresh copies that are made equal
  pub ranges : AllByRecursion (λ r. IsTrue (is_voter old disks id r.disk) × (IsRecordRange r ⊎ IsCopyRange old disks id group r)) wrote
  -- those blocks are then equal to the first fresh copy
  pub equal : (row : LvRow) (lp b : ℕ) → IsOneOf group.lvs row → IsBlockOf group.mib row lp b → IsMadeEqual old disks id group row.mode row.number b
      → MadeEqual old disks id group new (fresh old disks id row lp) b
  -- all other data is as before
  pub others : (d s : ℕ) → data_start ≤ s → (new.block d s ≡ old.block d s) ⊎ IsCopied old disks id group d s
  -- the descriptor is the same but for its stamp
  pub descriptor : option_map (λ r. r.value) (descriptor_among new disks id) ≡ Some group
  -- there is a status
  pub status : Stamped Status
  pub found : status_among new disks id ≡ Some status
  -- missing are exactly the members that aren't voters
  pub missing : (d : ℕ) → IsTrue (calls_missing status.value d) ↔ (IsTrue (is_some (member_of group d)) × IsFalse (is_voter old disks id d))
  -- stale are exactly the members' partitions that were, and each copy on a member that isn't a voter whose logical partition has a fresh copy
  pub stale : (p : Pp) (row : PvRow) → member_of group p.disk ≡ Some row
      → IsTrue (calls_stale status.value p) ↔ (IsTrue (is_stale_by (status_among old disks id) p) ⊎ IsLeftBehind old disks id group p)
  pub strangers : (p : Pp) → member_of group p.disk ≡ None → IsFalse (calls_stale status.value p)
  -- dirty stay exactly the passive volumes that were and have a logical partition without a fresh copy
  pub dirty : (lv : ℕ) → IsTrue (calls_dirty status.value lv) ↔ IsLeftDirty old disks id group lv
  -- no note of a voter names anything
  pub notes : (d lv track_group : ℕ) → IsTrue (is_voter old disks id d) → IsFalse (is_named new d lv track_group)
  -- where the disks kept a history, all fresh copies of volumes with consistency are equal
  pub consistent : (facts : List Fact) → Kept old facts → (row : LvRow) (lp b : ℕ) → IsOneOf group.lvs row → IsBlockOf group.mib row lp b → (row.mode ≡ Off → ⊥)
      → HoldOne new group.mib (fresh new disks id row lp) b
