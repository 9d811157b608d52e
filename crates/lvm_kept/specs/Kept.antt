-- When what the disks show agrees with a history.
use Rattle.std.specs.Prelude.{◌≡◌, ◌⊎◌, ℕ, ◌<◌, ◌≤◌, List, [], ◌∷◌, ◌++◌, Option, Some, None, IsTrue, is_some}
use Rattle.std.specs.List.{AllByRecursion}
use Rattle.lvm_disk.specs.passed.Num.{Mode, Pp, PvRow, LvRow, Descriptor, Status, Disks, data_start, volume_blocks, track_group_of, member_of, volume_of, all_disks, Stamped}
use Rattle.lvm_disk.specs.passed.NumDescriptorMode.{Active, Passive, Off}
use Rattle.lvm_vol.specs.declared.entry.Vol.TheVariants.{Disk, Lv}
use Rattle.lvm_vol.specs.Facts.{Fact, Cut}
use Rattle.lvm_vol.specs.May.{Known, known, May, IsValue}
use Rattle.lvm_vol.specs.Standing.{Standing, Absent, Open, Settled, Shape, volumes_in}
use Rattle.lvm_kept.specs.Contents.{Contents}
use Rattle.lvm_kept.specs.Group.{is_voter, status_among, Finds, IsFound, members_in, status_by, ReadsGroup, is_dirty_by, fresh_on, fresh, block_at, IsBlockOf, is_named, IsOneOf, IsSome, HoldOne}

-- ---- volumes

-- the volume has the blocks and the mode with which it was made
abbrev pub HasShape : ℕ → Option Shape → LvRow → Type 0
HasShape mib shape row = shape ≡ Some (record { blocks = volume_blocks mib row.lps; mode = row.mode })

-- a settled volume is in the descriptor, an open one may be, an absent one isn't; one that is there has its shape
abbrev pub StandsAs : ℕ → Standing → Option Shape → Option LvRow → Type 0
StandsAs mib Settled shape (Some row) = HasShape mib shape row
StandsAs mib Settled shape None = ⊥
StandsAs mib Open shape (Some row) = HasShape mib shape row
StandsAs mib Open shape None = Unit {0}
StandsAs mib Absent shape (Some row) = ⊥
StandsAs mib Absent shape None = Unit {0}

-- the volume is settled by the history
abbrev pub IsSettledIn : List Fact → ℕ → Type 0
IsSettledIn facts lv = (volumes_in facts lv).standing ≡ Settled

-- the volumes that a quorum finds are those of the history
abbrev pub VolumesAgree : Contents → List Fact → Type 0
VolumesAgree c facts =
    (disks : Disks) (id : ℕ) (group : Descriptor) → Finds c disks id group → (lv : ℕ)
    → StandsAs group.mib (volumes_in facts lv).standing (volumes_in facts lv).shape (volume_of group lv)

-- where there is a volume, there is a status
abbrev pub HasStatus : List LvRow → Option (Stamped Status) → Type 0
HasStatus [] status = Unit {0}
HasStatus (row ∷ rows) status = IsTrue (is_some status)

abbrev pub StatusThere : Contents → Type 0
StatusThere c = (disks : Disks) (id : ℕ) (group : Descriptor) → Finds c disks id group → HasStatus group.lvs (status_among c disks id)

-- ---- blocks

-- Why copies may differ at a block: in mode active its track group is named on the disk of each, in mode passive the volume is dirty,
-- in mode off the block is loose.
abbrev pub MayDiffer : Contents → Option (Stamped Status) → ℕ → Mode → List Pp → Known → ℕ → Type 0
MayDiffer c status lv Active copies k b = AllByRecursion (λ p. IsTrue (is_named c p.disk lv (track_group_of b))) copies
MayDiffer c status lv Passive copies k b = IsTrue (is_dirty_by status lv)
MayDiffer c status lv Off copies k b = IsTrue k.loose

-- the block of a volume on these copies: each value is allowed after a cut, and they are one unless they may differ
pub record IsBlockKept (c : Contents) (mib : ℕ) (status : Option (Stamped Status)) (row : LvRow) (copies : List Pp) (k : Known) (b : ℕ) : Type 0 where
  pub allowed : AllByRecursion (λ p. IsValue k (block_at c mib p b)) copies
  pub equal : HoldOne c mib copies b ⊎ MayDiffer c status row.number row.mode copies k b

-- each block of each volume, on the copies on these disks that this status calls fresh
abbrev pub BlocksKept : Contents → List Fact → Descriptor → Disks → Option (Stamped Status) → Type 0
BlocksKept c facts group disks status =
    (row : LvRow) (lp b : ℕ) → IsOneOf group.lvs row → IsBlockOf group.mib row lp b
    → IsBlockKept c group.mib status row (fresh_on disks status row lp) (known (facts ++ Cut ∷ []) (Lv row.number) b) b

-- the fresh copies that a quorum finds hold what the history allows, and one value unless they may differ
abbrev pub CopiesAgree : Contents → List Fact → Type 0
CopiesAgree c facts = (disks : Disks) (id : ℕ) (group : Descriptor) → Finds c disks id group → BlocksKept c facts group (is_voter c disks id) (status_among c disks id)

-- a disk that is in no group holds what the history allows
abbrev pub RawAgrees : Contents → List Fact → Type 0
RawAgrees c facts = (d b : ℕ) → d < c.disks → c.descriptor d ≡ None → data_start ≤ b → b < c.size d → May (known (facts ++ Cut ∷ []) (Disk d) b) (c.block d b)

-- ---- what can be reached

-- each logical partition of each settled volume has a fresh copy, with all disks
abbrev pub EachAvailable : Contents → List Fact → ℕ → Descriptor → Type 0
EachAvailable c facts id group =
    (lv lp : ℕ) (row : LvRow) → IsSettledIn facts lv → volume_of group lv ≡ Some row → lp < row.lps → IsSome (fresh c all_disks id row lp)

-- all disks together find a group in which that is so
pub record IsAvailable (c : Contents) (facts : List Fact) : Type 0 where
  pub id : ℕ
  pub group : Descriptor
  pub found : Finds c all_disks id group
  pub copies : EachAvailable c facts id group

-- ---- all of it

-- What the disks show agrees with the history.
pub record Agrees (c : Contents) (facts : List Fact) : Type 0 where
  pub volumes : VolumesAgree c facts
  pub status : StatusThere c
  pub copies : CopiesAgree c facts
  pub raw : RawAgrees c facts
  -- where a volume is settled, all disks together find the group, and a fresh copy of each logical partition
  pub available : (lv : ℕ) → IsSettledIn facts lv → IsAvailable c facts

-- What any quorums of a group find agrees, and what they would find after a descriptor that is found has been written again.
pub record Lasting (c : Contents) (facts : List Fact) : Type 0 where
  -- two of them have a common voter
  pub common : (a b : Disks) (id : ℕ) (g h : Descriptor) → ReadsGroup c a id g → ReadsGroup c b id h → (d : ℕ) × IsTrue (members_in c a id g d) × IsTrue (members_in c b id h d)
  -- the descriptor of one with the status of another is as good, on the members among all disks
  pub status : (b : Disks) (id : ℕ) (h k : Descriptor) → ReadsGroup c b id h → IsFound c id k → HasStatus k.lvs (status_by c b id h)
  pub across : (b : Disks) (id : ℕ) (h k : Descriptor) → ReadsGroup c b id h → IsFound c id k → BlocksKept c facts k (members_in c all_disks id k) (status_by c b id h)
  pub some : (b : Disks) (id : ℕ) (h k : Descriptor) → ReadsGroup c b id h → IsFound c id k → (row : LvRow) (lp : ℕ) → IsOneOf k.lvs row → lp < row.lps
      → IsSome (fresh_on (members_in c all_disks id k) (status_by c b id h) row lp)
  -- their partitions are of one size, and the members that they share have as many of them
  pub size : (id : ℕ) (g h : Descriptor) → IsFound c id g → IsFound c id h → g.mib ≡ h.mib
  pub partitions : (id : ℕ) (g h : Descriptor) → IsFound c id g → IsFound c id h → (d : ℕ) (p q : PvRow) → member_of g d ≡ Some p → member_of h d ≡ Some q → p.pps ≡ q.pps
  -- records of a group under one stamp are one
  pub descriptors : (d e : ℕ) (r s : Stamped Descriptor) → c.descriptor d ≡ Some r → c.descriptor e ≡ Some s → r.value.id ≡ s.value.id → r.stamp ≡ s.stamp → r ≡ s
  pub statuses : (d e : ℕ) (r s : Stamped Status) → c.status d ≡ Some r → c.status e ≡ Some s → r.value.id ≡ s.value.id → r.stamp ≡ s.stamp → r ≡ s

-- What the disks show keeps the history.
pub record Kept (c : Contents) (facts : List Fact) : Type 0 where
  pub agrees : Agrees c facts
  pub lasting : Lasting c facts
