-- The entries of a volume that is made or removed, and what serves a new one.
use Rattle.std.specs.Prelude.{◌≡◌, ℕ, ◌<◌, List, [], ◌∷◌, ◌++◌, Some, IsTrue, IsFalse}
use Rattle.lvm_num.specs.declared.descriptor.Mode.{Mode}
use Rattle.lvm_num.specs.declared.place.Pp.{Pp}
use Rattle.lvm_num.specs.declared.descriptor.LvRow.{LvRow}
use Rattle.lvm_num.specs.declared.descriptor.Descriptor.{Descriptor}
use Rattle.lvm_num.specs.declared.status.Status.{Status}
use Rattle.lvm_num.specs.Buffer.{zero_sector}
use Rattle.lvm_num.specs.Disks.{Disks}
use Rattle.lvm_num.specs.Descriptor.{copies_of}
use Rattle.lvm_num.specs.Votes.{all_disks}
use Rattle.lvm_num.specs.Record.{Stamped}
use Rattle.lvm_num.specs.Status.{calls_stale}
use Rattle.lvm_vol.specs.declared.entry.Vol.TheVariants.{Lv}
use Rattle.lvm_vol.specs.Facts.{Fact, Making, Made, Removing, Removed, Cut}
use Rattle.lvm_vol.specs.May.{known, IsValue}
use Rattle.lvm_vol.specs.Standing.{Open, volumes_in}
use Rattle.lvm_kept.specs.Contents.{Contents}
use Rattle.lvm_kept.specs.Group.{members_in, status_by, ReadsGroup, block_at, IsBlockOf, IsOneOf}
use Rattle.lvm_kept.specs.Kept.{Kept}
use Rattle.lvm_kept.specs.Changes.{IsFoundByAll, IsFoundByNone}
use Rattle.lvm_steps.specs.Committing.{VolumeIsServed}

-- ---- entries

-- A volume that no quorum finds may be in the making,
abbrev pub VolumeBegins : Type 0
VolumeBegins = (c : Contents) (facts : List Fact) (lv blocks : ℕ) (mode : Mode) → IsFoundByNone c lv → Kept c facts → Kept c (facts ++ Making lv blocks mode ∷ [])

-- and is made once each quorum finds it;
abbrev pub VolumeIsMade : Type 0
VolumeIsMade = (c : Contents) (facts : List Fact) (lv : ℕ) → (volumes_in facts lv).standing ≡ Open → IsFoundByAll c lv → Kept c facts → Kept c (facts ++ Made lv ∷ [])

-- its removal may begin at any time,
abbrev pub VolumeGoes : Type 0
VolumeGoes = (c : Contents) (facts : List Fact) (lv : ℕ) → Kept c facts → Kept c (facts ++ Removing (Lv lv) ∷ [])

-- and it is removed once no quorum finds it.
abbrev pub VolumeIsGone : Type 0
VolumeIsGone = (c : Contents) (facts : List Fact) (lv : ℕ) → IsFoundByNone c lv → Kept c facts → Kept c (facts ++ Removed (Lv lv) ∷ [])

-- ---- a new volume

-- Its blocks are zeros on every copy, which is a value that the history allows; and whatever status a quorum of the group finds, of each logical
-- partition it leaves a copy fresh on a member.
pub record AreZeros (c : Contents) (facts : List Fact) (group : Descriptor) (row : LvRow) : Type 0 where
  pub zeros : (lp n : ℕ) (p : Pp) → IsOneOf (copies_of row lp) p → IsBlockOf group.mib row lp n → block_at c group.mib p n ≡ zero_sector
  pub allowed : (lp n : ℕ) → IsBlockOf group.mib row lp n → IsValue (known (facts ++ Cut ∷ []) (Lv row.number) n) zero_sector
  pub found : (b : Disks) (k : Descriptor) → ReadsGroup c b group.id k → (status : Stamped Status) × (status_by c b group.id k ≡ Some status)
      × ((lp : ℕ) → lp < row.lps → (p : Pp) × IsOneOf (copies_of row lp) p × IsTrue (members_in c all_disks group.id group p.disk) × IsFalse (calls_stale status.value p))

-- Then it is served.
abbrev pub ZerosServe : Type 0
ZerosServe = (c : Contents) (facts : List Fact) (group : Descriptor) (row : LvRow) → AreZeros c facts group row → VolumeIsServed c facts group row
