-- What the disks show that stands against their joining a group.
use Rattle.std.specs.Prelude.{◌≡◌, ◌≢◌, ◌⊎◌, ℕ, ◌<◌, ◌≤◌, true, false, List, Some, slice_get, IsTrue}
use Rattle.lvm_num.specs.declared.descriptor.Descriptor.{Descriptor}
use Rattle.lvm_num.specs.declared.status.Status.{Status}
use Rattle.lvm_num.specs.Record.{Stamped}
use Rattle.lvm_kept.specs.Contents.{Contents}
use Rattle.lvm_core.specs.Committing.{is_in}
use Rattle.lvm_quorum.specs.declared.row.SurveyRow.{SurveyRow}
use Rattle.lvm_quorum.specs.declared.row.Survey.{Survey}
use Rattle.lvm_quorum.specs.Surveyed.{surveyed}
use Rattle.lvm_extend_plan.specs.declared.fault.ExtendFault.{ExtendFault}
use Rattle.lvm_extend_plan.specs.declared.fault.ExtendFault.TheVariants as fault

-- ---- a disk that can't be read

-- the records of each of these disks were read
abbrev pub AreRead : Survey → List ℕ → Type 0
AreRead s disks = (d : ℕ) (row : SurveyRow) → slice_get s.rows d ≡ Some row → IsTrue (is_in disks d) → row.failed ≡ false

-- the lowest of them of which a read failed
pub record IsFirstUnread (s : Survey) (disks : List ℕ) (disk : ℕ) : Type 0 where
  pub named : IsTrue (is_in disks disk)
  pub row : SurveyRow
  pub on : slice_get s.rows disk ≡ Some row
  pub failed : row.failed ≡ true
  pub before : (d : ℕ) (r : SurveyRow) → slice_get s.rows d ≡ Some r → d < disk → IsTrue (is_in disks d) → r.failed ≡ false

-- ---- another group

-- the disk of the row shows another group than this one
abbrev pub HasForeign : SurveyRow → ℕ → Type 0
HasForeign row id = (group : Descriptor) × (row.descriptor ≡ Some group) × (group.id ≢ id)

-- one of these disks does
pub record ShowsForeign (c : Contents) (disks : List ℕ) (id : ℕ) : Type 0 where
  pub disk : ℕ
  pub named : IsTrue (is_in disks disk)
  pub newest : Stamped Descriptor
  pub on : c.descriptor disk ≡ Some newest
  pub other : newest.value.id ≢ id

-- ---- a moment that isn't earlier

-- the row has a record of this moment
abbrev pub HasEpoch : SurveyRow → ℕ → Type 0
HasEpoch row moment =
    ((group : Descriptor) × (row.descriptor ≡ Some group) × (row.descriptor_stamp.epoch ≡ moment))
    ⊎ ((status : Status) × (row.status ≡ Some status) × (row.status_stamp.epoch ≡ moment))

-- it has none of a later one than this, of which it has one, or it has none
pub record IsLastOf (row : SurveyRow) (last : ℕ) : Type 0 where
  pub all : (moment : ℕ) → HasEpoch row moment → moment ≤ last
  pub one : (last ≡ 0) ⊎ HasEpoch row last

-- one of these disks shows a descriptor or a status of this moment
abbrev pub ShowsEpoch : Contents → List ℕ → ℕ → Type 0
ShowsEpoch c disks moment =
    ((d : ℕ) × (r : Stamped Descriptor) × IsTrue (is_in disks d) × (c.descriptor d ≡ Some r) × (r.stamp.epoch ≡ moment))
    ⊎ ((d : ℕ) × (r : Stamped Status) × IsTrue (is_in disks d) × (c.status d ≡ Some r) × (r.stamp.epoch ≡ moment))

-- none of them shows one of a later moment than this
abbrev pub ShowsUpTo : Contents → List ℕ → ℕ → Type 0
ShowsUpTo c disks last = (moment : ℕ) → ShowsEpoch c disks moment → moment ≤ last

-- ---- in their order

-- what was found lets the disks join a group of this id, whose session has this moment
pub record LetsJoin (s : Survey) (disks : List ℕ) (id moment : ℕ) : Type 0 where
  pub read : AreRead s disks
  pub free : ShowsForeign (surveyed s) disks id → ⊥
  pub earlier : (shown : ℕ) → ShowsEpoch (surveyed s) disks shown → shown < moment

-- it doesn't, each cause exactly where it holds and those before it don't
abbrev pub RefusesShown : Survey → List ℕ → ℕ → ℕ → ExtendFault → Type 0
RefusesShown s disks id moment (fault.DiskFailed disk) = IsFirstUnread s disks disk
RefusesShown s disks id moment fault.GroupExists = AreRead s disks × ShowsForeign (surveyed s) disks id
RefusesShown s disks id moment (fault.ClockBack seen) =
    AreRead s disks × (ShowsForeign (surveyed s) disks id → ⊥) × (moment ≤ seen) × ShowsEpoch (surveyed s) disks seen × ShowsUpTo (surveyed s) disks seen
RefusesShown s disks id moment _ = ⊥
