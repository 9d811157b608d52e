-- What the rows of a survey say against a new group.
use Rattle.std.specs.Prelude.{◌≡◌, ◌⊎◌, ℕ, ◌<◌, ◌≤◌, Bool, true, false, [], Some, slice_get}
use Rattle.lvm_num.specs.Record.{last_moment}
use Rattle.lvm_num.specs.declared.descriptor.Descriptor.{Descriptor}
use Rattle.lvm_num.specs.declared.status.Status.{Status}
use Rattle.lvm_quorum.specs.declared.row.SurveyRow.{SurveyRow}
use Rattle.lvm_quorum.specs.declared.row.Survey.{Survey}
use Rattle.lvm_quorum.specs.Surveyed.{surveyed}
use Rattle.lvm_group.specs.passed.Core.{Cause}
use Rattle.lvm_group.specs.passed.CoreRefusedCause as cause
use Rattle.lvm_group.specs.Shown.{HasGroup, ShowsEarlier, IsLastShown}

-- ---- a row

-- the disk is in a group; with force, in one that has a volume
pub record DiskIsTaken (row : SurveyRow) (force : Bool) : Type 0 where
  pub group : Descriptor
  pub on : row.descriptor ≡ Some group
  pub with_force : force ≡ true → group.lvs ≡ [] → ⊥

-- the row has this moment: as the epoch of its descriptor, as the id of the group, or as the epoch of its status
abbrev pub HasMoment : SurveyRow → ℕ → Type 0
HasMoment row moment =
    ((group : Descriptor) × (row.descriptor ≡ Some group) × (row.descriptor_stamp.epoch ≡ moment))
    ⊎ ((group : Descriptor) × (row.descriptor ≡ Some group) × (group.id ≡ moment))
    ⊎ ((status : Status) × (row.status ≡ Some status) × (row.status_stamp.epoch ≡ moment))

-- it has none later than this one, which it has, or it has none
pub record IsLastOf (row : SurveyRow) (last : ℕ) : Type 0 where
  pub all : (moment : ℕ) → HasMoment row moment → moment ≤ last
  pub one : (last ≡ 0) ⊎ HasMoment row last

-- ---- all rows

-- the lowest disk of which a read failed
pub record IsFirstFailed (s : Survey) (disk : ℕ) : Type 0 where
  pub row : SurveyRow
  pub on : slice_get s.rows disk ≡ Some row
  pub failed : row.failed ≡ true
  pub before : (d : ℕ) (r : SurveyRow) → slice_get s.rows d ≡ Some r → d < disk → r.failed ≡ false

-- none failed
abbrev pub NoneFailed : Survey → Type 0
NoneFailed s = (d : ℕ) (r : SurveyRow) → slice_get s.rows d ≡ Some r → r.failed ≡ false

-- what was found lets a group be made at the moment
pub record LetsBegin (s : Survey) (force : Bool) (moment : ℕ) : Type 0 where
  pub read : NoneFailed s
  pub free : HasGroup (surveyed s) force → ⊥
  pub first : moment < last_moment
  pub later : ShowsEarlier (surveyed s) moment

-- it doesn't, each cause exactly where it holds and those before it don't
abbrev pub RefusesShown : Survey → Bool → ℕ → Cause → Type 0
RefusesShown s force moment (cause.DiskFailed disk) = IsFirstFailed s disk
RefusesShown s force moment cause.GroupExists = NoneFailed s × HasGroup (surveyed s) force
RefusesShown s force moment (cause.ClockBack seen) =
    NoneFailed s × (HasGroup (surveyed s) force → ⊥)
    × (((moment ≡ last_moment) × (seen ≡ last_moment)) ⊎ ((moment < last_moment) × (moment ≤ seen) × IsLastShown (surveyed s) seen))
RefusesShown s force moment (cause.NoDisk disk) = ⊥
RefusesShown s force moment (cause.TooMany limit) = ⊥
RefusesShown s force moment (cause.TooSmall disk) = ⊥
RefusesShown s force moment cause.HistoryFull = ⊥
RefusesShown s force moment cause.NoRecord = ⊥
RefusesShown s force moment cause.Ambiguous = ⊥
RefusesShown s force moment (cause.NoQuorum have total) = ⊥
RefusesShown s force moment cause.Dark = ⊥
RefusesShown s force moment cause.Stuck = ⊥
RefusesShown s force moment cause.Memory = ⊥
