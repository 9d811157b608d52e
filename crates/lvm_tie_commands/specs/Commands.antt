-- Over a command on the volumes of a session, by the contract of its call: what stands on the disks goes on to stand.
use Rattle.std.specs.Prelude.{◌≡◌, ℕ, List, [], Result}
use Rattle.lvm_num.specs.declared.place.Pp.{Pp}
use Rattle.lvm_disk.specs.Device.{HasSectors}
use Rattle.lvm_vol.specs.Facts.{Fact}
use Rattle.lvm_kept.specs.Moments.{Moment}
use Rattle.lvm_steps.specs.Moments.{RunBegins, Keeps}
use Rattle.lvm_commit.specs.LawsOfVolumes.{IsOneFoundOn}
use Rattle.lvm_session.specs.State.{Core, State, state}
use Rattle.lvm_session.specs.Sound.{IsSound}
use Rattle.lvm_handover.specs.passed.Core.{moment_of, StartsHeld, EntersVolumes, IsSettled, Leaves}
use Rattle.lvm_handover.specs.passed.VolumePlan.{GroupFault, NewVolume, IfOn}
use Rattle.lvm_handover.specs.passed.Volumes.{MklvGives, RmlvGives, to_make, to_remove}
use Rattle.lvm_volumes.specs.Tidying.{to_tidy}
use Rattle.lvm_handover.specs.Serving.{IsCommanded, OriginIsMarked}
use Rattle.lvm_handover.specs.passed.Going.{IsStamped}
use Rattle.lvm_tie_commands.specs.Standing.{StandsAfter, StandsSince}

-- Before it the session of this run is sound, a span leads to it, and what stands on its disks does so after each earlier history.
pub record MayBeCommanded (run : ℕ) (first : Moment) (s : State) : Type 0 where
  pub sound : IsSound s
  pub run_is : s.core.history.run ≡ run
  pub stamped : IsStamped s.core.status
  pub keeps : Keeps run first (moment_of s)
  pub stands : StandsSince run first s

-- where the making of a group's first volume is entered, whatever any disks find is of one group on each crash image
abbrev pub IsAloneAtFirst : State → State → Type 0
IsAloneAtFirst old new = old.core.descriptor.lvs ≡ [] → EntersVolumes old.core.history.facts new.core.history.facts → IsOneFoundOn old.device

-- After it that stands as it is where the group has no volume, and in any case once the session takes requests again, whatever copies were added.
pub record IsLeftStanding (past : List Fact) (new : State) : Type 0 where
  pub empty : new.core.descriptor.lvs ≡ [] → StartsHeld new.device new.core
  pub served : (added : List Pp) (core : Core) → OriginIsMarked added new.core core → IsSound (state new.device core) → StandsAfter past new.device core

-- after each earlier history, where the shelf has whole sectors
abbrev pub IsLeftStandingSince : ℕ → Moment → State → Type 0
IsLeftStandingSince run first new = HasSectors new.device → (past : List Fact) → RunBegins run past first → IsLeftStanding past new

-- A span goes on over the making of a volume, whatever its answer, and where the session does, it is left so;
abbrev pub MklvGoesOn : Type 0
MklvGoesOn = (run : ℕ) (first : Moment) (v : NewVolume) (before after : ℕ) (old new : State) (answer : Result ℕ GroupFault)
    → MayBeCommanded run first old → IsAloneAtFirst old new → IsCommanded (to_make v old.core) before after old new answer → MklvGives v before old new answer
    → Keeps run first (moment_of new) × IfOn answer (IsLeftStandingSince run first new)

-- and so it is over the removal of one.
abbrev pub RmlvGoesOn : Type 0
RmlvGoesOn = (run : ℕ) (first : Moment) (lv before after : ℕ) (old new : State) (answer : Result (Unit {0}) GroupFault)
    → MayBeCommanded run first old → IsCommanded (to_remove lv old.core) before after old new answer → RmlvGives lv before old new answer
    → Keeps run first (moment_of new) × IfOn answer (IsLeftStandingSince run first new)

-- A span goes on over the dropping of dirty marks that aren't needed, whatever its answer.
abbrev pub TidyGoesOn : Type 0
TidyGoesOn = (run : ℕ) (first : Moment) (before after : ℕ) (old new : State) → MayBeCommanded run first old → IsSettled old.core → Leaves (to_tidy old.core) before after old new → Keeps run first (moment_of new)
