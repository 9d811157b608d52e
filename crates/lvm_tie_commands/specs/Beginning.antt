-- What stands on the disks of a session that varyon or mkvg has begun, by the contracts of these calls.
use Rattle.std.specs.Prelude.{◌≡◌, ◌≢◌, ℕ, List, []}
use Rattle.lvm_disk.specs.Device.{Device, HasSectors}
use Rattle.lvm_vol.specs.Facts.{Fact}
use Rattle.lvm_vol.specs.Log.{Log}
use Rattle.lvm_kept.specs.Moments.{Moment}
use Rattle.lvm_steps.specs.Moments.{Keeps}
use Rattle.lvm_commit.specs.LawsOfVolumes.{IsOneFoundOn}
use Rattle.lvm_session.specs.State.{State}
use Rattle.lvm_session.specs.Sound.{IsSound}
use Rattle.lvm_handover.specs.passed.Core.{Room, moment_of, StartsHeld, IsSettled}
use Rattle.lvm_handover.specs.passed.Varyon.{ComesOn, DirtyAreEqual}
use Rattle.lvm_handover.specs.passed.Group.{IsMade, NewGroup}
use Rattle.lvm_handover.specs.passed.Going.{IsStamped}
use Rattle.lvm_tie_commands.specs.Standing.{StandsAfter, StandsSince}

-- The session of this run has begun, settled and sound, a span leads to it, and its disks hold what it says.
pub record HasBegun (run : ℕ) (first : Moment) (s : State) : Type 0 where
  pub sound : IsSound s
  pub settled : IsSettled s.core
  pub stamped : IsStamped s.core.status
  pub run_is : s.core.history.run ≡ run
  pub keeps : Keeps run first (moment_of s)
  pub held : StartsHeld s.device s.core

-- Where a varyon has begun it: with a volume, where on each crash image whatever any disks find is of one group, and the copies of volumes that are dirty still are equal.
abbrev pub VariedOnStands : Type 0
VariedOnStands = (run : ℕ) (first : Moment) (was : Log) (name : List ℕ) (moment : ℕ) (room : Room) (old : Device) (s : State)
    → ComesOn old s.device was name moment room s.core → DirtyAreEqual s.device s.core → HasBegun run first s → HasSectors s.device
    → (s.core.descriptor.lvs ≢ [] → IsOneFoundOn s.device) → StandsSince run first s

-- Where a mkvg has: the group has no volume.
abbrev pub MadeStands : Type 0
MadeStands = (past : List Fact) (was : Log) (w : NewGroup) (room : Room) (old : Device) (s : State)
    → IsMade w room was old s.device s.core → StartsHeld s.device s.core → StandsAfter past s.device s.core
