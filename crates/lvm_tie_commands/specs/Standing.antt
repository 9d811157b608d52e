-- What stands on the disks of a session between two commands, after an earlier history.
use Rattle.std.specs.Prelude.{◌≡◌, ◌≢◌, ℕ, List, []}
use Rattle.lvm_disk.specs.Device.{Device}
use Rattle.lvm_vol.specs.Facts.{Fact}
use Rattle.lvm_kept.specs.Moments.{Moment}
use Rattle.lvm_steps.specs.Moments.{RunBegins}
use Rattle.lvm_session.specs.State.{Core, State, state}
use Rattle.lvm_handover.specs.passed.Core.{StartsHeld}
use Rattle.lvm_tie.specs.Spares.{SparesDescriptors}
use Rattle.lvm_tie.specs.Tied.{IsTied}

-- Of a group without volumes the disks hold what the session says is committed, and their notes name what its cache does; of one with volumes the session is tied after this earlier history, and the next descriptors spare the newest ones.
pub record StandsAfter (past : List Fact) (device : Device) (core : Core) : Type 0 where
  pub empty : core.descriptor.lvs ≡ [] → StartsHeld device core
  pub tied : core.descriptor.lvs ≢ [] → IsTied past (state device core)
  pub spares : core.descriptor.lvs ≢ [] → SparesDescriptors (state device core)

-- and that after each earlier history with which the run may have begun
abbrev pub StandsSince : ℕ → Moment → State → Type 0
StandsSince run first s = (past : List Fact) → RunBegins run past first → StandsAfter past s.device s.core
