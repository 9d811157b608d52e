-- The first transfer that may be started.
use Rattle.std.specs.Prelude.{◌≡◌, ℕ, true, false, Option, Some, None}
use Rattle.lvm_num.specs.Status.{calls_missing}
use Rattle.lvm_disk.specs.Device.{Device}
use Rattle.lvm_session.specs.declared.event.Event.{Event}
use Rattle.lvm_session.specs.declared.event.Event.TheVariants as event
use Rattle.lvm_session.specs.State.{Core, State}
use Rattle.lvm_session.specs.Judging.{is_missing}
use Rattle.lvm_session.specs.Enabled.{first_of, is_lost, parts_to_start}
use Rattle.lvm_session.specs.declared.answers.Turned.{Turned}
use Rattle.lvm_session.specs.Placed.{ArePlaced}
use Rattle.lvm_moves.specs.Launching.{HasFlight, MayLaunch, MayNote, MayReadCopy, MayStartData, MayWriteCopy, StartGives}
use Rattle.lvm_moves.specs.Updating.{MayStartStatus}

-- The group has its votes, one transfer more may be out, and the members are on the shelf but for those that were missing when the session began, which still are.
pub record MayStartTransfer (device : Device) (core : Core) : Type 0 where
  pub flight : HasFlight device core
  pub votes : is_lost core ≡ false
  pub placed : ArePlaced device.sizes core.descriptor core.origin.table
  pub still : (disk : ℕ) → calls_missing core.origin.table disk ≡ true → is_missing core disk ≡ true

-- This event starts a transfer that may be started.
abbrev pub CanStart : Event → Device → Core → Type 0
CanStart (event.Land place how) device core = ⊥
CanStart (event.Admit place) device core = ⊥
CanStart (event.Pin place) device core = ⊥
CanStart event.StartStatus device core = MayLaunch device core × MayStartStatus device core
CanStart (event.StartNote place disk) device core = MayLaunch device core × MayNote device core place disk
CanStart (event.StartData place target) device core = MayLaunch device core × MayStartData device core place target
CanStart event.ReadCopy device core = MayLaunch device core × MayReadCopy device core
CanStart event.WriteCopy device core = HasFlight device core × MayWriteCopy device core

-- The first transfer that may be started is, unless the power is found off; or there is none, and nothing has changed.
abbrev pub StartsFirst : State → State → Option Turned → Type 0
StartsFirst old new None = (first_of parts_to_start old.core ≡ None) × (new ≡ old)
StartsFirst old new (Some answer) = (it : Event) × (first_of parts_to_start old.core ≡ Some it) × StartGives it old new answer
