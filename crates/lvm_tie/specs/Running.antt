-- What turns and calls leave of a session, from one moment of it to a later one.
use Rattle.std.specs.Prelude.{◌≡◌, ◌⊎◌, ◌<◌, ℕ, true, false, [], List, None}
use Rattle.lvm_num.specs.declared.place.Pp.{Pp}
use Rattle.lvm_num.specs.declared.descriptor.Descriptor.{Descriptor}
use Rattle.lvm_num.specs.Status.{calls_stale}
use Rattle.lvm_disk.specs.Counts.{NoneFalls, Rose}
use Rattle.lvm_disk.specs.Device.{Device, Image, MayLeave}
use Rattle.lvm_vol.specs.Facts.{Fact}
use Rattle.lvm_vol.specs.Legal.{IsLater}
use Rattle.lvm_kept.specs.Contents.{contents_of}
use Rattle.lvm_kept.specs.Group.{IsFound}
use Rattle.lvm_steps.specs.Behind.{beginning_at}
use Rattle.lvm_steps.specs.Laws.{LeavesBefore}
use Rattle.lvm_session.specs.declared.open.Power.TheVariants as power
use Rattle.lvm_status.specs.Table.{SameMissing}
use Rattle.lvm_session.specs.declared.origin.Origin.{Origin}
use Rattle.lvm_session.specs.State.{Core, State}
use Rattle.lvm_keeps_events.specs.Telling.{SameRoom}
use Rattle.lvm_tie.specs.GoingOn.{SessionGoesOn}
use Rattle.lvm_tie.specs.Landings.{HasCausesSince}
use Rattle.lvm_tie.specs.Spares.{LeavesDescriptors, SparesDescriptors}
use Rattle.lvm_tie.specs.Stamps.{IsStamped, KeepsEpoch}

-- ---- its descriptors

-- whatever a quorum may find after a crash of the one device it might find after a crash of the other
abbrev pub MayFindNoMore : Device → Device → Type 0
MayFindNoMore old new = (id : ℕ) (k : Descriptor) (image : Image) → MayLeave new image → IsFound (contents_of image) id k → (before : Image) × MayLeave old before × IsFound (contents_of before) id k

-- No transfer goes to a slot of descriptors, the newest ones go on to be spared, and no further one may be found.
pub record KeepsDescriptors (old new : State) : Type 0 where
  pub leaves : LeavesDescriptors new.device
  pub spares : SparesDescriptors old → SparesDescriptors new
  pub finds : MayFindNoMore old.device new.device

-- ---- its moment

-- What stands on each crash image is of sessions from before this moment, and the session is one of them, while it isn't dark.
pub record IsBefore (moment : ℕ) (s : State) : Type 0 where
  pub leaves : LeavesBefore (beginning_at moment) s.device
  pub session : (s.core.power ≡ power.Dark → ⊥) → IsStamped s.core.status × (s.core.status.stamp.epoch < moment)

-- ---- what it was given

-- it goes on as it did, or is over: dark, or off where it was on
abbrev pub GoesOnOrEnds : Core → Core → Type 0
GoesOnOrEnds old new = (new.power ≡ old.power) ⊎ (new.power ≡ power.Dark) ⊎ ((old.power ≡ power.On) × (new.power ≡ power.Off))

-- the power goes off by a cut alone
abbrev pub GoesOffByCut : Device → Device → Type 0
GoesOffByCut old new = old.power ≡ true → new.power ≡ false → Rose old.counts.cuts new.counts.cuts

-- The counts of faults at its beginning stay, so does what was missing then, and what counted as stale then does so.
pub record KeepsOrigin (old new : Origin) : Type 0 where
  pub faults : new.faults ≡ old.faults
  pub missing : SameMissing old.table new.table
  pub stale : (p : Pp) → calls_stale old.table p ≡ true → calls_stale new.table p ≡ true

-- It is of the group, the run and the rooms that it was given, on disks as large, whose counts never fall and whose power goes off by a cut alone.
pub record KeepsShape (old new : State) : Type 0 where
  pub sizes : new.device.sizes ≡ old.device.sizes
  pub counts : NoneFalls old.device.counts new.device.counts
  pub cut : GoesOffByCut old.device new.device
  pub log : record new.core.history { facts = [] } ≡ record old.core.history { facts = [] }
  pub room : SameRoom old.core new.core
  pub descriptor : new.core.descriptor ≡ old.core.descriptor
  pub origin : KeepsOrigin old.core.origin new.core.origin
  pub power : GoesOnOrEnds old.core new.core

-- ---- all of it

-- What each turn and each call leaves, an order to the shelf among them: a good session is good, and its span goes on; no descriptor becomes found; what is later
-- than its disks and its history stays so; and each landing has its cause.
pub record LeavesSession (old new : State) : Type 0 where
  pub good : SessionGoesOn old.core.history.run old new
  pub descriptors : LeavesDescriptors old.device → KeepsDescriptors old new
  pub before : (moment : ℕ) → IsBefore moment old → IsBefore moment new
  pub epoch : (new.core.power ≡ power.Dark → ⊥) → KeepsEpoch old.core.status new.core.status
  pub later : (moment : ℕ) → IsLater old.core.history.facts moment → IsLater new.core.history.facts moment
  pub causes : (first : List Fact) → HasCausesSince first old → HasCausesSince first new
  pub keeps : KeepsShape old new

-- And where no order was given and no copy was opened.
pub record RunsOn (old new : State) : Type 0 where
  pub leaves : LeavesSession old new
  pub origin : new.core.origin ≡ old.core.origin
  pub orders : new.device.orders ≡ old.device.orders
  pub copy : old.core.copy ≡ None → new.core.copy ≡ None
