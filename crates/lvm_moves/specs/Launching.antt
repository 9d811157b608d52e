-- When a transfer may be started.
use Rattle.std.specs.Prelude.{◌≡◌, ◌<◌, ℕ, true, Some, None, length, slice_get}
use Rattle.lvm_num.specs.declared.place.Pp.{Pp}
use Rattle.lvm_disk.specs.Device.{Device}
use Rattle.lvm_disk.specs.Steps.{IsRange}
use Rattle.lvm_mwc.specs.Cache.{Cached, flight_on, has_disk}
use Rattle.lvm_session.specs.passed.Kept.{note_sector}
use Rattle.lvm_session.specs.declared.bringing.OpenCopy.{OpenCopy}
use Rattle.lvm_session.specs.declared.open.Open.{Open}
use Rattle.lvm_session.specs.State.{Core, State}
use Rattle.lvm_session.specs.Bringing.{next_source}
use Rattle.lvm_session.specs.Enabled.{has_buffer, may_read, may_write, note_due}
use Rattle.lvm_session.specs.declared.event.Event.{Event}
use Rattle.lvm_session.specs.declared.answers.Turned.{Turned}
use Rattle.lvm_session.specs.declared.answers.Turned.TheVariants as turned
use Rattle.lvm_path.specs.Asks.{count_of}
use Rattle.lvm_session.specs.Events.{IsDueAt, step_sector}
use Rattle.lvm_session.specs.Turns.{Darkens, Makes}
use Rattle.lvm_session.specs.Sound.{IsGoing}

-- One transfer more may be out.
pub record HasFlight (device : Device) (core : Core) : Type 0 where
  pub going : IsGoing core
  pub flights : length device.flights < 1024
  pub flying : length core.flying < length core.pool

-- And it may take a buffer of the pool.
pub record MayLaunch (device : Device) (core : Core) : Type 0 where
  pub flight : HasFlight device core
  pub buffer : has_buffer core ≡ true

-- The track group at the cursor of the copy that is open may be read, and lies within the disk of its next source.
pub record MayReadCopy (device : Device) (core : Core) : Type 0 where
  pub copy : OpenCopy
  pub is_open : core.copy ≡ Some copy
  pub may : may_read core copy ≡ true
  pub range : (source : Pp) → next_source core copy ≡ Some source → IsRange device source.disk (step_sector core copy source) 256

-- It may be written, and lies within the copy's own disk.
pub record MayWriteCopy (device : Device) (core : Core) : Type 0 where
  pub copy : OpenCopy
  pub is_open : core.copy ≡ Some copy
  pub may : may_write copy ≡ true
  pub range : IsRange device copy.pp.disk (step_sector core copy copy.pp) 256

-- The start of this event is made, unless the power is found off.
abbrev pub StartGives : Event → State → State → Turned → Type 0
StartGives start old new turned.Moved = Makes start old new
StartGives start old new turned.Dark = Darkens old new
StartGives start old new turned.Idle = ⊥
StartGives start old new turned.Off = ⊥

-- ---- notes

-- a disk of the cache on which no note is in flight
pub record HasNote (cache : Cached) (disk : ℕ) : Type 0 where
  pub its : has_disk cache disk ≡ true
  pub none : flight_on cache disk ≡ None

-- The request at a place lacks a note on this disk first, and the disk has a sector for it.
pub record MayNote (device : Device) (core : Core) (place disk : ℕ) : Type 0 where
  pub request : Open
  pub there : slice_get core.requests place ≡ Some request
  pub due : note_due core request ≡ Some disk
  pub note : HasNote core.cache disk
  pub range : IsRange device disk note_sector 1

-- ---- data

-- It is the turn of this target of the request at a place, whose blocks lie within the target's disk.
pub record MayStartData (device : Device) (core : Core) (place target : ℕ) : Type 0 where
  pub due : IsDueAt core place target
  pub range : IsRange device due.aim.pp.disk due.aim.sector (count_of due.request.request.ask)
