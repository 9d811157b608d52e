-- The state of a session of a group.
use Rattle.std.specs.Prelude.{ℕ, Bool, List, Option}
use Rattle.lvm_num.specs.declared.descriptor.Descriptor.{Descriptor}
use Rattle.lvm_num.specs.Disks.{Disks}
use Rattle.lvm_num.specs.Votes.{votes_in}
use Rattle.lvm_kept.specs.passed.Disk.{Device}
use Rattle.lvm_kept.specs.passed.Vol.{Log}
use Rattle.lvm_kept.specs.passed.Rec.{Homes}
use Rattle.lvm_kept.specs.Moments.{Moment}
use Rattle.lvm_hold.specs.Waiting.{Waiting}
use Rattle.lvm_mwc.specs.Cache.{Cached}
use Rattle.lvm_status.specs.Update.{Stored, members_there}
use Rattle.lvm_session.specs.declared.open.Open.{Open}
use Rattle.lvm_session.specs.declared.open.Power.{Power}
use Rattle.lvm_session.specs.declared.bringing.OpenCopy.{OpenCopy}
use Rattle.lvm_session.specs.declared.flown.Flown.{Flown}
use Rattle.lvm_session.specs.declared.origin.Origin.{Origin}

-- What contracts see of a session beside its shelf.
pub record Core : Type 0 where
  -- the committed descriptor
  pub descriptor : Descriptor
  pub history : Log
  -- the open requests by rising numbers, and how many there is room for
  pub requests : List Open
  pub most : ℕ
  -- who waits for whom
  pub queue : Waiting
  -- the copy that is being brought up
  pub copy : Option OpenCopy
  -- for each transfer buffer whether it is out
  pub pool : List Bool
  -- whose transfers are out, in the order of their starts
  pub flying : List Flown
  -- the committed status, the one in flight and the wanted one, and the last stamp
  pub status : Stored
  -- the track groups that may differ after a crash, and each disk's notes
  pub cache : Cached
  -- the slots to which the next records go
  pub homes : Homes
  -- for each number of a volume the copy at which its last read began, 0 before there was one
  pub last : List ℕ
  -- what there was already when it began
  pub origin : Origin
  pub power : Power

-- a session and its shelf
pub record State : Type 0 where
  pub device : Device
  pub core : Core

abbrev pub state : Device → Core → State
state device core = record { device = device; core = core }

-- that of a driver, by the device that its shelf is
abbrev pub state_of : {S : Type 0} → (S → Device) → S × Core → State
state_of device driver = state (device driver.0) driver.1

-- what its history has, and what its shelf is
abbrev pub moment_of : State → Moment
moment_of s = record { device = s.device; facts = s.core.history.facts }

-- the members that aren't missing
abbrev pub is_there : Core → Disks
is_there core = members_there core.descriptor core.status.wanted

-- their votes
abbrev pub votes_there : Core → ℕ
votes_there core = votes_in core.descriptor (is_there core)
