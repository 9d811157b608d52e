-- A session as it begins is sound.
use Rattle.std.specs.Prelude.{◌≡◌, ◌≤◌, ◌<◌, ◌+◌, ◌^◌, ℕ, true, false, [], None, length, replicate}
use Rattle.lvm_num.specs.Votes.{votes_in, is_enough_to_write}
use Rattle.lvm_vol.specs.Log.{is_open}
use Rattle.lvm_vol.specs.Order.{Ordered}
use Rattle.lvm_mwc.specs.Cache.{flight_on}
use Rattle.lvm_num.specs.Disks.{has}
use Rattle.lvm_num.specs.declared.place.Pp.{Pp}
use Rattle.lvm_session.specs.passed.Status.{members_there, seen, IsSoundStatus}
use Rattle.lvm_session.specs.declared.open.Power.TheVariants as power
use Rattle.lvm_session.specs.State.{Core, State}
use Rattle.lvm_session.specs.Marks.{is_entailed}
use Rattle.lvm_session.specs.Causes.{faults_at_first}
use Rattle.lvm_session.specs.Left.{updates_left}
use Rattle.lvm_session.specs.Placed.{ArePlaced}
use Rattle.lvm_session.specs.Sound.{IsFitting, HasPower, IsSound}

-- nothing is under way in it
pub record IsUnused (core : Core) : Type 0 where
  pub requests : core.requests ≡ []
  pub rows : core.queue.rows ≡ []
  pub copy : core.copy ≡ None
  pub pool : core.pool ≡ replicate (length core.pool) false
  pub flying : core.flying ≡ []
  pub entries : core.cache.entries ≡ []
  pub started : (disk : ℕ) → has core.status.writes.started disk ≡ false
  pub notes : (disk : ℕ) → flight_on core.cache disk ≡ None

-- what is committed and wanted of the status is what it begins with, and nothing is in flight
pub record HasFirstStatus (core : Core) : Type 0 where
  pub sound : IsSoundStatus (seen core.status)
  pub committed : core.status.committed ≡ core.origin.table
  pub wanted : core.status.wanted ≡ core.origin.table
  pub in_flight : core.status.in_flight ≡ None

-- A session begins over a shelf at rest, with a history all of whose requests have landed, votes enough to write, nothing that missing disks would
-- entail, and numbers for the updates that may follow.
pub record SessionBegins (s : State) : Type 0 where
  pub fitting : IsFitting s.core
  pub ordered : Ordered s.core.history.run [] s.core.history.facts
  pub landed : (id : ℕ) → is_open s.core.history.facts id ≡ false
  pub unused : IsUnused s.core
  pub calm : HasFirstStatus s.core
  pub power : s.core.power ≡ power.On
  pub lit : HasPower s.device
  pub idle : s.device.flights ≡ []
  pub placed : ArePlaced s.device.sizes s.core.descriptor s.core.origin.table
  pub faults : (disk : ℕ) → faults_at_first s.core disk ≤ s.device.counts.faults disk
  pub votes : is_enough_to_write s.core.descriptor (votes_in s.core.descriptor (members_there s.core.descriptor s.core.origin.table)) ≡ true
  pub behind : (p : Pp) → is_entailed s.core p ≡ false
  pub numbers : s.core.status.stamp.seq + updates_left s.core < 2 ^ 32

abbrev pub BeginningIsSound : Type 0
BeginningIsSound = (s : State) → SessionBegins s → IsSound s
