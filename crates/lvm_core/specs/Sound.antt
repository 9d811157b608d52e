-- What holds of a session between commands.
use Rattle.std.specs.Prelude.{◌≡◌, ◌≤◌, ◌+◌, ℕ, false, true, List, [], None, length, replicate, slice_index_or}
use Rattle.lvm_num.specs.Descriptor.{IsValid, is_member}
pub use Rattle.lvm_vol.specs.Log.{HaveAllLanded}
pub use Rattle.lvm_session.specs.Sound.{HasNoneOpen}
use Rattle.lvm_mwc.specs.Entries.{AreEntries}
use Rattle.lvm_mwc.specs.Cache.{has_disk, flight_on}
use Rattle.lvm_status.specs.Members.{HasItsRows}
use Rattle.lvm_commit.specs.Settling.{IsForgotten}
use Rattle.lvm_session.specs.declared.open.Power.TheVariants as power
use Rattle.lvm_session.specs.State.{Core, State}
use Rattle.lvm_session.specs.Placed.{ArePlaced}
use Rattle.lvm_session.specs.Sound.{HasPower, IsDark, count_if, is_dark, out_with}

-- The parts of a session are of one group, and their rooms agree.
pub record IsFittingAtRest (core : Core) : Type 0 where
  pub valid : IsValid core.descriptor
  pub id : core.status.wanted.id ≡ core.descriptor.id
  pub rows : HasItsRows core.descriptor core.status.wanted
  pub group : core.status.group ≡ record core.descriptor { lvs = [] }
  pub entries : AreEntries core.cache.entries
  pub notes : (disk : ℕ) → has_disk core.cache disk ≡ is_member core.descriptor disk
  pub most : core.most ≤ 1024
  -- each request has a place, and the copy that is open one more
  pub queue : core.queue.room ≡ core.most + 1
  pub a_buffer : 1 ≤ length core.pool
  pub buffers : length core.pool ≤ 1024
  pub last : length core.last ≡ 512
  pub forgotten : IsForgotten core.status

-- nothing of the session may have a transfer under way
pub record HasNothingUnderWay (core : Core) : Type 0 where
  pub requests : core.requests ≡ []
  pub copy : core.copy ≡ None
  pub status : core.status.in_flight ≡ None
  pub notes : (disk : ℕ) → flight_on core.cache disk ≡ None
  pub buffers : core.pool ≡ replicate (length core.pool) false

pub record IsSoundAtRest (s : State) : Type 0 where
  pub fitting : IsFittingAtRest s.core
  pub none : HasNoneOpen s.core
  pub landed : HaveAllLanded s.core.history.facts
  -- the members that aren't missing are on the shelf
  pub placed : ArePlaced s.device.sizes s.core.descriptor s.core.status.wanted
  -- each buffer is in the pool or out, at one place, unless a power cut has lost it
  pub buffers : (n : ℕ) → out_with s.device s.core n ≤ count_if (slice_index_or s.core.pool n false)
  pub none_lost : is_dark s.core.power ≡ false → (n : ℕ) → out_with s.device s.core n ≡ count_if (slice_index_or s.core.pool n false)
  -- each transfer is the session's
  pub quiet : HasNothingUnderWay s.core → s.device.flights ≡ []
  pub lit : is_dark s.core.power ≡ false → HasPower s.device
  pub dark : is_dark s.core.power ≡ true → IsDark s.device
  -- a session whose transfer wasn't heard of is told by its buffer that is out
  pub heard : s.core.power ≡ power.Stuck → ⊥
