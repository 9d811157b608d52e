-- How a command on the volumes of a session ends, and what it may do.
use Rattle.std.specs.Prelude.{◌≡◌, ◌⊎◌, ℕ, true, not, [], None}
use Rattle.std.specs.List.{list_any}
use Rattle.lvm_num.specs.declared.place.Pp.{Pp}
use Rattle.lvm_num.specs.declared.descriptor.Descriptor.{Descriptor}
use Rattle.lvm_num.specs.Descriptor.{volume_of}
use Rattle.lvm_disk.specs.Counts.{Rose}
use Rattle.lvm_disk.specs.Device.{IsReady}
use Rattle.lvm_vol.specs.Log.{Log, cut_log}
use Rattle.lvm_kept.specs.Group.{IsOneOf}
use Rattle.lvm_kept.specs.Moments.{Moment}
use Rattle.lvm_volume_plan.specs.passed.Write.{IsDarkened, IsGivenUp}
use Rattle.lvm_volume_plan.specs.passed.Commit.{IsOnlyGroupOn, IsOnlyGroupSince, NoneIsLeft, HasLostQuorum}
use Rattle.lvm_volume_plan.specs.passed.Core.{with_one_out, IsHeld, AreNotesHome, Scope, NoPartition, NoVolume, EntersVolumes}
use Rattle.lvm_session.specs.declared.open.Power.TheVariants as power
use Rattle.lvm_session.specs.Dark.{all_dark}
use Rattle.lvm_session.specs.State.{Core, State}
use Rattle.lvm_session.specs.Judging.{copies_in, is_wanted_stale}

-- ---- faults as they happen

-- The power was cut in the command, which had entered so much: a cut is entered, and the session is over with its descriptor as it was.
pub record CommandDarkened (entered : Log) (old new : State) : Type 0 where
  pub cut : IsDarkened 0 old.device new.device
  pub power : new.core.power ≡ power.Dark
  pub history : new.core.history ≡ cut_log entered
  pub descriptor : new.core.descriptor ≡ old.core.descriptor
  pub requests : new.core.requests ≡ []
  pub is : new.core ≡ all_dark (record old.core { history = entered; pool = with_one_out old.core.pool; status = new.core.status; homes = new.core.homes })

-- The members that aren't missing have too few votes to write, since a transfer to one has failed: the session has gone off.
pub record CommandWentOff (entered : Log) (have total : ℕ) (old new : State) : Type 0 where
  pub lost : HasLostQuorum old.core.status new.core.status old.device new.device have total
  pub is : new.core ≡ record old.core { history = entered; status = new.core.status; homes = new.core.homes; power = power.Off }
  pub power : new.core.power ≡ power.Off
  pub history : new.core.history ≡ entered
  pub descriptor : new.core.descriptor ≡ old.core.descriptor
  pub requests : new.core.requests ≡ []
  pub ready : IsReady new.device
  pub cuts : new.device.counts.cuts ≡ old.device.counts.cuts

-- Nothing was heard of a transfer until the patience had run out.
pub record CommandStuck (entered : Log) (patience : ℕ) (old new : State) : Type 0 where
  pub out : IsGivenUp 0 patience old.device new.device
  pub history : new.core.history ≡ entered
  pub descriptor : new.core.descriptor ≡ old.core.descriptor
  pub requests : new.core.requests ≡ []
  pub is : new.core ≡ record old.core { history = entered; pool = with_one_out old.core.pool; status = new.core.status; homes = new.core.homes }

-- A transfer of the disk failed, and the session goes on with the descriptor and the history that it had.
pub record CommandFailed (disk : ℕ) (old new : State) : Type 0 where
  pub fault : Rose (old.device.counts.faults disk) (new.device.counts.faults disk)
  pub is : new.core ≡ record old.core { status = new.core.status; homes = new.core.homes }
  pub ready : IsReady new.device
  pub cuts : new.device.counts.cuts ≡ old.device.counts.cuts

-- ---- while the session goes on

-- The disks hold what the session says, where they did, and their notes name what its cache does, where they did; no group but this one is found on them,
-- where none was, and no copy is left behind on a member that is missing, where none was.
pub record StillHeld (old new : State) : Type 0 where
  pub held : IsHeld old.device old.core → IsHeld new.device new.core
  pub notes : AreNotesHome old.device old.core → AreNotesHome new.device new.core
  pub only : IsHeld old.device old.core → IsOnlyGroupOn old.device old.core.descriptor.id → IsOnlyGroupOn new.device new.core.descriptor.id
  pub left : NoneIsLeft old.core.descriptor old.core.status → NoneIsLeft new.core.descriptor new.core.status

-- some copy of the logical partition isn't wanted stale
abbrev pub HasFresh : Core → ℕ → ℕ → Type 0
HasFresh core lv lp = list_any (λ (p : Pp). not (is_wanted_stale core p)) (copies_in core.descriptor lv lp) ≡ true

-- each logical partition of a volume that is new, or that had a fresh copy, has one
abbrev pub KeepsFresh : State → State → Type 0
KeepsFresh old new = (lv lp : ℕ) (p : Pp) → IsOneOf (copies_in new.core.descriptor lv lp) p → (volume_of old.core.descriptor lv ≡ None) ⊎ HasFresh old.core lv lp → HasFresh new.core lv lp

-- ---- whatever the answer

-- a span goes on where, if a volume's making or removal is entered, no group but this one is found on the disks
abbrev pub IfAlone : State → State → ℕ → Moment → Type 0
IfAlone old new run first = EntersVolumes old.core.history.facts new.core.history.facts → IsOnlyGroupSince run first old.device old.core.descriptor.id

-- a command on volumes that may commit such descriptors, write zeros to such partitions and make them fresh, and spend so many numbers
abbrev pub commanding : (Descriptor → Type 0) → (Pp → Type 0) → ℕ → Scope
commanding N Z numbers = record { next = N; zeros = Z; stale = NoPartition; fresh = Z; marks = NoVolume; numbers = numbers; lets = IfAlone }

-- a removal of the volume of this number, which may commit such descriptors and drop its mark
abbrev pub removing_by : (Descriptor → Type 0) → ℕ → Scope
removing_by N lv = record { next = N; zeros = NoPartition; stale = NoPartition; fresh = NoPartition; marks = λ n. n ≡ lv; numbers = 2; lets = IfAlone }

-- a session with another descriptor
abbrev pub with_descriptor : Descriptor → State → State
with_descriptor d s = record s { core = record s.core { descriptor = d } }
