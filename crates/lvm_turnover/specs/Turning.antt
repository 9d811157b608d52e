-- How a session turns to its group's next descriptor, step by step.
use Rattle.std.specs.Prelude.{◌≡◌, ℕ, ◌<◌, ◌^◌, ◌-◌, List, [], ◌∷◌, not, filter, Option, Some, None, IfSome, IsTrue, false, Result, Ok, Err}
use Rattle.lvm_num.specs.declared.record.Stamp.{Stamp}
use Rattle.lvm_num.specs.declared.descriptor.Descriptor.{Descriptor}
use Rattle.lvm_num.specs.declared.status.Status.{Status}
use Rattle.lvm_num.specs.Disks.{Disks, has}
use Rattle.lvm_num.specs.DescriptorBytes.{descriptor_bytes}
use Rattle.lvm_num.specs.Status.{IsValidStatus}
use Rattle.lvm_num.specs.StatusBytes.{status_bytes}
use Rattle.lvm_status.specs.Rerowed.{IsRerowed}
use Rattle.lvm_num.specs.Descriptor.{is_member}
use Rattle.lvm_disk.specs.Device.{Device, image_of}
use Rattle.lvm_status.specs.Calls.{first_updates}
use Rattle.lvm_status.specs.Update.{Stored, seen, members_there}
use Rattle.lvm_rec.specs.declared.homes.Homes.{Homes}
use Rattle.lvm_mwc.specs.Cache.{Cached, flight_on}
use Rattle.lvm_mwc.specs.Notes.{is_of_disk}
use Rattle.lvm_write.specs.Written.{written_well}
use Rattle.lvm_commit.specs.declared.commit.CommitEnd.{CommitEnd}
use Rattle.lvm_commit.specs.Committed.{next_stamp}
use Rattle.lvm_commit.specs.Settling.{MayCommit, IsOfStatus, StatusEnds, CommitLeaves, StatusFindsNothingNew, StatusStaysKept}
use Rattle.lvm_session.specs.declared.open.Power.TheVariants as power
use Rattle.lvm_session.specs.declared.origin.Origin.{Origin}
use Rattle.lvm_session.specs.Dark.{all_dark}
use Rattle.lvm_session.specs.State.{Core, State, is_there}
use Rattle.lvm_core.specs.declared.fault.CommitFault.{CommitFault}
use Rattle.lvm_core.specs.declared.fault.CommitFault.TheVariants as fault
use Rattle.lvm_core.specs.Committing.{is_in, with_one_out}
use Rattle.lvm_core.specs.Held.{IsHeld}
use Rattle.lvm_core.specs.Steps.{EndsAs}
use Rattle.lvm_change_laws.specs.Rule.{MayChange, IsShownOn}
use Rattle.lvm_change.specs.declared.turn.Transition.{Transition}
use Rattle.lvm_change.specs.declared.turn.TransitionEnd.{TransitionEnd}
use Rattle.lvm_change.specs.declared.turn.TransitionEnd.TheVariants as turned
use Rattle.lvm_change.specs.Parting.{PartsWith}
use Rattle.lvm_change.specs.Transition.{TransitionGives}
use Rattle.lvm_turnover.specs.declared.change.Change.{Change}
use Rattle.lvm_turnover.specs.declared.change.Leaving.{Leaving}

-- the stamp two records after this one in its session
abbrev pub after_turn : Stamp → Stamp
after_turn stamp = next_stamp (next_stamp stamp)

-- ---- what is made ready

-- The change has the bytes of its descriptor, and the tables of that.
pub record IsPrepared (c : Change) : Type 0 where
  pub group : c.tables.group ≡ record c.next { lvs = [] }
  pub content : c.content ≡ descriptor_bytes c.next

-- In its rows they say what this status says.
pub record IsMadeFor (was : Status) (c : Change) : Type 0 where
  pub prepared : IsPrepared c
  pub told : IsRerowed c.next was c.tables.told

-- So it is, and no member leaves.
pub record IsReady (c : Change) : Type 0 where
  pub prepared : IsPrepared c
  pub stay : c.leaving ≡ None

-- The turn has its descriptor and its status, with their bytes.
pub record IsTurnBy (c : Change) (was : Descriptor) (turn : Transition) : Type 0 where
  pub was_is : turn.was.now ≡ was
  pub next : turn.next.now ≡ c.next
  pub told : turn.told.now ≡ c.tables.told
  pub valid : IsValidStatus turn.told.now
  pub status : turn.status.now ≡ status_bytes turn.told.now
  pub content : turn.content.now ≡ descriptor_bytes turn.next.now

-- ---- a member that leaves

-- the disk that leaves, where one does
abbrev pub disks_leaving : Option Leaving → List ℕ
disks_leaving None = []
disks_leaving (Some out) = out.disk ∷ []

-- the cache without its notes
abbrev pub cache_after : Option Leaving → Cached → Cached
cache_after None cache = cache
cache_after (Some out) cache = record cache { notes = filter (λ n. not (is_of_disk out.disk n)) cache.notes }

-- how the session began, in the rows of those that stay
abbrev pub origin_after : Option Leaving → Origin → Origin
origin_after None origin = origin
origin_after (Some out) origin = record origin { table = out.origin }

-- the session without it
abbrev pub core_after : Option Leaving → Core → Core
core_after leaving core = record core { cache = cache_after leaving core.cache; origin = origin_after leaving core.origin }

abbrev pub state_after : Option Leaving → State → State
state_after leaving s = record { device = s.device; core = core_after leaving s.core }

-- ---- before it

-- A session at which nothing is wanted that isn't committed may write these records to these members, which aren't missing.
pub record MaySend (c : Change) (there : Disks) (s : State) : Type 0 where
  pub made : IsMadeFor s.core.status.committed c
  pub there_is : there ≡ is_there s.core
  pub leaves : Disks
  pub change : MayChange leaves s.core.descriptor c.next (is_there s.core)
  pub commit : MayCommit 4 s.core.descriptor s.core.status s.device

-- A session may turn so.
pub record MayTurnSession (c : Change) (s : State) : Type 0 where
  pub ready : IsMadeFor s.core.status.committed c
  pub settled : s.core.status.committed ≡ s.core.status.wanted
  pub change : MayChange (is_in (disks_leaving c.leaving)) s.core.descriptor c.next (is_there s.core)
  pub still : (disk : ℕ) → flight_on s.core.cache disk ≡ None
  pub commit : MayCommit 4 s.core.descriptor s.core.status s.device

-- ---- the two records

-- the session's status once two stamps were taken
abbrev pub stamped_twice : Core → Stored
stamped_twice core = record core.status { stamp = after_turn core.status.stamp }

-- The records were sent to these members, under the next two stamps, with the first buffer.
pub record IsSent (c : Change) (there : Disks) (before after : ℕ) (old new : State) (result : TransitionEnd) : Type 0 where
  pub turn : Transition
  pub by : IsTurnBy c old.core.descriptor turn
  pub gives : TransitionGives turn there old.core.status.stamp old.core.homes new.core.homes 0 before after old.device new.device result
  pub is : new.core ≡ record old.core { pool = with_one_out old.core.pool; status = stamped_twice old.core; homes = new.core.homes }

-- ---- what is wanted behind them

-- What was wanted of the status is committed, or as far as it went, with the buffer of number 0; the session goes on as that ended.
pub record IsSettledBy (before after : ℕ) (old new : State) (answer : Result (Unit {0}) CommitFault) : Type 0 where
  pub last : Stored
  pub homes : Homes
  pub how : CommitEnd
  pub ends : StatusEnds 0 before old.core.status last old.core.homes homes old.device new.device how
  pub leaves : CommitLeaves old.core.descriptor (IsOfStatus old.core.status last) before after old.core.status last old.device new.device
  pub finds : StatusFindsNothingNew old.core.status old.core.homes old.device new.device
  pub kept : StatusStaysKept old.core.descriptor old.core.status old.core.homes old.device new.device
  pub goes : EndsAs (record old.core { status = last; homes = homes }) new.core how answer

-- those of a group's members that aren't missing, and weren't reached
abbrev pub unreached : Descriptor → Core → ℕ → Disks
unreached group core written = written_well (members_there group core.status.wanted) (has written)

-- It begins with what the change tells, under this stamp, and these members are wanted missing.
pub record BeginsWith (c : Change) (lost : Disks) (stamp : Stamp) (first : Stored) : Type 0 where
  pub begun : Stored
  pub begun_is : seen begun ≡ record (first_updates c.tables.told c.tables.group) { stamp = stamp }
  pub parts : PartsWith c.next lost begun first

-- The session is one of the next descriptor, without the member that leaves; the members that weren't reached are wanted missing, and that is committed, or as far as it went.
pub record TakesOver (c : Change) (written : ℕ) (slots : Homes) (before after : ℕ) (device : Device) (old new : State) (answer : Result (Unit {0}) CommitFault) : Type 0 where
  pub first : Stored
  pub parts : BeginsWith c (unreached c.next old.core written) (after_turn old.core.status.stamp) first
  pub settles : IsSettledBy before after (record { device = device; core = record (core_after c.leaving old.core) { descriptor = c.next; pool = with_one_out old.core.pool; status = first; homes = slots } }) new answer

-- The session has gone off with its descriptor; the members that weren't reached are wanted missing.
pub record GivesUp (have total written : ℕ) (slots : Homes) (old new : State) (answer : Result (Unit {0}) CommitFault) : Type 0 where
  pub answer_is : answer ≡ Err (fault.WentOff have total)
  pub parts : PartsWith old.core.descriptor (unreached old.core.descriptor old.core written) (stamped_twice old.core) new.core.status
  pub is : new.core ≡ record old.core { status = new.core.status; homes = slots; power = power.Off }

-- What the session does with what came of the records, by how they ended.
abbrev pub GoesOnWith : Change → Homes → ℕ → ℕ → Device → State → State → TransitionEnd → Result (Unit {0}) CommitFault → Type 0
GoesOnWith c slots before after device old new (turned.Done written buf) answer = TakesOver c written slots before after device old new answer
GoesOnWith c slots before after device old new (turned.WentOff have total written buf) answer = (new.device ≡ device) × (after ≡ before) × GivesUp have total written slots old new answer
GoesOnWith c slots before after device old new turned.Dark answer =
    (new.device ≡ device) × (after ≡ before) × (answer ≡ Err fault.Dark) × (new.core ≡ all_dark (record old.core { pool = with_one_out old.core.pool; status = stamped_twice old.core; homes = slots }))
GoesOnWith c slots before after device old new turned.Stuck answer =
    (new.device ≡ device) × (after ≡ before) × (answer ≡ Err fault.Stuck) × (new.core ≡ record old.core { pool = with_one_out old.core.pool; status = stamped_twice old.core; homes = slots })

-- ---- the whole

-- The two records were written, or as far as that went, and the session went on with what came of it.
pub record TurnsSession (c : Change) (before after : ℕ) (old new : State) (answer : Result (Unit {0}) CommitFault) : Type 0 where
  pub turn : Transition
  pub by : IsTurnBy c old.core.descriptor turn
  pub slots : Homes
  pub middle : ℕ
  pub device : Device
  pub turned : TransitionEnd
  pub gives : TransitionGives turn (is_there old.core) old.core.status.stamp old.core.homes slots 0 before middle old.device device turned
  pub goes : GoesOnWith c slots middle after device old new turned answer

-- ---- disks that left

-- Where the next descriptor is committed, a disk that is no member by it but was there, and to which no transfer failed as its count tells, shows it, if the disks held what was
-- committed. It is in the slot to which it went.
abbrev pub ShowsGone : Descriptor → State → State → Result (Unit {0}) CommitFault → Type 0
ShowsGone next old new (Ok done) = (disk : ℕ) → IsTrue (is_there old.core disk) → is_member next disk ≡ false → old.device.counts.faults disk < 2 ^ 64 - 1 → new.device.counts.faults disk ≡ old.device.counts.faults disk → IsHeld old.device old.core
    → IfSome new.device.media (λ media. IsShownOn (image_of new.device.sizes media) next old.core.homes disk)
ShowsGone next old new (Err why) = Unit {0}
