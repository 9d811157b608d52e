-- Sessions in the midst of their work, written out, by which the definitions are tried.
use Rattle.std.specs.Prelude.{◌≡◌, ℕ, Bool, true, false, if◌then◌else◌, nat_lt, List, [], ◌∷◌, Option, Some, None, replicate}
use Rattle.std.specs.Option.{option_map}
use Rattle.lvm_num.specs.declared.place.Pp.{Pp}
use Rattle.lvm_num.specs.declared.descriptor.Descriptor.{Descriptor}
use Rattle.lvm_num.specs.declared.descriptor.Mode.{Mode}
use Rattle.lvm_num.specs.declared.descriptor.Mode.TheVariants as mode
use Rattle.lvm_num.specs.declared.descriptor.Policy.TheVariants as policy
use Rattle.lvm_num.specs.declared.status.Status.{Status}
use Rattle.lvm_num.specs.Descriptor.{is_member}
use Rattle.lvm_kept.specs.passed.Disk.{Device, Flight}
use Rattle.lvm_kept.specs.passed.Vol.{Outcome, Fact, Begun, Landed, Request as Asked}
use Rattle.lvm_kept.specs.passed.VolEntryOutcome as outcome
use Rattle.lvm_kept.specs.passed.VolEntryVol.{Lv}
use Rattle.lvm_hold.specs.declared.queue.Row.{Row}
use Rattle.lvm_kept.specs.Examples.{member, mirror, group_of, row_of, status_of_rows}
use Rattle.lvm_mwc.specs.declared.notes.DiskNotes.{DiskNotes}
use Rattle.lvm_mwc.specs.Cache.{Cached, has_disk, no_notes}
use Rattle.lvm_status.specs.declared.writes.Writes.{Writes}
use Rattle.lvm_path.specs.passed.Sched.{TargetState}
use Rattle.lvm_path.specs.passed.SchedWritesTargetState as stage
use Rattle.lvm_path.specs.declared.ask.Ask.{Ask}
use Rattle.lvm_path.specs.declared.ask.Ask.TheVariants.{Read, Write}
use Rattle.lvm_path.specs.declared.request.Phase.{Phase}
use Rattle.lvm_path.specs.declared.request.Phase.TheVariants as phase
use Rattle.lvm_path.specs.declared.target.Target.{Target}
use Rattle.lvm_session.specs.declared.bringing.CopyEnd.{CopyEnd}
use Rattle.lvm_session.specs.declared.bringing.CopyEnd.TheVariants as ending
use Rattle.lvm_session.specs.declared.bringing.OpenCopy.{OpenCopy}
use Rattle.lvm_session.specs.declared.bringing.Step.TheVariants as step
use Rattle.lvm_session.specs.declared.flown.Flown.{Flown}
use Rattle.lvm_session.specs.declared.flown.Owner.TheVariants as owner
use Rattle.lvm_session.specs.declared.open.Open.{Open}
use Rattle.lvm_session.specs.declared.open.Power.TheVariants as power
use Rattle.lvm_session.specs.State.{Core, State, state}
use Rattle.lvm_session.specs.Judging.{is_usable, is_caught, held_of, place_of}
use Rattle.lvm_session.specs.Bringing.{copy_ends}
use Rattle.lvm_session.specs.declared.event.Event.TheVariants as event
use Rattle.lvm_session.specs.Enabled.{first_event, pinning}
use Rattle.lvm_session.specs.declared.answers.CopyFault.TheVariants as refusal
use Rattle.lvm_session.specs.Events.{makes_dirty}
use Rattle.lvm_session.specs.Turns.{Darkens}
use Rattle.lvm_session.specs.Calls.{ask_fault, fault_on, copy_fault}
use Rattle.lvm_session.specs.Left.{left_of}
use Rattle.lvm_session.specs.Requests.{IsRequest}
use Rattle.lvm_session.specs.Causes.{IsCaused, IsAnswered, IsTrueToOrigin}
use Rattle.lvm_session.specs.Sound.{IsAsked, IsCopy, IsGoing, IsSound}

-- ---- three disks, on two of which a volume of one logical partition of 8 track groups is mirrored

abbrev pub mirrored : Mode → Descriptor
mirrored m = group_of (member 0 ∷ member 1 ∷ member 2 ∷ []) (mirror m ∷ [])

abbrev pub first_copy : Pp
first_copy = record { disk = 0; pp = 0 }

abbrev pub second_copy : Pp
second_copy = record { disk = 1; pp = 0 }

-- what a status says: the second copy is stale, the first disk is missing, the volume is dirty, the partition of the third disk that no volume has is stale
pub record Says : Type 0 where
  pub stale : Bool
  pub missing : Bool
  pub dirty : Bool
  pub place : Bool

abbrev pub status_of : Says → Status
status_of s = record (status_of_rows (record (row_of 0 false) { missing = s.missing } ∷ row_of 1 s.stale ∷ row_of 2 s.place ∷ [])) { dirty = if s.dirty then 1 ∷ [] else [] }

-- both copies are fresh
abbrev pub fresh : Says
fresh = record { stale = false; missing = false; dirty = false; place = false }

-- the second copy is stale
abbrev pub behind : Says
behind = record fresh { stale = true }

-- ---- sessions

-- What differs from one worked session to the next: the history, what is committed and wanted, the update in flight with its writes, the requests with their
-- rows in the queue, the copy that is open, what the cache has, what is out, and how the session began.
pub record Moment : Type 0 where
  pub mode : Mode
  pub facts : List Fact
  pub committed : Says
  pub wanted : Says
  pub flies : Option Says
  pub writes : Writes
  pub requests : List Open
  pub rows : List Row
  pub copy : Option OpenCopy
  pub cache : Cached
  pub pool : List Bool
  pub flying : List Flown
  pub origin : Says

-- nothing is under way, and both copies are fresh
abbrev pub calm : Mode → Moment
calm m = record {
  mode = m;
  facts = [];
  committed = fresh;
  wanted = fresh;
  flies = None;
  writes = record { unstarted = 0; started = 0; written = 0; failed = 0 };
  requests = [];
  rows = [];
  copy = None;
  cache = record { entries = []; notes = no_notes 0 ∷ no_notes 1 ∷ no_notes 2 ∷ [] };
  pool = false ∷ [];
  flying = [];
  origin = fresh;
}

abbrev pub core_of : Moment → Core
core_of w = record {
  descriptor = mirrored w.mode;
  history = record { run = 50; facts = w.facts; room = 65536; bytes = 65536 };
  requests = w.requests;
  most = 4;
  queue = record { room = 5; rows = w.rows };
  copy = w.copy;
  pool = w.pool;
  flying = w.flying;
  status = record {
    group = record (mirrored w.mode) { lvs = [] };
    committed = status_of w.committed;
    wanted = status_of w.wanted;
    in_flight = option_map status_of w.flies;
    writes = w.writes;
    stamp = record { epoch = 50; seq = 3 };
  };
  cache = w.cache;
  homes = record { descriptor = 0; status = 0 };
  last = replicate 512 0;
  origin = record { faults = replicate 128 0; table = status_of w.origin };
  power = power.On;
}

-- a target on this partition
abbrev pub target_on : Pp → TargetState → Target
target_on p how = record { pp = p; sector = 4096; usable = true; moves = false; faults = 0; state = how }

-- a request of the first block
abbrev pub asking : ℕ → Ask → Phase → List Target → Open
asking id ask phase targets = record {
  request = record { id = id; client = 1; ask = ask; phase = phase; policy = policy.Parallel; pinned = false; targets = record { items = targets } };
  place = 0;
  older = false;
  got = None;
  landed = None;
}

abbrev pub a_write : Ask
a_write = Write 1 0 1

abbrev pub a_read : Ask
a_read = Read 1 0 1

-- its row in the queue
abbrev pub row_for : ℕ → Ask → Row
row_for id ask = record { id = place_of id; ask = held_of ask }

-- the second copy, of which so many track groups are copied
abbrev pub bringing_up : ℕ → Option CopyEnd → OpenCopy
bringing_up cursor end = record { lv = 1; lp = 0; copy = 2; pp = second_copy; moves = false; cursor = cursor; step = step.Idle; tried = 0; place = 1; faults = 0 ∷ 0 ∷ 0 ∷ 0 ∷ []; end = end }

-- ---- a passive volume

abbrev pub two_targets : List Target
two_targets = target_on first_copy stage.Waiting ∷ target_on second_copy stage.Waiting ∷ []

-- a write of both copies in this phase, where the volume is wanted dirty or isn't
abbrev pub passive : Phase → List Target → Bool → Moment
passive phase targets dirty = record (calm mode.Passive) { wanted = record fresh { dirty = dirty }; requests = asking 1 a_write phase targets ∷ []; rows = row_for 1 a_write ∷ [] }

-- The admission of a write to several copies of a passive volume wants the volume dirty. Without that the write would wait for ever, and such a session isn't
-- sound; with it the status is written, and less work is left.
pub record AdmissionMarks : Type 0 where
  pub may : first_event (core_of (passive phase.Held [] false)) ≡ Some (event.Admit 0)
  pub makes : makes_dirty (core_of (passive phase.Held [] false)) a_write two_targets ≡ true
  pub waits : first_event (core_of (passive phase.WantRecord two_targets false)) ≡ None
  pub unsound : IsRequest (core_of (passive phase.WantRecord two_targets false)) (asking 1 a_write phase.WantRecord two_targets) → ⊥
  pub goes_on : first_event (core_of (passive phase.WantRecord two_targets true)) ≡ Some event.StartStatus
  pub falls : nat_lt (left_of (core_of (passive phase.WantRecord two_targets true))) (left_of (core_of (passive phase.Held [] false))) ≡ true

-- ---- a copy that has ended while its clearing was in flight

abbrev pub status_flight : ℕ → Flown
status_flight disk = record { ticket = disk; disk = disk; owner = owner.Status disk }

-- The copy has ended as failed, and a write is held; an older update calls it fresh, which one disk has, or two have, so that it is committed.
abbrev pub reopened : Bool → Moment
reopened held = record (calm mode.Off) {
  committed = if held then fresh else behind;
  wanted = behind;
  flies = Some fresh;
  writes = record { unstarted = 0; started = if held then 4 else 6; written = if held then 3 else 1; failed = 0 };
  requests = asking 2 a_write phase.Held [] ∷ [];
  rows = row_for 2 a_write ∷ [];
  copy = Some (bringing_up 8 (Some ending.SyncFailed));
  flying = if held then status_flight 2 ∷ [] else status_flight 1 ∷ status_flight 2 ∷ [];
}

-- With the end of the write that commits the update the copy is usable until the next one, and less work is left all the same.
pub record CommitLowersWork : Type 0 where
  pub before : is_usable (core_of (reopened false)) second_copy ≡ false
  pub after : is_usable (core_of (reopened true)) second_copy ≡ true
  pub falls : nat_lt (left_of (core_of (reopened true))) (left_of (core_of (reopened false))) ≡ true

-- A copy that an update in flight calls fresh isn't opened again; one that is settled as stale is.
pub record UnsettledIsFresh : Type 0 where
  pub unsettled : copy_fault (record (core_of (reopened false)) { copy = None }) 1 0 2 ≡ Some refusal.AlreadyFresh
  pub settled : copy_fault (core_of (record (calm mode.Off) { committed = behind; wanted = behind })) 1 0 2 ≡ None

-- ---- a read beside the copy

abbrev pub read_targets : List Target
read_targets = target_on first_copy stage.Flying ∷ target_on second_copy stage.Failed ∷ []

-- The read of the second copy has failed, and is out on the first; the second became stale since, and three of its track groups are copied.
abbrev pub reading : Moment
reading = record (calm mode.Off) {
  committed = behind;
  wanted = behind;
  requests = asking 1 a_read phase.Data read_targets ∷ [];
  rows = row_for 1 a_read ∷ [];
  copy = Some (bringing_up 3 None);
}

-- The copy may pass where a read has failed.
pub record ReadsMayLag : Type 0 where
  pub caught : is_caught (core_of reading) 0 second_copy ≡ true
  pub sound : IsRequest (core_of reading) (asking 1 a_read phase.Data read_targets)

-- ---- sessions that would stand still

-- All is copied, but the copy was made stale again.
abbrev pub stale_again : Moment
stale_again = record (calm mode.Off) { committed = behind; wanted = behind; copy = Some (bringing_up 8 None) }

-- Both transfers of a write have ended, one badly, and nothing is wanted.
abbrev pub half_done : List Target
half_done = target_on first_copy stage.Done ∷ target_on second_copy stage.Failed ∷ []

abbrev pub unmarked : Moment
unmarked = record (calm mode.Off) { requests = asking 1 a_write phase.WantStatus half_done ∷ []; rows = row_for 1 a_write ∷ [] }

-- A write was admitted behind another one of the same block.
abbrev pub overtaking : Moment
overtaking = record (calm mode.Off) {
  requests = asking 1 a_write phase.Data two_targets ∷ asking 2 a_write phase.Data two_targets ∷ [];
  rows = row_for 1 a_write ∷ row_for 2 a_write ∷ [];
}

-- A write whose targets were chosen before the copy was opened has the copy among them, which has passed it.
abbrev pub older_write : Open
older_write = record (asking 1 a_write phase.Data (target_on first_copy stage.Flying ∷ target_on second_copy stage.Done ∷ [])) { older = true }

abbrev pub passed : Moment
passed = record reading { requests = older_write ∷ [] }

-- Nothing can be made of the first two of these, and none of the four is sound.
pub record StandingStillIsUnsound : Type 0 where
  pub no_event : first_event (core_of stale_again) ≡ None
  pub no_end : copy_ends (core_of stale_again) ≡ None
  pub stale : IsCopy (core_of stale_again) (bringing_up 8 None) → ⊥
  pub waits : first_event (core_of unmarked) ≡ None
  pub unmarked : IsRequest (core_of unmarked) (asking 1 a_write phase.WantStatus half_done) → ⊥
  pub overtakes : IsRequest (core_of overtaking) (asking 2 a_write phase.Data two_targets) → ⊥
  pub passes : IsRequest (core_of passed) older_write → ⊥

-- ---- causes

-- no transfer has failed on any disk
abbrev pub faultless : Device
faultless = record {
  sizes = 16384 ∷ 16384 ∷ 16384 ∷ [];
  media = None;
  flights = [];
  freed = [];
  power = true;
  counts = record { starts = λ d. 0; misses = λ d. 0; faults = λ d. 0; cuts = 0; waits = 0 };
  arranges = false;
  orders = record { made = 0; last = None; alone = None };
  wrote = None;
}

-- the first disk is missing, and its copy isn't wanted stale
abbrev pub left_behind : Moment
left_behind = record (calm mode.Off) { wanted = record fresh { missing = true } }

-- Without a fault nothing is held against a copy that was chosen as usable, nothing is missing and nothing stale; and what a missing disk leaves behind is wanted stale.
pub record BlameNeedsFaults : Type 0 where
  pub missing : IsCaused faultless (core_of left_behind) (target_on first_copy stage.Waiting) → ⊥
  pub lost : IsTrueToOrigin (state faultless (core_of left_behind)) → ⊥
  pub stale : IsTrueToOrigin (state faultless (core_of stale_again)) → ⊥
  pub behind : IsGoing (core_of left_behind) → ⊥

-- ---- answers

-- the write began, and landed as lost
abbrev pub begun_write : Asked
begun_write = record { run = 50; id = 1; client = 1; vol = Lv 1; at = 0; count = 1; write = true; blocks = replicate 512 0 ∷ [] }

abbrev pub lost_write : List Fact
lost_write = Begun begun_write ∷ Landed begun_write outcome.Lost true [] ∷ []

abbrev pub landed_so : Outcome → Open
landed_so how = record (asking 1 a_write phase.Landed half_done) { landed = Some how }

-- An answer is the history's; none says that the session is over while it goes on; a stuck session refuses nothing for the votes.
pub record AnswersAreTold : Type 0 where
  pub otherwise : IsAsked lost_write (landed_so outcome.Done) → ⊥
  pub off : IsAnswered (state faultless (core_of (calm mode.Off))) (landed_so outcome.Off) → ⊥
  pub dark : IsAnswered (state faultless (core_of (calm mode.Off))) (landed_so outcome.Dark) → ⊥
  pub stuck : (core : Core) (ask : Ask) → ask_fault (record core { power = power.Stuck }) ask ≡ fault_on core ask

-- ---- the end of a session

-- A power cut leaves the notes of exactly the members.
abbrev pub DarknessKeepsNotes : Type 0
DarknessKeepsNotes = (old new : State) → Darkens old new → ((disk : ℕ) → has_disk old.core.cache disk ≡ is_member old.core.descriptor disk)
    → (disk : ℕ) → has_disk new.core.cache disk ≡ is_member new.core.descriptor disk

-- ---- what is sound

-- A session as it begins is sound, in whatever mode its volume is.
abbrev pub BeginningsAreSound : Type 0
BeginningsAreSound = (m : Mode) → IsSound (state faultless (core_of (calm m)))

-- a write that has begun, and isn't admitted yet
abbrev pub held_write : Mode → Moment
held_write m = record (calm m) { facts = Begun begun_write ∷ []; requests = asking 1 a_write phase.Held [] ∷ []; rows = row_for 1 a_write ∷ [] }

-- So is one with a write that is held.
abbrev pub HeldWritesAreSound : Type 0
HeldWritesAreSound = (m : Mode) → IsSound (state faultless (core_of (held_write m)))

-- A write of both copies of an active volume: its track group is pinned, both disks' notes name it, and the transfer to the first copy is out.
abbrev pub flying_write : Open
flying_write =
    let o = asking 1 a_write phase.Data (target_on first_copy stage.Flying ∷ target_on second_copy stage.Waiting ∷ []) in
    record o { request = record o.request { pinned = true } }

-- a disk whose note names the first track group of the volume
abbrev pub naming : ℕ → DiskNotes
naming disk = record { disk = disk; written = record { items = record { lv = 1; group = 0 } ∷ [] }; flight = None }

abbrev pub flying : Moment
flying = record (calm mode.Active) {
  facts = Begun begun_write ∷ [];
  requests = flying_write ∷ [];
  rows = row_for 1 a_write ∷ [];
  cache = record { entries = record { lv = 1; group = 0; pins = 1 } ∷ []; notes = naming 0 ∷ naming 1 ∷ no_notes 2 ∷ [] };
  pool = true ∷ [];
  flying = record { ticket = 1; disk = 0; owner = owner.Data 1 0 } ∷ [];
}

-- the transfer that is out
abbrev pub first_flight : Flight
first_flight = record { ticket = 1; disk = 0; first = 4096; count = 1; write = true; buf = record { number = 0; sectors = replicate 256 (replicate 512 0) } }

-- So is one with such a write.
abbrev pub FlyingWritesAreSound : Type 0
FlyingWritesAreSound = IsSound (state (record faultless { flights = first_flight ∷ [] }) (core_of flying))

-- the second copy was stale when the session began, and three of its track groups are copied
abbrev pub bringing : Mode → Moment
bringing m =
    let c = bringing_up 3 None in
    record (calm m) { committed = behind; wanted = behind; rows = record { id = c.place; ask = record { lv = 1; at = 768; count = 256; write = false; copy = true } } ∷ []; copy = Some c; origin = behind }

-- So is one whose copy is being brought up.
abbrev pub CopiesAreSound : Type 0
CopiesAreSound = (m : Mode) → IsSound (state faultless (core_of (bringing m)))

-- ---- what is to be pinned

-- a write of both copies of an active volume that waits for its entry in the cache
abbrev pub waiting : Moment
waiting = record (calm mode.Active) { facts = Begun begun_write ∷ []; requests = asking 1 a_write phase.WantEntry two_targets ∷ []; rows = row_for 1 a_write ∷ [] }

-- A session with such a write is sound, and its track group is pinned next.
pub record WaitingWritesPin : Type 0 where
  pub sound : IsSound (state faultless (core_of waiting))
  pub pins : pinning (core_of waiting) ≡ Some (event.Pin 0)

-- ---- writes that hold no pin

abbrev pub unpinned_write : Open
unpinned_write = asking 1 a_write phase.Data (target_on first_copy stage.Flying ∷ target_on second_copy stage.Waiting ∷ [])

-- the first transfer of a write of both copies is out, and its volume is dirty
abbrev pub moving : Mode → Moment
moving m = record (calm m) { committed = record fresh { dirty = true }; wanted = record fresh { dirty = true }; requests = unpinned_write ∷ []; rows = row_for 1 a_write ∷ [] }

-- Such a request is sound where its volume is passive or keeps no records.
pub record UnpinnedWritesMove : Type 0 where
  pub passive : IsRequest (core_of (moving mode.Passive)) unpinned_write
  pub off : IsRequest (core_of (moving mode.Off)) unpinned_write
