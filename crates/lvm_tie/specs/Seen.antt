-- How a session of the driver is seen without bytes: by what relation a state of the induction is that of its parts.
use Rattle.std.specs.Prelude.{◌≡◌, ◌⊎◌, ℕ, ◌+◌, ◌*◌, ◌-◌, Bool, true, false, ◌&&◌, ◌==◌, not, nat_le, nat_lt, if◌then◌else◌, List, [], ◌∷◌, ◌++◌, length, Option, Some, None, IsTrue, slice_get, slice_index_or}
use Rattle.std.specs.Option.{option_map, option_map_or}
use Rattle.lvm_num.specs.declared.place.Pp.{Pp}
use Rattle.lvm_num.specs.declared.record.NoteEntry.{NoteEntry}
use Rattle.lvm_num.specs.declared.status.Status.{Status}
use Rattle.lvm_num.specs.Buffer.{Buffer, Sector}
use Rattle.lvm_num.specs.Disks.{Disks, has}
use Rattle.lvm_num.specs.Record.{Stamped}
use Rattle.arrayvec.specs.ArrayVec.{ArrayVec}
use Rattle.lvm_vol.specs.Facts.{Fact, Request}
use Rattle.lvm_vol.specs.Log.{request_of}
use Rattle.lvm_mwc.specs.declared.notes.DiskNotes.{DiskNotes}
use Rattle.lvm_mwc.specs.Entries.{has_entry}
use Rattle.lvm_mwc.specs.Notes.{names_group}
use Rattle.lvm_mwc.specs.Cache.{Cached, notes_on, flight_on}
use Rattle.lvm_status.specs.Update.{Stored, seen, is_held}
use Rattle.lvm_sched.specs.declared.writes.TargetState.{TargetState}
use Rattle.lvm_sched.specs.declared.writes.TargetState.TheVariants as target
use Rattle.lvm_path.specs.declared.request.Phase.{Phase}
use Rattle.lvm_path.specs.declared.request.Phase.TheVariants as phase
use Rattle.lvm_path.specs.declared.target.Target.{Target}
use Rattle.lvm_path.specs.Asks.{lv_of, at_of, count_of, is_write}
use Rattle.lvm_path.specs.Targets.{is_begun}
use Rattle.lvm_session.specs.declared.open.Open.{Open}
use Rattle.lvm_session.specs.declared.bringing.OpenCopy.{OpenCopy}
use Rattle.lvm_session.specs.declared.bringing.Step.{Step}
use Rattle.lvm_session.specs.declared.bringing.Step.TheVariants as step
use Rattle.lvm_session.specs.State.{Core, is_there}
use Rattle.lvm_session.specs.Judging.{is_running, place_of}
use Rattle.lvm_session.specs.Bringing.{groups_of, has_row, block_at}
use Rattle.lvm_invariant.specs.State.{Stage, Todo, Flying, Well, Badly, ModelPhase, Held, WantEntry, Ready, Going, Landed, Groups, Queued, Beside, ModelCopy, StepWrite, ModelState, Marks, has_landed}
use Rattle.lvm_num.specs.Descriptor.{is_pp}
use Rattle.lvm_num.specs.Geometry.{partition_of}
use Rattle.lvm_crash.specs.Session.{marks_of, as_marks}

-- ---- requests

-- how far a transfer is
abbrev pub stage_seen : TargetState → Stage
stage_seen target.Waiting = Todo
stage_seen target.Flying = Flying
stage_seen target.Done = Well
stage_seen target.Failed = Badly

-- how far the target at a partition is
abbrev pub stage_at : List Target → Pp → Option Stage
stage_at [] c = None
stage_at (t ∷ ts) c = if is_pp c t.pp then Some (stage_seen t.state) else stage_at ts c

-- How far a request is. One whose data may go out waits for its first transfer until that has started.
abbrev pub phase_seen : Phase → Bool → ModelPhase
phase_seen phase.Held begun = Held
phase_seen phase.WantEntry begun = WantEntry
phase_seen phase.WantRecord begun = Ready
phase_seen phase.Data begun = if begun then Going else Ready
phase_seen phase.WantStatus begun = Going
phase_seen phase.Landed begun = Landed

-- A request of the table, as it stands in the queue.
pub record SeesRequest (o : Open) (q : Queued) : Type 0 where
  pub lv : q.lv ≡ lv_of o.request.ask
  pub first : q.first ≡ at_of o.request.ask
  pub count : q.count ≡ count_of o.request.ask
  pub write : q.write ≡ is_write o.request.ask
  pub step : q.step ≡ false
  pub phase : q.phase ≡ phase_seen o.request.phase (is_begun o.request.targets.items)
  pub several : q.several ≡ nat_le 2 (length o.request.targets.items)
  pub targets : (c : Pp) → q.targets c ≡ stage_at o.request.targets.items c
  pub got : (buf : Buffer) → o.got ≡ Some buf → (value : ℕ → Sector) × (q.got ≡ Some value) × ((b : ℕ) → value b ≡ slice_index_or buf.sectors (b - q.first) [])

-- ---- the copy that is being brought up

-- the track groups of its logical partition, each of which has so many, below its cursor
abbrev pub passed_by : ℕ → OpenCopy → Groups
passed_by groups c lv g = (lv == c.lv) && nat_le (groups * c.lp) g && nat_lt g (groups * c.lp + c.cursor)

-- it is open, and has passed these
pub record SeesOpen (groups : ℕ) (c : OpenCopy) (open_copy : Option ModelCopy) : Type 0 where
  pub copy : ModelCopy
  pub is_open : open_copy ≡ Some copy
  pub target : copy.target ≡ c.pp
  pub passed : (lv g : ℕ) → copy.passed lv g ≡ passed_by groups c lv g

-- while it is being brought up; nothing is open once it has ended
abbrev pub SeesRunning : Bool → ℕ → OpenCopy → Option ModelCopy → Type 0
SeesRunning true groups c open_copy = SeesOpen groups c open_copy
SeesRunning false groups c open_copy = open_copy ≡ None

-- so is the copy that is open, if one is
abbrev pub SeesCopy : ℕ → Option OpenCopy → Option ModelCopy → Type 0
SeesCopy groups None open_copy = open_copy ≡ None
SeesCopy groups (Some c) open_copy = SeesRunning (is_running c) groups c open_copy

-- a write of its step is out, to its partition, also where it has ended meanwhile
abbrev pub step_write_of : OpenCopy → Step → Option StepWrite
step_write_of c step.Idle = None
step_write_of c (step.Reading source) = None
step_write_of c (step.Read buf) = None
step_write_of c step.Writing = Some (record { target = c.pp; place = c.place })

-- so is one of the copy that is open
abbrev pub step_write_in : Option OpenCopy → Option StepWrite
step_write_in None = None
step_write_in (Some c) = step_write_of c c.step

-- what its step has out or in hand
abbrev pub SeesHand : Step → Queued → Type 0
SeesHand step.Idle q = (has_landed q.phase ≡ false) × (q.got ≡ None)
SeesHand (step.Reading source) q = (q.phase ≡ Going) × (q.targets source ≡ Some Flying)
SeesHand (step.Read buf) q = (q.phase ≡ Going) × (value : ℕ → Sector) × (q.got ≡ Some value) × ((b : ℕ) → value b ≡ slice_index_or buf.sectors (b - q.first) [])
SeesHand step.Writing q = (q.phase ≡ Going) × (value : ℕ → Sector) × (q.got ≡ Some value)

-- Its step stands in the queue as a read of the whole track group at this block, whose failed sources are those that were tried in vain.
pub record SeesReading (at : ℕ) (c : OpenCopy) (q : Queued) : Type 0 where
  pub lv : q.lv ≡ c.lv
  pub first : q.first ≡ at
  pub count : q.count ≡ 256
  pub write : q.write ≡ false
  pub step : q.step ≡ true
  pub hand : SeesHand c.step q
  pub failed : (p : Pp) → q.targets p ≡ Some Badly → has c.tried p.disk ≡ true

-- its step stands there as the read at its cursor
abbrev pub SeesStep : Core → OpenCopy → Queued → Type 0
SeesStep core c q = SeesReading (block_at core c) c q

-- ---- notes

-- a note in flight names the track groups that its entries name
abbrev pub SeesNote : Option Groups → Option (ArrayVec NoteEntry) → Type 0
SeesNote None None = Unit {0}
SeesNote (Some note) (Some items) = (lv g : ℕ) → note lv g ≡ names_group items.items lv g
SeesNote None (Some items) = ⊥
SeesNote (Some note) None = ⊥

-- ---- the queue

-- one of these requests has this place of the queue
pub record IsPlaceOfRequest (requests : List Open) (i : ℕ) : Type 0 where
  pub place : ℕ
  pub request : Open
  pub there : slice_get requests place ≡ Some request
  pub its : place_of request.request.id ≡ i

-- the step of the copy that is open has it, where this says of a copy whether its step has a place
pub record IsPlaceOfStep (open_copy : Option OpenCopy) (has_place : OpenCopy → Bool) (i : ℕ) : Type 0 where
  pub copy : OpenCopy
  pub is_open : open_copy ≡ Some copy
  pub row : has_place copy ≡ true
  pub its : copy.place ≡ i

-- a request of the table has it
abbrev pub IsRequestAt : Core → ℕ → Type 0
IsRequestAt core i = IsPlaceOfRequest core.requests i

-- the step of the copy has it
abbrev pub IsStepAt : Core → ℕ → Type 0
IsStepAt core i = IsPlaceOfStep core.copy (λ (c : OpenCopy). has_row core c) i

-- Its places are those of the requests of this table and of the step of the copy, each under the name that the history gives it.
pub record SeesQueue (table : List Open) (open_copy : Option OpenCopy) (has_place : OpenCopy → Bool) (block : OpenCopy → ℕ) (history : List Fact) (places : ℕ → Option Queued) (name : ℕ → Request) : Type 0 where
  pub requests : (place : ℕ) (o : Open) → slice_get table place ≡ Some o → (q : Queued) × (places (place_of o.request.id) ≡ Some q) × SeesRequest o q
  pub a_step : (c : OpenCopy) → open_copy ≡ Some c → has_place c ≡ true → (q : Queued) × (places c.place ≡ Some q) × SeesReading (block c) c q
  pub only : (i : ℕ) (q : Queued) → places i ≡ Some q → IsPlaceOfRequest table i ⊎ IsPlaceOfStep open_copy has_place i
  pub names : (place : ℕ) (o : Open) → slice_get table place ≡ Some o → name (place_of o.request.id) ≡ request_of history o.request.id

-- ---- the statuses

-- the update in flight, under its stamp
abbrev pub update_of : Stored → Option (Stamped Status)
update_of status = option_map (λ (t : Status). record { stamp = status.stamp; value = t }) status.in_flight

-- Its marks are those of the three statuses, by which the partition beside counts as stale; its writes of the update those that were started, and each disk that
-- isn't a member which is there is missing.
pub record SeesStatus (beside : Option Beside) (status : Stored) (there : Disks) (last : Stamped Marks) (update : Option (Stamped Marks)) (wants : Marks) (flying : Disks) (shown : ℕ → Option (Stamped Marks)) (gone : Disks) : Type 0 where
  pub committed : last.value ≡ marks_of beside status.committed
  pub in_flight : update ≡ option_map (as_marks beside) (update_of status)
  pub wanted : wants ≡ marks_of beside status.wanted
  pub started : (d : ℕ) → flying d ≡ has status.writes.started d
  -- a disk to which a write of the update has gone well shows it
  pub written : (d : ℕ) → has status.writes.written d ≡ true → shown d ≡ update
  -- an update that is committed and still being written is what is committed, with its stamp
  pub held : (u : Stamped Status) → update_of status ≡ Some u → is_held (seen status) ≡ true → last ≡ as_marks beside u
  pub missing : (d : ℕ) → gone d ≡ not (there d)

-- Its cache and its notes at home, on the disks that are there, and in flight are those of the session's.
pub record SeesNotes (kept : Cached) (there : Disks) (groups : Groups) (at_home : ℕ → Groups) (notes : ℕ → Option Groups) : Type 0 where
  pub cache : (lv g : ℕ) → groups lv g ≡ has_entry kept.entries lv g
  pub home : (d lv g : ℕ) (n : DiskNotes) → IsTrue (there d) → notes_on kept d ≡ Some n → at_home d lv g ≡ names_group n.written.items lv g
  pub flying : (d : ℕ) → SeesNote (notes d) (flight_on kept d)

-- ---- a copy that moves

-- the blocks of the logical partition of the copy
abbrev pub its_blocks : Core → OpenCopy → ℕ → ℕ → Bool
its_blocks core c lv b = lv == c.lv && partition_of core.descriptor.mib b == c.lp

-- its destination stands for them beside the group's copies, where it moves
abbrev pub beside_if : Bool → Core → OpenCopy → Option Beside
beside_if moves core c = if moves then Some (record { place = c.pp; its = its_blocks core c }) else None

-- the partition beside the group's copies is the destination of the move that is open, also once it has ended
abbrev pub beside_of : Core → Option Beside
beside_of core = option_map_or (λ (c : OpenCopy). beside_if c.moves core c) core.copy None

-- ---- all of it

-- After this earlier history, which its own follows, the session is this state, but for what the disks show.
pub record Sees (past : List Fact) (core : Core) (v : ModelState) : Type 0 where
  pub queue : SeesQueue core.requests core.copy (λ (c : OpenCopy). has_row core c) (λ (c : OpenCopy). block_at core c) core.history.facts v.queue v.name
  pub facts : v.facts ≡ past ++ core.history.facts
  pub status : SeesStatus v.beside core.status (is_there core) v.committed v.in_flight v.wanted v.status_flying v.media.status v.missing
  pub notes : SeesNotes core.cache (is_there core) v.cache v.home_note v.flying_note
  pub open_copy : SeesCopy (groups_of core) core.copy v.open_copy
  pub step_write : v.step_write ≡ step_write_in core.copy
  pub beside : v.beside ≡ beside_of core
