-- The ends of transfers: the owner of each learns how it ended.
use Rattle.std.specs.Prelude.{◌≡◌, ℕ, ◌+◌, ◌++◌, Bool, true, false, ◌&&◌, ◌||◌, ◌==◌, not, if◌then◌else◌, [], ◌∷◌, Option, Some, None, slice_get, slice_set}
use Rattle.std.specs.List.{remove}
use Rattle.lvm_num.specs.Buffer.{Buffer}
use Rattle.lvm_num.specs.declared.place.Pp.{Pp}
use Rattle.lvm_num.specs.declared.record.Kind.TheVariants as kind
use Rattle.lvm_num.specs.Disks.{has}
use Rattle.lvm_kept.specs.passed.Disk.{Device, EndsDone, EndsFailed}
use Rattle.lvm_kept.specs.passed.Rec.{Homes, Flips}
use Rattle.lvm_hold.specs.Waiting.{without}
use Rattle.lvm_mwc.specs.Cache.{after_end as after_note_end}
use Rattle.lvm_status.specs.declared.change.Change.TheVariants as change
use Rattle.lvm_status.specs.Update.{Stored, seen}
use Rattle.lvm_status.specs.Calls.{BecomesMissing, WantsAtEnd, with_wanted, after_end}
use Rattle.lvm_path.specs.declared.target.Target.{Target}
use Rattle.lvm_path.specs.Asks.{is_write}
use Rattle.lvm_path.specs.Next.{with_end as with_target_end}
use Rattle.lvm_session.specs.declared.open.Open.{Open}
use Rattle.lvm_session.specs.declared.flown.Flown.{Flown}
use Rattle.lvm_session.specs.declared.flown.Owner.{Owner}
use Rattle.lvm_session.specs.declared.flown.Owner.TheVariants as owner
use Rattle.lvm_session.specs.declared.bringing.OpenCopy.{OpenCopy}
use Rattle.lvm_session.specs.declared.bringing.Step.{Step}
use Rattle.lvm_session.specs.declared.bringing.Step.TheVariants as step
use Rattle.lvm_session.specs.declared.bringing.CopyEnd.TheVariants as ending
use Rattle.lvm_session.specs.State.{Core, State}
use Rattle.lvm_session.specs.Judging.{is_running}
use Rattle.lvm_session.specs.Bringing.{with_back, with_end, marked_by_end, is_whole, step_place, step_row}
use Rattle.lvm_session.specs.Marks.{WantsStale, WantsFresh, Reviews, Entails}

-- ---- a transfer ends

-- it ends, well or badly, and gives its buffer back
abbrev pub EndsAs : Bool → Device → Device → ℕ → Buffer → Type 0
EndsAs true old new ticket buf = EndsDone old new ticket buf
EndsAs false old new ticket buf = EndsFailed old new ticket buf

-- The transfer of this row of the list of those that are out ends.
pub record Returns (old new : State) (at : ℕ) (row : Flown) (ok : Bool) (buf : Buffer) : Type 0 where
  pub there : slice_get old.core.flying at ≡ Some row
  pub ends : EndsAs ok old.device new.device row.ticket buf

-- the transfer of this row isn't out any more
abbrev pub without_flight : Core → ℕ → Core
without_flight core at = record core { flying = remove core.flying at }

-- and its buffer is in the pool again
abbrev pub with_return : Core → ℕ → Buffer → Core
with_return core at buf = record core { flying = remove core.flying at; pool = slice_set core.pool buf.number false }

-- ---- of a request

-- a read that ended well keeps its buffer until it lands
abbrev pub keeps_buffer : Open → Bool → Bool
keeps_buffer o ok = ok && not (is_write o.request.ask)

-- the target's transfer has ended
abbrev pub learned : Open → ℕ → Bool → Buffer → Open
learned o target ok buf = record o { request = with_target_end o.request target ok; got = if keeps_buffer o ok then Some buf else o.got }

-- what comes back of the buffer
abbrev pub given_back : Open → Bool → Buffer → Option Buffer
given_back o ok buf = if keeps_buffer o ok then None else Some buf

-- a target of the request at a place
pub record IsOfData (core : Core) (place target : ℕ) : Type 0 where
  pub request : Open
  pub there : slice_get core.requests place ≡ Some request
  pub aim : Target
  pub aim_is : slice_get request.request.targets.items target ≡ Some aim

-- the request at a place has learned so
abbrev pub after_data : Core → ℕ → ℕ → Open → ℕ → Bool → Buffer → Core
after_data core at place o target ok buf = record core { flying = remove core.flying at; pool = with_back core.pool (given_back o ok buf); requests = slice_set core.requests place (learned o target ok buf) }

-- The target of a request learns how its transfer ended, and what that entails is wanted.
pub record DataLearns (old : Core) (at id target : ℕ) (ok : Bool) (buf : Buffer) (new : Core) : Type 0 where
  pub place : ℕ
  pub its : IsOfData old place target
  pub own : its.request.request.id ≡ id
  pub entails : Entails (after_data old at place its.request target ok buf) (learned its.request target ok buf) ok its.aim.pp new

-- ---- of the update

-- the next status goes to the other slot, where this one was written
abbrev pub FlipsIf : Bool → ℕ → Homes → Homes → Type 0
FlipsIf true disk old new = Flips kind.Status (λ d. d == disk) old new
FlipsIf false disk old new = new ≡ old

-- The update learns it: it may be committed, or the disk be missing.
pub record StatusLearns (old : Core) (at disk : ℕ) (ok : Bool) (buf : Buffer) (new : Core) : Type 0 where
  -- the status with this end, and the slots
  pub status : Stored
  pub wants : WantsAtEnd disk ok old.status.wanted status.wanted
  pub ended : seen status ≡ after_end (seen old.status) disk ok status.wanted
  pub homes : Homes
  pub flips : FlipsIf ok disk old.homes homes
  pub reviews : Reviews (record (with_return old at buf) { status = status; homes = homes }) new

-- ---- of a note

-- a disk whose note failed is missing
pub record LosesDisk (disk : ℕ) (old new : Stored) : Type 0 where
  pub wants : BecomesMissing disk old.wanted new.wanted
  pub rest : seen new ≡ with_wanted (seen old) (change.Missing disk) new.wanted

-- what is left where the note ended well, or badly
abbrev pub NoteLeaves : Bool → ℕ → Core → Core → Type 0
NoteLeaves true disk old new = new ≡ old
NoteLeaves false disk old new = (status : Stored) × LosesDisk disk old.status status × Reviews (record old { status = status }) new

-- The disk's notes learn it.
abbrev pub NoteLearns : Core → ℕ → ℕ → Bool → Buffer → Core → Type 0
NoteLearns old at disk ok buf new = NoteLeaves ok disk (record (with_return old at buf) { cache = after_note_end old.cache disk ok }) new

-- ---- of the copy that is being brought up

-- the copy that is open is this one
abbrev pub with_copy : Core → OpenCopy → Core
with_copy core c = record core { copy = Some c }

-- its step leaves the queue
abbrev pub without_step : Core → OpenCopy → Core
without_step core c = record core { queue = record core.queue { rows = without c.place core.queue.rows } }

-- It had ended before: nothing comes of the transfer.
abbrev pub after_quit : Core → ℕ → OpenCopy → Buffer → Core
after_quit core at c buf = with_copy (without_step (with_return core at buf) c) (record c { step = step.Idle })

-- it has the blocks in hand
abbrev pub after_read : Core → ℕ → OpenCopy → Buffer → Core
after_read core at c buf = with_copy (without_flight core at) (record c { step = step.Read buf })

-- the source is tried in vain
pub record MissesSource (core : Core) (at : ℕ) (c : OpenCopy) (source : Pp) (buf : Buffer) (new : Core) : Type 0 where
  pub tried : ℕ
  pub tries : (d : ℕ) → has tried d ≡ (has c.tried d || d == source.disk)
  pub reviews : Reviews (with_copy (with_return core at buf) (record c { step = step.Idle; tried = tried })) new

-- a write on it failed
pub record FailsCopy (core : Core) (at : ℕ) (c : OpenCopy) (buf : Buffer) (new : Core) : Type 0 where
  pub marks : WantsStale (marked_by_end core (Some ending.SyncFailed)) core.status new.status
  pub is : new ≡ record (with_end (with_copy (with_return core at buf) (record c { step = step.Idle })) (Some ending.SyncFailed)) { status = new.status }

-- the copy at its next track group, with nothing tried
pub record MovesOn (core : Core) (old new : OpenCopy) : Type 0 where
  pub tried : (d : ℕ) → has new.tried d ≡ false
  pub is : new ≡ record old { cursor = old.cursor + 1; step = step.Idle; tried = new.tried; place = step_place core }

-- its next step enters the queue
abbrev pub with_step : Core → OpenCopy → Core
with_step core c = record (with_copy core c) { queue = record core.queue { rows = core.queue.rows ++ step_row core c ∷ [] } }

-- all is copied, and it is to be cleared; or its next step enters the queue
abbrev pub CopyStepsOn : Bool → Core → OpenCopy → Core → Type 0
CopyStepsOn false core c next = next ≡ with_step core c
CopyStepsOn true core c next = WantsFresh c.pp core.status next.status × (next ≡ record (with_copy core c) { status = next.status })

-- the track group is copied: the next one follows, or the clearing
pub record PassesGroup (core : Core) (at : ℕ) (c : OpenCopy) (buf : Buffer) (new : Core) : Type 0 where
  pub next : OpenCopy
  pub moves : MovesOn core c next
  pub on : Core
  pub goes : CopyStepsOn (is_whole core next) (without_step (with_return core at buf) c) next on
  pub reviews : Reviews on new

-- what comes of a transfer, by what it was for and how it ended
abbrev pub StepLeaves : Step → Bool → Core → ℕ → OpenCopy → Buffer → Core → Type 0
StepLeaves step.Idle ok core at c buf new = ⊥
StepLeaves (step.Read hand) ok core at c buf new = ⊥
StepLeaves (step.Reading source) true core at c buf new = new ≡ after_read core at c buf
StepLeaves (step.Reading source) false core at c buf new = MissesSource core at c source buf new
StepLeaves step.Writing true core at c buf new = PassesGroup core at c buf new
StepLeaves step.Writing false core at c buf new = FailsCopy core at c buf new

-- nothing comes of it where the copy had ended before
abbrev pub StepLearns : Bool → Core → ℕ → OpenCopy → Bool → Buffer → Core → Type 0
StepLearns true core at c ok buf new = StepLeaves c.step ok core at c buf new
StepLearns false core at c ok buf new = new ≡ after_quit core at c buf

-- The copy that is open learns it.
pub record CopyLearns (old : Core) (at : ℕ) (ok : Bool) (buf : Buffer) (new : Core) : Type 0 where
  pub copy : OpenCopy
  pub is_open : old.copy ≡ Some copy
  pub learns : StepLearns (is_running copy) old at copy ok buf new

-- ---- an end

-- the owner of a transfer learns how it ended
abbrev pub Learns : Owner → Core → ℕ → Bool → Buffer → Core → Type 0
Learns (owner.Data id target) old at ok buf new = DataLearns old at id target ok buf new
Learns (owner.Status disk) old at ok buf new = StatusLearns old at disk ok buf new
Learns (owner.Note disk) old at ok buf new = NoteLearns old at disk ok buf new
Learns owner.Copy old at ok buf new = CopyLearns old at ok buf new

-- A transfer ends, and its owner learns how.
pub record Ends (old new : State) (at : ℕ) : Type 0 where
  pub row : Flown
  pub ok : Bool
  pub buf : Buffer
  pub returns : Returns old new at row ok buf
  pub learns : Learns row.owner old.core at ok buf new.core
