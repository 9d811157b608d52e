-- What a session's calls make of its status, call after call, and what stays true.
use Rattle.std.specs.Prelude.{◌≡◌, ◌⊎◌, ℕ, Bool, true, false, ◌||◌, List, [], ◌∷◌, Some, None}
use Rattle.std.specs.List.{list_any}
use Rattle.lvm_status.specs.passed.Num.{Pp, IsLowest, Stamp, Descriptor, Status, is_member, is_pp, stamp_lt, calls_stale, calls_missing, CanWrite}
use Rattle.lvm_status.specs.declared.change.Change.{Change}
use Rattle.lvm_status.specs.declared.change.Change.TheVariants as change
use Rattle.lvm_status.specs.Update.{Updates, with_disk, is_there, is_held, is_owed, is_settled_stale, MayStartUpdate}
use Rattle.lvm_status.specs.Calls.{first_updates, Changes, WantsAtEnd, with_wanted, with_update, with_start, after_end}

-- ---- runs

-- a call that changes something, with what it was given or what it answered
pub data Call : Type 0 where
  Want : (change : Change) → Call
  Start : Call
  NextWrite : (disk : ℕ) → Call
  Ended : (disk : ℕ) (ok : Bool) → Call
  SetStamp : (stamp : Stamp) → Call

-- what one call makes of the status
abbrev pub Step : Call → Updates → Updates → Type 0
Step (Want change) old new = Changes change old.wanted new.wanted × (new ≡ with_wanted old change new.wanted)
Step Start old new = MayStartUpdate old × (new ≡ with_update old)
Step (NextWrite disk) old new = IsLowest old.unstarted (Some disk) × (new ≡ with_start old (Some disk))
Step (Ended disk ok) old new = (old.started disk ≡ true) × WantsAtEnd disk ok old.wanted new.wanted × (new ≡ after_end old disk ok new.wanted)
Step (SetStamp stamp) old new = (old.in_flight ≡ None) × (new ≡ record old { stamp = stamp })

-- what calls one after the other make of it
abbrev pub CallsMake : List Call → Updates → Updates → Type 0
CallsMake [] old new = new ≡ old
CallsMake (call ∷ calls) old new = (next : Updates) × Step call old next × CallsMake calls next new

-- ---- what is true at each moment

-- At each moment of a session the writes of the update are told apart, and it is in flight until it is committed and
-- each of its writes has ended.
pub record IsSoundStatus (u : Updates) : Type 0 where
  -- a write that isn't started is one to a member that isn't missing, and isn't anything else
  pub unstarted : (disk : ℕ) → u.unstarted disk ≡ true → (is_there u disk ≡ true) × (u.started disk ≡ false) × (u.written disk ≡ false) × (u.failed disk ≡ false)
  pub started : (disk : ℕ) → u.started disk ≡ true → is_member u.group disk ≡ true
  -- a disk whose write has failed is missing
  pub failed : (disk : ℕ) → u.failed disk ≡ true → calls_missing u.wanted disk ≡ true
  -- the update goes to each member that isn't missing
  pub each : (t : Status) → u.in_flight ≡ Some t → (disk : ℕ) → is_there u disk ≡ true → u.unstarted disk || (u.started disk || u.written disk) ≡ true
  -- without an update there are no writes
  pub idle : u.in_flight ≡ None → (disk : ℕ) → (u.unstarted disk ≡ false) × (u.started disk ≡ false) × (u.written disk ≡ false) × (u.failed disk ≡ false)
  -- an update that disks with votes enough to write have is committed
  pub held : is_held u ≡ true → u.in_flight ≡ Some u.committed
  -- some write of an update in flight is owed, or it isn't committed
  pub open_still : (t : Status) → u.in_flight ≡ Some t → (is_owed u ≡ true) ⊎ (is_held u ≡ false)
  -- what the committed status or the one in flight calls missing is missing
  pub committed_missing : (disk : ℕ) → calls_missing u.committed disk ≡ true → calls_missing u.wanted disk ≡ true
  pub in_flight_missing : (t : Status) → u.in_flight ≡ Some t → (disk : ℕ) → calls_missing t disk ≡ true → calls_missing u.wanted disk ≡ true

-- ---- laws

-- A session begins soundly, and each call keeps it so.
abbrev pub FirstIsSound : Type 0
FirstIsSound = (table : Status) (d : Descriptor) → IsSoundStatus (first_updates table d)

abbrev pub StepsStaySound : Type 0
StepsStaySound = (call : Call) (old new : Updates) → IsSoundStatus old → Step call old new → IsSoundStatus new

abbrev pub RunsStaySound : Type 0
RunsStaySound = (calls : List Call) (old new : Updates) → IsSoundStatus old → CallsMake calls old new → IsSoundStatus new

-- A table in flight stays so until it is committed; no other takes its place.
abbrev pub InFlightStays : Type 0
InFlightStays = (call : Call) (old new : Updates) (t : Status) → IsSoundStatus old → Step call old new → old.in_flight ≡ Some t
    → (new.in_flight ≡ Some t) ⊎ ((new.in_flight ≡ None) × (new.committed ≡ t))

-- a write of the table in flight has ended well, and with it disks with votes enough to write have it
pub record ComesCommitted (call : Call) (old new : Updates) : Type 0 where
  pub disk : ℕ
  pub ends : call ≡ Ended disk true
  pub flies : old.in_flight ≡ Some new.committed
  pub enough : CanWrite old.group (with_disk old.written disk)

-- Only so does what is committed change.
abbrev pub CommitsAreHeld : Type 0
CommitsAreHeld = (call : Call) (old new : Updates) → IsSoundStatus old → Step call old new → (new.committed ≡ old.committed) ⊎ ComesCommitted call old new

-- A disk has the update in flight only where a write of it to that disk has ended well.
abbrev pub WrittenHasEnded : Type 0
WrittenHasEnded = (call : Call) (old new : Updates) → Step call old new → (disk : ℕ) → new.written disk ≡ true → (old.written disk ≡ true) ⊎ (call ≡ Ended disk true)

-- a stamp that is set isn't before the last one
abbrev pub SetsForward : Call → Updates → Type 0
SetsForward (SetStamp stamp) u = stamp_lt stamp u.stamp ≡ false
SetsForward _ u = Unit {0}

abbrev pub RunsForward : List Call → Updates → Updates → Type 0
RunsForward [] old new = new ≡ old
RunsForward (call ∷ calls) old new = (next : Updates) × Step call old next × SetsForward call old × RunsForward calls next new

-- The stamp of an update is after that of each earlier one, where no stamp is set back.
abbrev pub StampsRise : Type 0
StampsRise = (calls : List Call) (a b c d : Updates) → Step Start a b → RunsForward calls b c → Step Start c d → stamp_lt b.stamp d.stamp ≡ true

-- the call makes the partition wanted fresh
abbrev pub wants_fresh : Pp → Call → Bool
wants_fresh p (Want (change.Stale pp)) = false
wants_fresh p (Want (change.Fresh pp)) = is_pp p pp
wants_fresh p (Want (change.Missing disk)) = false
wants_fresh p (Want (change.Dirty lv)) = false
wants_fresh p (Want (change.Clean lv)) = false
wants_fresh p Start = false
wants_fresh p (NextWrite disk) = false
wants_fresh p (Ended disk ok) = false
wants_fresh p (SetStamp stamp) = false

-- the partition is stale, settled and by what is wanted
pub record StaysStale (u : Updates) (p : Pp) : Type 0 where
  pub settled : is_settled_stale u p ≡ true
  pub wanted : calls_stale u.wanted p ≡ true

-- What is settled stale, and wanted so, stays so until it is wanted fresh.
abbrev pub SettledStays : Type 0
SettledStays = (calls : List Call) (old new : Updates) (p : Pp) → CallsMake calls old new → list_any (wants_fresh p) calls ≡ false → StaysStale old p → StaysStale new p

-- A disk that is missing stays so, and is never written again.
abbrev pub MissingStays : Type 0
MissingStays = (calls : List Call) (old new : Updates) (disk : ℕ) → CallsMake calls old new → calls_missing old.wanted disk ≡ true → calls_missing new.wanted disk ≡ true

abbrev pub MissingIsNotWritten : Type 0
MissingIsNotWritten = (calls : List Call) (old new : Updates) (disk : ℕ) → IsSoundStatus old → CallsMake calls old new → calls_missing old.wanted disk ≡ true → new.unstarted disk ≡ false
