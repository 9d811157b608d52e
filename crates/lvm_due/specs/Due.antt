-- At which places of the table events are due.
use Rattle.std.specs.Prelude.{◌≡◌, ◌≤◌, ◌<◌, ℕ, Bool, true, false, ◌&&◌, ◌==◌, List, None, Some, position, slice_get, slice_set}
use Rattle.std.specs.List.{list_any}
use Rattle.lvm_hold.specs.Conflicts.{have_common_block}
use Rattle.lvm_path.specs.declared.ask.Ask.{Ask}
use Rattle.lvm_path.specs.declared.request.Request.{Request}
use Rattle.lvm_session.specs.declared.bringing.OpenCopy.{OpenCopy}
use Rattle.lvm_session.specs.declared.open.Open.{Open}
use Rattle.lvm_session.specs.declared.flown.Owner.{Owner}
use Rattle.lvm_session.specs.declared.flown.Owner.TheVariants as owner
use Rattle.lvm_session.specs.State.{Core}
use Rattle.lvm_session.specs.Judging.{counts_failed, held_of, is_failing, is_held_back, is_past_held, is_waiting}
use Rattle.lvm_session.specs.Left.{is_held}
use Rattle.lvm_session.specs.Requests.{wants_entry}
use Rattle.lvm_session.specs.Enabled.{admission_at, can_pin, data_at, landing_at, note_at, pinning_at}
use Rattle.lvm_due.specs.declared.span.Span.{Span}
use Rattle.lvm_due.specs.Spans.{is_in, Adds, Spans}
use Rattle.lvm_due.specs.Might.{might_pin}
use Rattle.lvm_due.specs.declared.due.Due.{Due}
use Rattle.lvm_due.specs.Making.{might_make_admission, might_make_data, might_make_landing, might_make_note}

-- no write is failing, where this is so
abbrev pub NoneFails : Core → Bool → Type 0
NoneFails core unfailing = unfailing ≡ true → list_any (is_failing core) core.requests ≡ false

-- For each kind of event that a request makes none is due at another place; and no write is failing, where that is known.
pub record IsDue (core : Core) (due : Due) : Type 0 where
  pub landing : Spans (landing_at core) core.requests due.landing
  pub admission : Spans (admission_at core) core.requests due.admission
  pub pinning : Spans (pinning_at core) core.requests due.pinning
  pub note : Spans (note_at core) core.requests due.note
  pub «data» : Spans (data_at core) core.requests due.data
  pub unfailing : NoneFails core due.unfailing

-- ---- while nothing but requests is under way

-- no copy is open, and nothing is wanted of the status that isn't committed
pub record WantsNothing (core : Core) : Type 0 where
  pub copy : core.copy ≡ None
  pub flight : core.status.in_flight ≡ None
  pub same : core.status.wanted ≡ core.status.committed

-- a target of the request counts as failed
abbrev pub any_fails : Core → Open → Bool
any_fails core o = list_any (counts_failed core) o.request.targets.items

-- So it is, and no target of the request at a place counts as failed.
pub record NoneFailsAt (core : Core) (place : ℕ) : Type 0 where
  pub calm : WantsNothing core
  pub kept : (o : Open) → slice_get core.requests place ≡ Some o → any_fails core o ≡ false

-- So it is at the place of the request whose transfer this is.
abbrev pub NoneFailsFor : Core → Owner → Type 0
NoneFailsFor core (owner.Data id target) = (place : ℕ) → position (λ (o : Open). o.request.id == id) core.requests ≡ Some place → NoneFailsAt core place
NoneFailsFor core (owner.Status disk) = Unit {0}
NoneFailsFor core (owner.Note disk) = Unit {0}
NoneFailsFor core owner.Copy = Unit {0}

-- the request at a place holds a pin, or holds none
abbrev pub HoldsPin : Core → ℕ → Bool → Type 0
HoldsPin core place pinned = (o : Open) → slice_get core.requests place ≡ Some o → o.request.pinned ≡ pinned

-- ---- what is added

-- two requests have a block in common
abbrev pub overlap : Ask → Ask → Bool
overlap a b = have_common_block (held_of a) (held_of b)

-- no request
abbrev pub none : Open → Bool
none o = false

-- it waits for an entry of the cache
abbrev pub waits_entry : Open → Bool
waits_entry o = wants_entry o.request.phase

-- so it does, where the request that has changed held a pin
abbrev pub waits_entry_if : Bool → Open → Bool
waits_entry_if pinned o = pinned && waits_entry o

-- it isn't admitted, and some block is one of these
abbrev pub is_freed : Ask → Open → Bool
is_freed ask o = is_held o.request.phase && overlap ask o.request.ask

-- a place is added, where this is so
abbrev pub AddsIf : Bool → ℕ → Span → Span → Type 0
AddsIf false place old new = new ≡ old
AddsIf true place old new = Adds place old new

-- It has the places of the requests that pass a test, of those below n.
pub record Covers (which : Open → Bool) (requests : List Open) (n : ℕ) (s : Span) : Type 0 where
  pub within : s.to ≤ n
  pub has : (k : ℕ) (o : Open) → k < n → slice_get requests k ≡ Some o → which o ≡ true → is_in s k ≡ true

-- the places of another span are added
pub record Joins (other old new : Span) : Type 0 where
  pub wider : (k : ℕ) → is_in old k ≡ true → is_in new k ≡ true
  pub has : (k : ℕ) → is_in other k ≡ true → is_in new k ≡ true
  pub within : (n : ℕ) → old.to ≤ n → other.to ≤ n → new.to ≤ n

-- a place is added for each kind of event that the request at it might make
pub record AddsMaking (r : Request) (place : ℕ) (old new : Due) : Type 0 where
  pub landing : AddsIf (might_make_landing r) place old.landing new.landing
  pub admission : AddsIf (might_make_admission r) place old.admission new.admission
  pub pinning : AddsIf (might_pin r) place old.pinning new.pinning
  pub note : AddsIf (might_make_note r) place old.note new.note
  pub «data» : AddsIf (might_make_data r) place old.data new.data
  pub unfailing : new.unfailing ≡ old.unfailing

-- ---- what has changed

-- The group, the status and the copy are as they were, as far as requests read them.
pub record ReadsSame (old new : Core) : Type 0 where
  pub descriptor : new.descriptor ≡ old.descriptor
  pub committed : new.status.committed ≡ old.status.committed
  pub wanted : new.status.wanted ≡ old.status.wanted
  pub in_flight : new.status.in_flight ≡ old.status.in_flight
  pub copy : new.copy ≡ old.copy

-- Of what requests read only the one at a place has changed, which has its number and its blocks, fails as it did, and goes on as it did while a copy is open; who
-- waits of those that are freed; and what can be pinned of those that may pin.
pub record ChangesOne (freed pinning : Open → Bool) (old new : Core) (place : ℕ) : Type 0 where
  pub reads : ReadsSame old new
  pub notes : new.cache.notes ≡ old.cache.notes
  pub was : Open
  pub there : slice_get old.requests place ≡ Some was
  pub is : Open
  pub requests : new.requests ≡ slice_set old.requests place is
  pub id : is.request.id ≡ was.request.id
  pub ask : is.request.ask ≡ was.request.ask
  pub fails : is_failing new is ≡ is_failing old was
  pub goes : (c : OpenCopy) → old.copy ≡ Some c → is_waiting is && is_past_held is.request.phase ≡ is_waiting was && is_past_held was.request.phase
  pub waits : (k : ℕ) (o : Open) → slice_get old.requests k ≡ Some o → is_held o.request.phase ≡ true → freed o ≡ false → is_held_back new o.request ≡ is_held_back old o.request
  pub pins : (o : Open) → waits_entry o ≡ true → pinning o ≡ false → can_pin new.cache o.request.ask ≡ can_pin old.cache o.request.ask
