-- A request of the table while its session is on.
use Rattle.std.specs.Prelude.{IfSome, ◌≡◌, ◌≢◌, ◌⊎◌, ◌≤◌, ◌<◌, ◌^◌, ◌&&◌, ◌||◌, not, Bool, true, false, [], None, is_some, length, count_by, nat_le, AllPairs, if◌then◌else◌}
use Rattle.std.specs.List.{list_any, AllByRecursion}
use Rattle.lvm_num.specs.Buffer.{Buffer}
use Rattle.lvm_num.specs.declared.place.Pp.{Pp}
use Rattle.lvm_num.specs.declared.descriptor.Mode.{Mode}
use Rattle.lvm_num.specs.declared.descriptor.Mode.TheVariants as mode
use Rattle.lvm_num.specs.Geometry.{sector_of}
use Rattle.lvm_num.specs.Status.{calls_missing, calls_dirty}
use Rattle.lvm_hold.specs.Conflicts.{IsInGroup}
use Rattle.lvm_path.specs.passed.Sched.{is_flying}
use Rattle.lvm_path.specs.declared.ask.Ask.{Ask}
use Rattle.lvm_path.specs.declared.request.Phase.{Phase}
use Rattle.lvm_path.specs.declared.request.Phase.TheVariants as phase
use Rattle.lvm_path.specs.declared.request.Request.{Request}
use Rattle.lvm_path.specs.declared.target.Target.{Target}
use Rattle.lvm_path.specs.Asks.{lv_of, at_of, is_write}
use Rattle.lvm_path.specs.Targets.{is_done, is_failed, is_begun, are_over}
use Rattle.lvm_session.specs.declared.open.Open.{Open}
use Rattle.lvm_session.specs.State.{Core}
use Rattle.lvm_session.specs.Judging.{IsWithinVolume, is_waiting, copies_for, mode_of, group_in, is_caught, is_settled, is_wanted_stale, is_sure, is_sure_at, is_kept, destinations_for, destination_aims, is_held_back, held_of, has_names, has_dirty_mark, pps_of}
pub use Rattle.lvm_session.specs.Judging.{is_past_held}
use Rattle.lvm_session.specs.Enabled.{wants_record}
use Rattle.lvm_session.specs.Marks.{is_among}

-- ---- its phases

-- it waits until its track group is pinned
abbrev pub wants_entry : Phase → Bool
wants_entry phase.Held = false
wants_entry phase.WantEntry = true
wants_entry phase.WantRecord = false
wants_entry phase.Data = false
wants_entry phase.WantStatus = false
wants_entry phase.Landed = false

-- its data may go out, or has
abbrev pub has_record : Phase → Bool
has_record phase.Held = false
has_record phase.WantEntry = false
has_record phase.WantRecord = false
has_record phase.Data = true
has_record phase.WantStatus = true
has_record phase.Landed = false

-- it waits until the staleness that is due is settled
abbrev pub wants_status : Phase → Bool
wants_status phase.Held = false
wants_status phase.WantEntry = false
wants_status phase.WantRecord = false
wants_status phase.Data = false
wants_status phase.WantStatus = true
wants_status phase.Landed = false

-- what its phase says of its targets
abbrev pub IsPhase : Phase → Open → Type 0
IsPhase phase.Held o = (o.request.targets.items ≡ []) × (o.request.pinned ≡ false)
IsPhase phase.WantEntry o = (is_begun o.request.targets.items ≡ false) × (o.request.pinned ≡ false) × (is_write o.request.ask ≡ true) × (2 ≤ length o.request.targets.items)
IsPhase phase.WantRecord o = (is_begun o.request.targets.items ≡ false) × (is_write o.request.ask ≡ true) × (2 ≤ length o.request.targets.items)
IsPhase phase.Data o = (1 ≤ length o.request.targets.items) × (is_write o.request.ask ≡ true → are_over o.request.targets.items ≡ false)
IsPhase phase.WantStatus o = (is_write o.request.ask ≡ true) × (are_over o.request.targets.items ≡ true)
IsPhase phase.Landed o = ⊥

-- ---- its targets

-- a copy of what the request goes over, or the destination of a move of that, which only a write has
abbrev pub IsAimed : Bool → Core → Ask → Target → Type 0
IsAimed false core ask t = is_among (copies_for core ask) t.pp ≡ true
IsAimed true core ask t = (is_among (destinations_for core ask) t.pp ≡ true) × (is_write ask ≡ true) × (t.usable ≡ false)

-- a copy of the request's blocks, or such a destination, at its sector, on a disk that wasn't missing when the session began
pub record IsTarget (core : Core) (ask : Ask) (t : Target) : Type 0 where
  pub copy : IsAimed t.moves core ask t
  pub sector : t.sector ≡ sector_of core.descriptor.mib t.pp.pp (at_of ask)
  pub there : calls_missing core.origin.table t.pp.disk ≡ false

-- Its targets are copies of its blocks, each once, of which one was usable; a read that has succeeded has its buffer in hand.
pub record IsShaped (core : Core) (o : Open) : Type 0 where
  pub targets : AllByRecursion (IsTarget core o.request.ask) o.request.targets.items
  pub phase_is : IsPhase o.request.phase o
  pub hand : is_some o.got ≡ (not (is_write o.request.ask) && list_any (λ (t : Target). is_done t.state) o.request.targets.items)
  pub room : IfSome o.got (λ (buf : Buffer). length buf.sectors ≡ 256)
  pub differ : AllPairs (λ (a b : Target). a.pp ≢ b.pp) o.request.targets.items
  pub usable : is_past_held o.request.phase ≡ true → list_any (λ (t : Target). t.usable) o.request.targets.items ≡ true
  -- a read tries one copy after the other
  pub one : is_write o.request.ask ≡ false → count_by (λ (t : Target). is_flying t.state || is_done t.state) o.request.targets.items ≤ 1

-- ---- its records

-- the mode of its volume where it is a write; a read is as a write of a volume that keeps no records
abbrev pub mode_for : Core → Ask → Mode
mode_for core ask = if is_write ask then mode_of core ask else mode.Off

-- from its entry on a write of an active volume holds its track group pinned, where it has two targets or more
abbrev pub IsPinned : Phase → Request → Type 0
IsPinned phase.Held r = Unit {0}
IsPinned phase.WantEntry r = Unit {0}
IsPinned phase.WantRecord r = r.pinned ≡ true
IsPinned phase.Data r = (r.pinned ≡ true) ⊎ (length r.targets.items ≤ 1)
IsPinned phase.WantStatus r = (r.pinned ≡ true) ⊎ (length r.targets.items ≤ 1)
IsPinned phase.Landed r = Unit {0}

-- only a write of an active volume waits for an entry and holds a pin, and only one of an active or a passive volume waits for a record
abbrev pub IsRecorded : Mode → Phase → Request → Type 0
IsRecorded mode.Active phase r = IsPinned phase r
IsRecorded mode.Passive phase r = (r.pinned ≡ false) × (wants_entry phase ≡ false)
IsRecorded mode.Off phase r = (r.pinned ≡ false) × (wants_entry phase ≡ false) × (wants_record phase ≡ false)

-- its volume is wanted dirty, where it is passive
abbrev pub is_wanted_dirty : Core → Mode → Ask → Bool
is_wanted_dirty core mode.Active ask = true
is_wanted_dirty core mode.Passive ask = calls_dirty core.status.wanted (lv_of ask)
is_wanted_dirty core mode.Off ask = true

-- Once it is admitted no earlier request is in its way, and with two targets or more it has the records that its volume keeps.
pub record MayBeServed (core : Core) (r : Request) : Type 0 where
  pub free : is_past_held r.phase ≡ true → is_held_back core r ≡ false
  pub recorded : IsRecorded (mode_for core r.ask) r.phase r
  pub wanted : is_past_held r.phase ≡ true → 2 ≤ length r.targets.items → is_wanted_dirty core (mode_for core r.ask) r.ask ≡ true
  -- before its data goes out the notes of all its targets name its track group, or its volume is settled as dirty
  pub named : has_record r.phase ≡ true → 2 ≤ length r.targets.items → has_names core (mode_for core r.ask) r ≡ true
  pub dirty : has_record r.phase ≡ true → 2 ≤ length r.targets.items → has_dirty_mark core (mode_for core r.ask) r ≡ true

-- ---- what is stale by it

-- a target whose transfer failed, and which is sure all the same
abbrev pub is_failed_and_sure : Core → Target → Bool
is_failed_and_sure core t = is_failed t.state && is_sure_at core t

-- a target has succeeded that the copying has passed: it is sure once the copy is cleared
abbrev pub will_be_kept : Core → Request → Bool
will_be_kept core r = list_any (λ (t : Target). is_done t.state && is_caught core (group_in core r.ask) t.pp) r.targets.items

-- What is due of a write whose transfers have all ended is wanted: no failed target is sure where one has succeeded that is sure or will be, and else all but
-- one are wanted stale.
abbrev pub is_wanted_due : Core → Request → Bool
is_wanted_due core r = nat_le (count_by (is_failed_and_sure core) r.targets.items) (if is_kept core r || will_be_kept core r then 0 else 1)

-- A write has missed the destination of a move: its transfer there failed, or one on a copy that is sure all the same, by which the write is lost.
abbrev pub is_missed : Core → Request → Target → Bool
is_missed core r t = t.moves && (is_failed t.state || list_any (is_failed_and_sure core) r.targets.items)

-- then staleness of the destination is wanted, unless it is stale
abbrev pub IsMarkedDestination : Core → Request → Target → Type 0
IsMarkedDestination core r t = is_missed core r t && is_sure core t.pp ≡ false

-- A copy that a write mustn't count on: its transfer there failed, or its targets were chosen before the copy that is open was opened.
abbrev pub may_lack : Open → Target → Bool
may_lack o t = is_failed t.state || o.older

-- a copy that a write may leave out: it is settled as stale and wanted stale, and the copying hasn't passed the track group
abbrev pub is_left_out : Core → Ask → Pp → Bool
is_left_out core ask p = is_settled core p && is_wanted_stale core p && not (is_caught core (group_in core ask) p)

-- The copy that is being brought up hasn't passed what a write may lack there, and a write that has begun goes to each copy that isn't left out.
pub record IsJudged (core : Core) (o : Open) : Type 0 where
  pub uncaught : AllByRecursion (λ (t : Target). may_lack o t && is_caught core (group_in core o.request.ask) t.pp ≡ false) o.request.targets.items
  pub due : wants_status o.request.phase ≡ true → is_wanted_due core o.request ≡ true
  -- (a write that fails on the destination ends the move by it, and waits then; nothing else would settle the staleness for which it waits)
  pub missed : wants_status o.request.phase ≡ true → AllByRecursion (IsMarkedDestination core o.request) o.request.targets.items
  pub all : is_begun o.request.targets.items ≡ true → (p : Pp) → is_among (copies_for core o.request.ask) p ≡ true → is_among (pps_of o.request.targets.items) p || is_left_out core o.request.ask p ≡ true
  -- and to the destination of a move, where that has passed the track group
  pub place : is_begun o.request.targets.items ≡ true → (p : Pp) → is_among (destination_aims core o.request.ask) p ≡ true → is_among (pps_of o.request.targets.items) p ≡ true

-- ---- all of it

-- one that hasn't landed
pub record IsRequest (core : Core) (o : Open) : Type 0 where
  pub shape : IsShaped core o
  pub ready : MayBeServed core o.request
  pub judged : is_write o.request.ask ≡ true → IsJudged core o

-- one that has landed has nothing in hand and holds no pin
pub record IsLanded (o : Open) : Type 0 where
  pub landed : is_waiting o ≡ false
  pub phase_is : o.request.phase ≡ phase.Landed
  pub hand : o.got ≡ None
  pub pinned : o.request.pinned ≡ false

-- A request lies in one track group of a volume, and has at most four targets.
pub record IsLaid (core : Core) (r : Request) : Type 0 where
  pub within : IsWithinVolume core.descriptor r.ask
  pub blocks : IsInGroup (held_of r.ask)
  pub most : length r.targets.items ≤ 4
  pub id : r.id < 2 ^ 32

-- A request of the table, while the session is on.
pub record IsOpenOne (core : Core) (o : Open) : Type 0 where
  pub laid : IsLaid core o.request
  pub waits : is_waiting o ≡ true → IsRequest core o
  pub over : is_waiting o ≡ false → IsLanded o
  -- (at the end of a session a request lands while its transfers are out)
  pub still : is_waiting o ≡ false → list_any (λ (t : Target). is_flying t.state) o.request.targets.items ≡ false
