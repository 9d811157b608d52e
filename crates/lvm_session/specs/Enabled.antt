-- Which events of a turn may be made, and which comes first.
use Rattle.std.specs.Prelude.{ℕ, ◌+◌, Bool, true, false, ◌&&◌, ◌==◌, not, if◌then◌else◌, List, [], ◌∷◌, find, Option, Some, None, is_some, is_none, bytes_eq}
use Rattle.std.specs.List.{list_any}
use Rattle.std.specs.Option.{option_map, option_map_or}
use Rattle.lvm_num.specs.declared.descriptor.PvRow.{PvRow}
use Rattle.lvm_num.specs.declared.status.Status.{Status}
use Rattle.lvm_num.specs.declared.status.StatusRow.{StatusRow}
use Rattle.lvm_num.specs.Disks.{has}
use Rattle.lvm_num.specs.Votes.{is_enough_to_write}
use Rattle.lvm_kept.specs.passed.Vol.{Outcome}
use Rattle.lvm_hold.specs.Waiting.{is_blocked}
use Rattle.lvm_mwc.specs.Entries.{are_all_pinned}
use Rattle.lvm_mwc.specs.Cache.{Cached, flight_on, is_named}
use Rattle.lvm_path.specs.declared.facts.Next.{Next}
use Rattle.lvm_path.specs.declared.facts.Next.TheVariants as next
use Rattle.lvm_path.specs.declared.ask.Ask.{Ask}
use Rattle.lvm_path.specs.declared.request.Phase.{Phase}
use Rattle.lvm_path.specs.declared.request.Phase.TheVariants as phase
use Rattle.lvm_path.specs.declared.target.Target.{Target}
use Rattle.lvm_path.specs.Asks.{lv_of}
use Rattle.lvm_session.specs.declared.event.Event.{Event}
use Rattle.lvm_session.specs.declared.event.Event.TheVariants as event
use Rattle.lvm_session.specs.declared.open.Open.{Open}
use Rattle.lvm_session.specs.declared.bringing.OpenCopy.{OpenCopy}
use Rattle.lvm_session.specs.State.{Core, votes_there}
use Rattle.lvm_session.specs.Judging.{is_missing, group_of, next_for, is_running}
use Rattle.lvm_session.specs.Bringing.{is_idle, is_whole, next_source, hand_of, step_of}

-- ---- what a request may do next

-- how it lands
abbrev pub outcome_next : Next → Option Outcome
outcome_next next.Wait = None
outcome_next next.Admit = None
outcome_next next.Pin = None
outcome_next (next.Start target) = None
outcome_next (next.Land how) = Some how

-- it is admitted, or admitted again
abbrev pub is_admit : Next → Bool
is_admit next.Wait = false
is_admit next.Admit = true
is_admit next.Pin = false
is_admit (next.Start target) = false
is_admit (next.Land how) = false

-- its track group is pinned
abbrev pub is_pin : Next → Bool
is_pin next.Wait = false
is_pin next.Admit = false
is_pin next.Pin = true
is_pin (next.Start target) = false
is_pin (next.Land how) = false

-- the target whose transfer is started
abbrev pub target_next : Next → Option ℕ
target_next next.Wait = None
target_next next.Admit = None
target_next next.Pin = None
target_next (next.Start target) = Some target
target_next (next.Land how) = None

-- how the request lands, where it may
abbrev pub landing_due : Core → Open → Option Outcome
landing_due core o = outcome_next (next_for core o)

-- it may be admitted
abbrev pub may_be_admitted : Core → Open → Bool
may_be_admitted core o = is_admit (next_for core o)

-- its track group stands in the cache, or there is a place for it
abbrev pub can_pin : Cached → Ask → Bool
can_pin cache ask = not (are_all_pinned cache.entries (lv_of ask) (group_of ask))

-- its track group may be pinned
abbrev pub may_pin : Core → Open → Bool
may_pin core o = is_pin (next_for core o) && can_pin core.cache o.request.ask

-- the target whose transfer is due
abbrev pub target_due : Core → Open → Option ℕ
target_due core o = target_next (next_for core o)

-- it waits for its record
abbrev pub wants_record : Phase → Bool
wants_record phase.Held = false
wants_record phase.WantEntry = false
wants_record phase.WantRecord = true
wants_record phase.Data = false
wants_record phase.WantStatus = false
wants_record phase.Landed = false

-- a note may be started on the disk, and doesn't name the track group
abbrev pub is_unnamed : Core → Ask → Target → Bool
is_unnamed core ask t = not (is_missing core t.pp.disk) && is_none (flight_on core.cache t.pp.disk) && not (is_named core.cache t.pp.disk (lv_of ask) (group_of ask))

-- the first disk on which a note is due for the request, which has pinned its track group
abbrev pub note_due : Core → Open → Option ℕ
note_due core o =
    if wants_record o.request.phase && o.request.pinned then option_map (λ (t : Target). t.pp.disk) (find (is_unnamed core o.request.ask) o.request.targets.items) else None

-- ---- what else may be started

-- the members that aren't missing have too few votes to write
abbrev pub is_lost : Core → Bool
is_lost core = not (is_enough_to_write core.descriptor (votes_there core))

-- two rows of a status say the same
abbrev pub same_row : StatusRow → StatusRow → Bool
same_row a b = a.disk == b.disk && (if a.missing then b.missing else not b.missing) && bytes_eq a.stale b.stale

-- so do two lists of rows
abbrev pub same_rows : List StatusRow → List StatusRow → Bool
same_rows [] [] = true
same_rows [] (b ∷ bs) = false
same_rows (a ∷ more) [] = false
same_rows (a ∷ more) (b ∷ bs) = same_row a b && same_rows more bs

-- two statuses say the same
abbrev pub same_status : Status → Status → Bool
same_status a b = a.id == b.id && (if a.big then b.big else not b.big) && bytes_eq a.dirty b.dirty && same_rows a.rows b.rows

-- something is wanted that isn't committed, and nothing is in flight; or a write of the update in flight isn't started
abbrev pub is_status_due : Core → Bool
is_status_due core =
    if is_none core.status.in_flight then not (same_status core.status.wanted core.status.committed)
    else list_any (λ (row : PvRow). has core.status.writes.unstarted row.disk) core.status.group.pvs

-- a step of the copy that is being brought up isn't held back
abbrev pub is_free_step : Core → OpenCopy → Bool
is_free_step core c = not (is_blocked core.queue.rows c.place (step_of core c))

-- its read may be started, for which it takes a buffer
abbrev pub may_read : Core → OpenCopy → Bool
may_read core c = is_running c && not (is_whole core c) && is_idle c.step && is_free_step core c && is_some (next_source core c)

-- and its write, which takes none
abbrev pub may_write : OpenCopy → Bool
may_write c = is_running c && is_some (hand_of c.step)

-- some buffer isn't out
abbrev pub has_buffer : Core → Bool
has_buffer core = list_any not core.pool

-- ---- the first event

-- where a kind of event is looked for
abbrev pub Part : Type 0
Part = Core → Option Event

-- this event, or else that one
abbrev pub or_next : Option Event → Option Event → Option Event
or_next None other = other
or_next (Some it) other = Some it

-- what the first request makes of which there is an event, from a place of the table on
abbrev pub first_from : (ℕ → Open → Option Event) → ℕ → List Open → Option Event
first_from make place [] = None
first_from make place (o ∷ os) = or_next (make place o) (first_from make (place + 1) os)

-- the event by which the request at a place lands, is admitted, pins its track group, starts a note or a transfer, where it may
abbrev pub landing_at : Core → ℕ → Open → Option Event
landing_at core place o = option_map (event.Land place) (landing_due core o)

abbrev pub admission_at : Core → ℕ → Open → Option Event
admission_at core place o = if may_be_admitted core o then Some (event.Admit place) else None

abbrev pub pinning_at : Core → ℕ → Open → Option Event
pinning_at core place o = if may_pin core o then Some (event.Pin place) else None

abbrev pub note_at : Core → ℕ → Open → Option Event
note_at core place o = option_map (event.StartNote place) (note_due core o)

abbrev pub data_at : Core → ℕ → Open → Option Event
data_at core place o = option_map (event.StartData place) (target_due core o)

-- the first request that may land
abbrev pub landing : Part
landing core = first_from (landing_at core) 0 core.requests

-- the first that may be admitted
abbrev pub admission : Part
admission core = first_from (admission_at core) 0 core.requests

-- the first whose track group may be pinned
abbrev pub pinning : Part
pinning core = first_from (pinning_at core) 0 core.requests

-- nothing is started for which no buffer is there
abbrev pub with_buffer : Part → Part
with_buffer part core = if has_buffer core then part core else None

-- a write of the status
abbrev pub status_start : Part
status_start = with_buffer (λ core. if is_status_due core then Some event.StartStatus else None)

-- the first note that is due
abbrev pub note_start : Part
note_start = with_buffer (λ core. first_from (note_at core) 0 core.requests)

-- the first transfer of a request that is due
abbrev pub data_start : Part
data_start = with_buffer (λ core. first_from (data_at core) 0 core.requests)

-- the read of the copy that is open
abbrev pub copy_read : Part
copy_read = with_buffer (λ core. if option_map_or (may_read core) core.copy false then Some event.ReadCopy else None)

-- its write
abbrev pub copy_write : Part
copy_write core = if option_map_or may_write core.copy false then Some event.WriteCopy else None

-- the first event of these parts
abbrev pub first_of : List Part → Part
first_of [] core = None
first_of (part ∷ parts) core = or_next (part core) (first_of parts core)

-- what starts no transfer, in its order
abbrev pub parts_to_settle : List Part
parts_to_settle = landing ∷ admission ∷ pinning ∷ []

-- what starts one, in its order
abbrev pub parts_to_start : List Part
parts_to_start = status_start ∷ note_start ∷ data_start ∷ copy_read ∷ copy_write ∷ []

-- The first event that may be made. While the votes are lost only a landing is.
abbrev pub first_event : Part
first_event core = if is_lost core then landing core else or_next (first_of parts_to_settle core) (first_of parts_to_start core)
