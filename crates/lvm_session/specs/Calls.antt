-- The calls of a client: a request is submitted, its answer is taken, a copy is opened and closed.
use Rattle.std.specs.Prelude.{◌≡◌, ◌⊎◌, ◌||◌, is_none, ℕ, ◌+◌, ◌*◌, ◌-◌, ◌^◌, ◌++◌, take, Bool, true, false, ◌&&◌, ◌==◌, not, nat_lt, nat_le, if◌then◌else◌, List, [], ◌∷◌, length, map, position, Option, Some, None, MatchOption, is_some, Result, Ok, Err, slice_get}
use Rattle.std.specs.List.{remove, list_any}
use Rattle.std.specs.Option.{option_map_or}
use Rattle.lvm_num.specs.declared.place.Pp.{Pp}
use Rattle.lvm_num.specs.declared.descriptor.LvRow.{LvRow}
use Rattle.lvm_num.specs.declared.descriptor.Policy.TheVariants as policy
use Rattle.lvm_num.specs.Disks.{has}
use Rattle.lvm_num.specs.declared.descriptor.PvRow.{PvRow}
use Rattle.lvm_num.specs.Descriptor.{copies_of, member_of, partitions_used, volume_of, is_pp}
use Rattle.lvm_num.specs.Geometry.{volume_blocks}
use Rattle.lvm_status.specs.Calls.{BecomesStale}
use Rattle.lvm_session.specs.declared.origin.Origin.{Origin}
use Rattle.lvm_kept.specs.passed.Disk.{Counts}
use Rattle.lvm_kept.specs.passed.Vol.{Outcome, Begun, with_fact, next_id, next_request, taken_fact, spare_entries, spare_bytes, blocks_begun}
use Rattle.lvm_kept.specs.passed.VolEntryVol.{Lv}
use Rattle.lvm_kept.specs.passed.VolEntryOutcome as outcome
use Rattle.lvm_path.specs.declared.ask.Ask.{Ask}
use Rattle.lvm_path.specs.declared.request.Phase.TheVariants as phase
use Rattle.lvm_path.specs.Asks.{lv_of, at_of, count_of}
use Rattle.lvm_session.specs.declared.answers.AskFault.{AskFault}
use Rattle.lvm_session.specs.declared.answers.AskFault.TheVariants as fault
use Rattle.lvm_session.specs.declared.answers.Taken.{Taken}
use Rattle.lvm_session.specs.declared.answers.Taken.TheVariants as answer
use Rattle.lvm_session.specs.declared.answers.CopyFault.{CopyFault}
use Rattle.lvm_session.specs.declared.answers.CopyFault.TheVariants as refusal
use Rattle.lvm_session.specs.declared.open.Open.{Open}
use Rattle.lvm_session.specs.declared.open.Power.{Power}
use Rattle.lvm_session.specs.declared.open.Power.TheVariants as power
use Rattle.lvm_session.specs.declared.bringing.OpenCopy.{OpenCopy}
use Rattle.lvm_session.specs.declared.bringing.CopyEnd.{CopyEnd}
use Rattle.lvm_session.specs.declared.bringing.CopyEnd.TheVariants as ending
use Rattle.lvm_session.specs.declared.answers.CopyState.{CopyState}
use Rattle.lvm_session.specs.declared.answers.CopyState.TheVariants as copy
use Rattle.lvm_session.specs.declared.bringing.Step.TheVariants as step
use Rattle.lvm_session.specs.State.{Core}
use Rattle.lvm_session.specs.Judging.{place_of, held_of, pps_of, is_move_done, is_usable, is_settled, is_missing}
use Rattle.lvm_session.specs.Marks.{is_among}
use Rattle.lvm_session.specs.declared.answers.OpenFault.{OpenFault}
use Rattle.lvm_session.specs.declared.answers.OpenFault.TheVariants as denial
use Rattle.lvm_session.specs.Bringing.{step_place, is_out}
use Rattle.lvm_session.specs.Ends.{with_step}

-- more than 65,535 numbers are left for the stamps of records
abbrev pub has_numbers : Core → Bool
has_numbers core = nat_lt (core.status.stamp.seq + 65536) (2 ^ 32)

-- ---- Submit

-- the history has room for the request, its landing and its answer, and for its blocks
abbrev pub has_history : Core → Ask → Bool
has_history core ask = nat_le 3 (spare_entries core.history) && nat_le (512 * count_of ask) (spare_bytes core.history) && has_numbers core

-- why a request to a volume of so many blocks isn't taken
abbrev pub fault_in : Core → Ask → ℕ → Option AskFault
fault_in core ask blocks =
    if nat_lt blocks (at_of ask + count_of ask) then Some (fault.OutOfRange blocks)
    else if nat_le core.most (length core.requests) then Some (fault.TableFull (length core.requests))
    else if has_history core ask then None else Some fault.HistoryFull

-- why it isn't taken while the session goes on
abbrev pub fault_on : Core → Ask → Option AskFault
fault_on core ask = option_map_or (λ (row : LvRow). fault_in core ask (volume_blocks core.descriptor.mib row.lps)) (volume_of core.descriptor (lv_of ask)) (Some fault.NoVolume)

-- and where the session is over
abbrev pub fault_by : Power → Option AskFault → Option AskFault
fault_by power.Dark on = Some fault.Dark
fault_by power.Off on = Some fault.Off
fault_by power.Stuck on = on
fault_by power.On on = on

-- why a request isn't taken, if it isn't
abbrev pub ask_fault : Core → Ask → Option AskFault
ask_fault core ask = fault_by core.power (fault_on core ask)

-- a request whose blocks stand in the history from this place on
abbrev pub new_open : ℕ → ℕ → Ask → ℕ → Open
new_open id client ask place = record {
  request = record { id = id; client = client; ask = ask; phase = phase.Held; policy = policy.Parallel; pinned = false; targets = record { items = [] } };
  place = place;
  older = false;
  got = None;
  landed = None;
}

-- it has begun, and waits
abbrev pub submitted : Core → ℕ → Ask → Option (List ℕ) → Core
submitted core client ask bytes = record core {
  history = with_fact core.history (Begun (next_request core.history client (Lv (lv_of ask)) (at_of ask) (count_of ask) bytes));
  requests = core.requests ++ new_open (next_id core.history) client ask (blocks_begun core.history.facts) ∷ [];
  queue = record core.queue { rows = core.queue.rows ++ record { id = place_of (next_id core.history); ask = held_of ask } ∷ [] };
}

-- A request is taken under the next number, or isn't, and then nothing changes.
abbrev pub SubmitGives : Core → Core → ℕ → Ask → Option (List ℕ) → Result ℕ AskFault → Type 0
SubmitGives old new client ask bytes answer =
    MatchOption (ask_fault old ask) ((answer ≡ Ok (next_id old.history)) × (new ≡ submitted old client ask bytes)) (λ (why : AskFault). (answer ≡ Err why) × (new ≡ old))

-- ---- Take

-- this client's request of this number
abbrev pub is_asked : ℕ → ℕ → Open → Bool
is_asked client id o = o.request.client == client && o.request.id == id

-- the answer of one that landed so
abbrev pub taken_as : Outcome → ℕ → ℕ → Taken
taken_as outcome.Done place count = answer.Done
taken_as outcome.Got place count = answer.Got place count
taken_as outcome.Lost place count = answer.Lost
taken_as outcome.ReadFailed place count = answer.ReadFailed
taken_as outcome.NoFresh place count = answer.NoFresh
taken_as outcome.Off place count = answer.Off
taken_as outcome.Dark place count = answer.Dark

-- the request at a place has landed, and goes
abbrev pub after_take : Core → ℕ → ℕ → Core
after_take core place id = record core { requests = remove core.requests place; history = with_fact core.history (taken_fact core.history.facts id) }

-- it goes with its answer, where it has landed
abbrev pub TakesLanded : Core → Core → ℕ → Open → Taken → Option Outcome → Type 0
TakesLanded old new place o answered None = (answered ≡ answer.NotYet) × (new ≡ old)
TakesLanded old new place o answered (Some how) = (answered ≡ taken_as how o.place (count_of o.request.ask)) × (new ≡ after_take old place o.request.id)

-- the request at a place is taken so
abbrev pub TakeAt : Core → Core → ℕ → Taken → Type 0
TakeAt old new place answered = (o : Open) × (slice_get old.requests place ≡ Some o) × TakesLanded old new place o answered o.landed

-- The answer of a request is taken, where it is this client's and has landed.
abbrev pub TakeGives : Core → Core → ℕ → ℕ → Taken → Type 0
TakeGives old new client id answered = MatchOption (position (is_asked client id) old.requests) ((answered ≡ answer.Unknown) × (new ≡ old)) (λ (place : ℕ). TakeAt old new place answered)

-- ---- Open and Close

-- why this copy, at this partition among the copies, isn't opened (one that the status in flight calls fresh counts as fresh already)
abbrev pub refusal_at : Core → List Pp → Pp → Option CopyFault
refusal_at core copies p =
    if not (is_settled core p) then Some refusal.AlreadyFresh
    else if is_missing core p.disk then Some (refusal.Missing p.disk)
    else if not (list_any (λ (q : Pp). not (is_pp q p) && is_usable core q) copies) then Some refusal.NoFresh
    else if has_numbers core then None else Some refusal.HistoryFull

-- the partition of a copy, from 1
abbrev pub copy_at : List Pp → ℕ → Option Pp
copy_at copies number = if number == 0 then None else slice_get copies (number - 1)

-- why this copy of a logical partition of the volume isn't
abbrev pub refusal_in : Core → LvRow → ℕ → ℕ → Option CopyFault
refusal_in core row lp number =
    if nat_lt lp row.lps then option_map_or (refusal_at core (copies_of row lp)) (copy_at (copies_of row lp) number) (Some refusal.OutOfRange)
    else Some refusal.OutOfRange

-- why it isn't while the session goes on
abbrev pub refusal_on : Core → ℕ → ℕ → ℕ → Option CopyFault
refusal_on core lv lp number =
    if is_some core.copy then Some refusal.Busy
    else option_map_or (λ (row : LvRow). refusal_in core row lp number) (volume_of core.descriptor lv) (Some refusal.NoVolume)

-- and where the session is over
abbrev pub refusal_when : Power → Option CopyFault → Option CopyFault
refusal_when power.Dark on = Some refusal.Dark
refusal_when power.Off on = Some refusal.Off
refusal_when power.Stuck on = on
refusal_when power.On on = on

-- why a copy isn't opened, if it isn't
abbrev pub copy_fault : Core → ℕ → ℕ → ℕ → Option CopyFault
copy_fault core lv lp number = refusal_when core.power (refusal_on core lv lp number)

-- its targets were chosen before the copy was opened
abbrev pub aged : Open → Open
aged o = record o { older = true }

-- how many transfers have failed on the disks of three copies, and on the disk of this one
abbrev pub faults_of : Counts → List Pp → Pp → List ℕ
faults_of counts copies own = take 3 (map (λ (p : Pp). counts.faults p.disk) copies ++ 0 ∷ 0 ∷ 0 ∷ []) ++ counts.faults own.disk ∷ []

-- the copy on this partition, or that moves there, as it is opened, at this place of the queue
abbrev pub opened : Bool → Pp → ℕ → ℕ → ℕ → ℕ → List ℕ → ℕ → OpenCopy
opened moves p lv lp number tried faults place =
    record { lv = lv; lp = lp; copy = number; pp = p; moves = moves; cursor = 0; step = step.Idle; tried = tried; place = place; faults = faults; end = None }

-- A stale copy begins to be brought up; its first step enters the queue.
pub record Opens (counts : Counts) (old new : Core) (lv lp number : ℕ) : Type 0 where
  pub row : LvRow
  pub volume : volume_of old.descriptor lv ≡ Some row
  pub pp : Pp
  pub copy_is : copy_at (copies_of row lp) number ≡ Some pp
  pub tried : ℕ
  pub nothing : (d : ℕ) → has tried d ≡ false
  pub is : new ≡ with_step (record old { requests = map aged old.requests }) (opened false pp lv lp number tried (faults_of counts (copies_of row lp) pp) (step_place old))

-- A copy is opened, or isn't, and then nothing changes.
abbrev pub OpenGives : Counts → Core → Core → ℕ → ℕ → ℕ → Result (Unit {0}) CopyFault → Type 0
OpenGives counts old new lv lp number answer =
    MatchOption (copy_fault old lv lp number) ((answer ≡ Ok tt) × Opens counts old new lv lp number) (λ (why : CopyFault). (answer ≡ Err why) × (new ≡ old))

-- ---- a move is opened

-- a volume has the partition, or its member hasn't
abbrev pub is_in_use : Core → Pp → Bool
is_in_use core p = is_among (partitions_used core.descriptor) p || not (option_map_or (λ (row : PvRow). nat_lt p.pp row.pps) (member_of core.descriptor p.disk) false)

-- why a copy of these doesn't move to this partition
abbrev pub move_fault_at : Core → Pp → List Pp → Option OpenFault
move_fault_at core to copies =
    if is_in_use core to then Some denial.InUse
    else if is_missing core to.disk then Some (denial.Missing to.disk)
    else if not (list_any (is_usable core) copies) then Some denial.NoFresh
    else if has_numbers core then None else Some denial.HistoryFull

-- why this copy of a logical partition of the volume doesn't
abbrev pub move_fault_in : Core → LvRow → ℕ → ℕ → Pp → Option OpenFault
move_fault_in core row lp number to =
    if nat_lt lp row.lps && is_some (copy_at (copies_of row lp) number) then move_fault_at core to (copies_of row lp) else Some denial.OutOfRange

-- why it doesn't while the session goes on
abbrev pub move_fault_on : Core → ℕ → ℕ → ℕ → Pp → Option OpenFault
move_fault_on core lv lp number to =
    if is_some core.copy then Some denial.Busy
    else option_map_or (λ (row : LvRow). move_fault_in core row lp number to) (volume_of core.descriptor lv) (Some denial.NoVolume)

-- and where the session is over
abbrev pub move_fault_when : Power → Option OpenFault → Option OpenFault
move_fault_when power.Dark on = Some denial.Dark
move_fault_when power.Off on = Some denial.Off
move_fault_when power.Stuck on = on
move_fault_when power.On on = on

-- why a copy isn't moved, if it isn't (but for want of memory)
abbrev pub move_fault : Core → ℕ → ℕ → ℕ → Pp → Option OpenFault
move_fault core lv lp number to = move_fault_when core.power (move_fault_on core lv lp number to)

-- the partition counts as stale since the session began, and nothing else changes
pub record CallsStale (p : Pp) (old new : Origin) : Type 0 where
  pub table : BecomesStale p old.table new.table
  pub faults : new.faults ≡ old.faults

-- A copy begins to move; its first step enters the queue, and its destination counts as stale since the session began.
pub record OpensMove (counts : Counts) (old new : Core) (lv lp number : ℕ) (to : Pp) : Type 0 where
  pub row : LvRow
  pub volume : volume_of old.descriptor lv ≡ Some row
  pub tried : ℕ
  pub nothing : (d : ℕ) → has tried d ≡ false
  pub called : CallsStale to old.origin new.origin
  pub is : new ≡ with_step (record old { requests = map aged old.requests; origin = new.origin }) (opened true to lv lp number tried (faults_of counts (copies_of row lp) to) (step_place old))

-- A move is opened, or isn't, and then nothing changes.
abbrev pub OpenMoveGives : Counts → Core → Core → ℕ → ℕ → ℕ → Pp → Result (Unit {0}) OpenFault → Type 0
OpenMoveGives counts old new lv lp number to answer =
    MatchOption (move_fault old lv lp number to) (((answer ≡ Ok tt) × OpensMove counts old new lv lp number to) ⊎ ((answer ≡ Err denial.Memory) × (new ≡ old))) (λ (why : OpenFault). (answer ≡ Err why) × (new ≡ old))

-- ---- what a caller sees of it

-- a request that hasn't landed has the partition among its targets
abbrev pub is_aimed_at : Core → Pp → Bool
is_aimed_at core p = list_any (λ (o : Open). is_none o.landed && is_among (pps_of o.request.targets.items) p) core.requests

-- how one stands that has ended so
abbrev pub state_at_end : OpenCopy → CopyEnd → CopyState
state_at_end c ending.Done = copy.Done
state_at_end c ending.SyncFailed = copy.SyncFailed c.pp.disk
state_at_end c ending.NoFresh = copy.NoFresh
state_at_end c ending.Ended = copy.Ended

-- a move that has ended, to whose destination a request still goes
abbrev pub is_still_aimed : Core → OpenCopy → Bool
is_still_aimed core c = c.moves && is_some c.end && is_aimed_at core c.pp

-- It is running until its own transfer has ended too, and until no request goes to its destination. A move is done while it is whole, its destination
-- is fresh and nothing is under way on its logical partition.
abbrev pub state_of_copy : Core → OpenCopy → CopyState
state_of_copy core c =
    if is_out c.step || is_still_aimed core c then copy.Running c.cursor
    else if is_move_done core c then copy.Done
    else option_map_or (state_at_end c) c.end (copy.Running c.cursor)

-- how far the copy is that is open
abbrev pub copy_state : Core → CopyState
copy_state core = option_map_or (state_of_copy core) core.copy copy.Closed

-- no copy is open
abbrev pub closed : Core → Core
closed core = record core { copy = None }

-- The copy that is open is closed, which isn't running.
pub record Closes (old new : Core) : Type 0 where
  pub ended : (cursor : ℕ) → copy_state old ≡ copy.Running cursor → ⊥
  pub is : new ≡ closed old
