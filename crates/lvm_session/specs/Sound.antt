-- What holds of a session at every moment.
use Rattle.std.specs.Prelude.{IfSome, ◌≡◌, ◌≤◌, ◌<◌, ◌+◌, ◌^◌, ◌&&◌, ◌||◌, ◌==◌, not, ℕ, Bool, true, false, List, [], ◌∷◌, Option, Some, None, length, filter, count_by, nat_lt, slice_index_or, sum_by, if◌then◌else◌}
use Rattle.std.specs.List.{list_any, AllByRecursion}
use Rattle.std.specs.Option.{option_map_or}
use Rattle.lvm_num.specs.Buffer.{Buffer}
use Rattle.lvm_num.specs.declared.place.Pp.{Pp}
use Rattle.lvm_num.specs.declared.descriptor.LvRow.{LvRow}
use Rattle.lvm_num.specs.declared.descriptor.PvRow.{PvRow}
use Rattle.lvm_num.specs.Status.{calls_missing, calls_stale}
use Rattle.lvm_num.specs.Descriptor.{IsValid, is_member, member_of, partitions_used, volume_of, is_pp}
use Rattle.lvm_num.specs.Disks.{has}
use Rattle.lvm_kept.specs.passed.Disk.{Device, Flight}
use Rattle.lvm_kept.specs.passed.Vol.{Request as Asked, Fact, Making, Made, Split, Removing, Removed, Begun, Landed, Taken, Cut, On, begun, Outcome, asked, next_id, is_open, lands_id, is_answered, Ordered}
use Rattle.lvm_kept.specs.passed.VolEntryVol.{Lv}
use Rattle.lvm_hold.specs.declared.queue.Row.{Row}
use Rattle.lvm_mwc.specs.Entries.{AreEntries, pins_of}
use Rattle.lvm_mwc.specs.Cache.{has_disk}
use Rattle.lvm_status.specs.Members.{HasItsRows}
use Rattle.lvm_status.specs.Update.{seen}
use Rattle.lvm_status.specs.Runs.{IsSoundStatus}
use Rattle.lvm_path.specs.Asks.{lv_of, at_of, count_of, is_write}
use Rattle.lvm_path.specs.declared.request.Phase.TheVariants as phase
use Rattle.lvm_session.specs.declared.open.Open.{Open}
use Rattle.lvm_session.specs.declared.open.Power.{Power}
use Rattle.lvm_session.specs.declared.open.Power.TheVariants as power
use Rattle.lvm_session.specs.declared.bringing.CopyEnd.TheVariants as ending
use Rattle.lvm_session.specs.declared.bringing.OpenCopy.{OpenCopy}
use Rattle.lvm_session.specs.declared.bringing.Step.{Step}
use Rattle.lvm_session.specs.declared.bringing.Step.TheVariants as step
use Rattle.lvm_session.specs.State.{Core, State}
use Rattle.lvm_session.specs.Judging.{is_waiting, copies_in, group_of, is_settled, place_of, held_of, is_wanted_stale, is_stale, is_running}
pub use Rattle.lvm_session.specs.Judging.{stays_fresh}
use Rattle.lvm_session.specs.Bringing.{groups_of, is_whole, is_idle, has_row, step_row, hand_of, copy_ends}
use Rattle.lvm_session.specs.Enabled.{is_lost, is_free_step}
use Rattle.lvm_session.specs.Dark.{AreTold, hand_of_copy}
use Rattle.lvm_session.specs.Calls.{copy_at}
use Rattle.lvm_session.specs.Marks.{is_among, is_entailed}
use Rattle.lvm_session.specs.Causes.{AreCaused, AreCounted, IsAnswered, IsChosenSince, IsCausedAmong, IsTrueToOrigin, is_held_stale, is_over, was_fresh}
use Rattle.lvm_session.specs.Left.{updates_left}
use Rattle.lvm_session.specs.Owners.{AreOwned, AreRows, HaveTickets}
use Rattle.lvm_session.specs.Placed.{ArePlaced}
use Rattle.lvm_session.specs.Requests.{IsLanded, IsOpenOne}

-- ---- the table and the history

-- the request of this number is in the table, and hasn't landed
abbrev pub waits : List Open → ℕ → Bool
waits requests id = list_any (λ (o : Open). is_waiting o && o.request.id == id) requests

-- how the request has landed whose landing this is
abbrev pub outcome_by : Fact → Option Outcome
outcome_by (Landed r how started got) = Some how
outcome_by (Making lv blocks m) = None
outcome_by (Made lv) = None
outcome_by (Split from lv) = None
outcome_by (Removing vol) = None
outcome_by (Removed vol) = None
outcome_by (Begun r) = None
outcome_by (Taken r) = None
outcome_by Cut = None
outcome_by (On moment) = None

-- where the blocks of a request stand in the history: behind those of the requests before it
abbrev pub place_in : List Fact → ℕ → ℕ
place_in facts id = sum_by (λ (r : Asked). r.count) (filter (λ (r : Asked). nat_lt r.id id) (begun facts))

-- how the request of this number has landed, if it has
abbrev pub outcome_in : List Fact → ℕ → Option Outcome
outcome_in [] id = None
outcome_in (f ∷ fs) id = if lands_id id f then outcome_by f else outcome_in fs id

-- the history tells of this request, by this client, of these blocks of a volume; where it has landed, its answer isn't taken
pub record IsAsked (facts : List Fact) (o : Open) : Type 0 where
  pub request : Asked
  pub told : asked facts o.request.id ≡ Some request
  pub client : request.client ≡ o.request.client
  pub vol : request.vol ≡ Lv (lv_of o.request.ask)
  pub at : request.at ≡ at_of o.request.ask
  pub count : request.count ≡ count_of o.request.ask
  pub write : request.write ≡ is_write o.request.ask
  pub length : request.write ≡ true → length request.blocks ≡ request.count
  pub place : o.place ≡ place_in facts o.request.id
  -- how it landed is what the history says
  pub outcome : o.landed ≡ outcome_in facts o.request.id
  pub answered : is_waiting o ≡ false → is_answered facts o.request.client o.request.id ≡ true

-- The table has the requests that the history tells of, by rising numbers.
pub record IsTold (core : Core) : Type 0 where
  pub ordered : Ordered core.history.run [] core.history.facts
  pub table : AreTold core.history.facts core.requests
  pub each : (id : ℕ) → is_open core.history.facts id ≡ waits core.requests id
  pub requests : AllByRecursion (IsAsked core.history.facts) core.requests

-- ---- rooms

-- The parts of a session are of one group, and their rooms agree.
pub record IsFitting (core : Core) : Type 0 where
  pub valid : IsValid core.descriptor
  pub id : core.status.wanted.id ≡ core.descriptor.id
  pub rows : HasItsRows core.descriptor core.status.wanted
  pub group : core.status.group ≡ record core.descriptor { lvs = [] }
  pub entries : AreEntries core.cache.entries
  pub notes : (disk : ℕ) → has_disk core.cache disk ≡ is_member core.descriptor disk
  pub table : length core.requests ≤ core.most
  pub most : core.most ≤ 1024
  -- each request has a place, and the copy that is open one more
  pub queue : core.queue.room ≡ core.most + 1
  pub a_buffer : 1 ≤ length core.pool
  pub buffers : length core.pool ≤ 1024
  pub last : length core.last ≡ 512
  -- the numbers of all requests that may begin are numbers of four bytes
  pub room : core.history.room < 2 ^ 32

-- ---- buffers

-- the buffer has this number
abbrev pub has_number : ℕ → Buffer → Bool
has_number n b = b.number == n

-- so has the one in hand
abbrev pub is_hand : ℕ → Option Buffer → Bool
is_hand n hand = option_map_or (has_number n) hand false

-- one, where this is so
abbrev pub count_if : Bool → ℕ
count_if is = if is then 1 else 0

-- how many buffers of a number are in hand
abbrev pub hands_with : Core → ℕ → ℕ
hands_with core n = count_by (λ (o : Open). is_hand n o.got) core.requests + count_if (is_hand n (hand_of_copy core.copy))

-- how many are out: with a transfer, given up by a power cut, or in hand
abbrev pub out_with : Device → Core → ℕ → ℕ
out_with device core n = count_by (λ (f : Flight). has_number n f.buf) device.flights + count_by (has_number n) device.freed + hands_with core n

-- ---- a session that is on

-- the rows of the requests that wait, and of a step of the copy at its place among them
abbrev pub waiting_rows : List Open → List Row
waiting_rows [] = []
waiting_rows (o ∷ os) = if is_waiting o then record { id = place_of o.request.id; ask = held_of o.request.ask } ∷ waiting_rows os else waiting_rows os

-- with one row more, at its place
abbrev pub with_row : Row → List Row → List Row
with_row step [] = step ∷ []
with_row step (row ∷ rows) = if nat_lt step.id row.id then step ∷ row ∷ rows else row ∷ with_row step rows

-- the rows that stand in the hold queue
abbrev pub rows_of : Core → List Row
rows_of core = option_map_or (λ (c : OpenCopy). if has_row core c then with_row (step_row core c) (waiting_rows core.requests) else waiting_rows core.requests) core.copy (waiting_rows core.requests)

-- it holds a pin of this track group
abbrev pub pins : ℕ → ℕ → Open → Bool
pins lv group o = o.request.pinned && lv_of o.request.ask == lv && group_of o.request.ask == group

-- ---- its copy

-- what it reads is another of these copies, which wasn't tried for this track group
abbrev pub IsReadFrom : Step → List Pp → OpenCopy → Type 0
IsReadFrom step.Idle copies c = Unit {0}
IsReadFrom (step.Reading source) copies c = (is_among copies source ≡ true) × (is_pp source c.pp ≡ false) × (has c.tried source.disk ≡ false)
IsReadFrom (step.Read buf) copies c = Unit {0}
IsReadFrom step.Writing copies c = Unit {0}

-- It is a stale copy of its logical partition.
pub record IsStaleCopy (core : Core) (c : OpenCopy) : Type 0 where
  pub its : copy_at (copies_in core.descriptor c.lv c.lp) c.copy ≡ Some c.pp
  -- until it is whole it is stale by the committed status and by the one in flight, and wanted so
  pub stale : is_running c ≡ true → is_whole core c ≡ false → (is_settled core c.pp ≡ true) × (is_wanted_stale core c.pp ≡ true)
  -- then its clearing is wanted, and not committed yet
  pub clearing : is_running c ≡ true → is_whole core c ≡ true → (is_stale core c.pp ≡ true) × (is_wanted_stale core c.pp ≡ false)

-- It is a copy of its logical partition that moves to a partition which no volume has, of a member on which no other copy of it stands; of that partition no
-- staleness is wanted once the move is whole. Some copy of the logical partition stays fresh, also once it has ended (without one a write that is done on the destination
-- alone would wait for the staleness of that, which nothing wants).
pub record IsMove (core : Core) (c : OpenCopy) : Type 0 where
  pub from : Pp
  pub its : copy_at (copies_in core.descriptor c.lv c.lp) c.copy ≡ Some from
  pub free : is_among (partitions_used core.descriptor) c.pp ≡ false
  pub member : PvRow
  pub member_is : member_of core.descriptor c.pp.disk ≡ Some member
  pub inside : c.pp.pp < member.pps
  pub apart : list_any (λ (p : Pp). not (is_pp p from) && p.disk == c.pp.disk) (copies_in core.descriptor c.lv c.lp) ≡ false
  pub there : calls_missing core.origin.table c.pp.disk ≡ false
  -- it counts as stale since the session began, so that staleness that is wanted of it needs no fault
  pub called : calls_stale core.origin.table c.pp ≡ true
  pub clear : is_running c ≡ true → is_whole core c ≡ true → is_wanted_stale core c.pp ≡ false
  pub fresh : list_any (stays_fresh core) (copies_in core.descriptor c.lv c.lp) ≡ true
  -- it never ends as done, which is judged of it
  pub ends : c.end ≡ Some ending.Done → ⊥

-- what holds of it by what it is
abbrev pub IsOfKind : Bool → Core → OpenCopy → Type 0
IsOfKind false core c = IsStaleCopy core c
IsOfKind true core c = IsMove core c

-- The copy that is open is a copy of its logical partition, and no earlier request is in its way once it is under way.
pub record IsCopy (core : Core) (c : OpenCopy) : Type 0 where
  pub row : LvRow
  pub volume : volume_of core.descriptor c.lv ≡ Some row
  pub lp : c.lp < row.lps
  pub kind : IsOfKind c.moves core c
  pub cursor : c.cursor ≤ groups_of core
  pub faults : length c.faults ≡ 4
  -- its step stands behind a request that began, and before the next one
  pub place : (id : ℕ) × (id < next_id core.history) × (c.place ≡ place_of id + 1)
  pub room : IfSome (hand_of c.step) (λ (buf : Buffer). length buf.sectors ≡ 256)
  pub free : is_idle c.step ≡ false → is_free_step core c ≡ true
  -- one that has ended has nothing in hand
  pub hand : is_running c ≡ false → hand_of c.step ≡ None
  -- only other copies of the logical partition are tried, and read
  pub tried : (disk : ℕ) → has c.tried disk ≡ true → list_any (λ (p : Pp). not (is_pp p c.pp) && p.disk == disk) (copies_in core.descriptor c.lv c.lp) ≡ true
  pub source : IsReadFrom c.step (copies_in core.descriptor c.lv c.lp) c
  -- a step that is under way copies a track group, so it isn't whole yet
  pub under_way : is_running c ≡ true → is_idle c.step ≡ false → is_whole core c ≡ false

-- the open copy is whole, and its clearing is wanted
abbrev pub is_clearing : Core → Pp → Bool
is_clearing core p = option_map_or (λ (c : OpenCopy). is_running c && is_whole core c && is_pp p c.pp) core.copy false

-- ---- while it is on

-- it was fresh when the session began, or isn't stale by all three
abbrev pub may_be_fresh : Core → Pp → Bool
may_be_fresh core p = was_fresh core p || not (is_settled core p && is_wanted_stale core p)

-- what holds of it alone
pub record IsGoing (core : Core) : Type 0 where
  pub fitting : IsFitting core
  pub told : IsTold core
  pub status : IsSoundStatus (seen core.status)
  pub owned : AreOwned core
  pub tickets : HaveTickets core.flying
  pub queue : core.queue.rows ≡ rows_of core
  pub pinned : (lv group : ℕ) → pins_of core.cache.entries lv group ≡ count_by (pins lv group) core.requests
  pub requests : AllByRecursion (IsOpenOne core) core.requests
  pub copy : IfSome core.copy (IsCopy core)
  -- what is in hand is out (as `buffers` says with the shelf)
  pub hands : (n : ℕ) → hands_with core n ≤ count_if (slice_index_or core.pool n false)
  -- nothing that missing disks entail is left to be wanted, and the copy isn't left to end
  pub behind : (p : Pp) → is_entailed core p ≡ true → is_wanted_stale core p ≡ true
  pub reviewed : copy_ends core ≡ None
  -- a logical partition of which a copy may be fresh has one that is
  pub fresh : (lv lp : ℕ) → list_any (may_be_fresh core) (copies_in core.descriptor lv lp) ≡ true → list_any (stays_fresh core) (copies_in core.descriptor lv lp) ≡ true
  -- only the open copy is to be cleared
  pub clearings : (p : Pp) → is_held_stale core p ≡ true → is_wanted_stale core p ≡ false → is_clearing core p ≡ true
  -- there are numbers for all updates that may follow
  pub numbers : core.status.stamp.seq + updates_left core < 2 ^ 32

-- and of it and its shelf
pub record IsOn (s : State) : Type 0 where
  pub going : IsGoing s.core
  pub rows : AreRows s.core s.core.flying s.device.flights
  pub caused : AllByRecursion (AreCaused s.device s.core) s.core.requests
  pub chosen : IfSome s.core.copy (λ (c : OpenCopy). AllByRecursion (IsChosenSince s.core c) s.core.requests)

-- ---- all of it

-- the power was cut
abbrev pub is_dark : Power → Bool
is_dark power.On = false
is_dark power.Off = false
is_dark power.Dark = true
is_dark power.Stuck = false

-- the shelf while the session isn't dark
pub record HasPower (device : Device) : Type 0 where
  pub power : device.power ≡ true
  pub freed : device.freed ≡ []

-- the shelf once it is
pub record IsDark (device : Device) : Type 0 where
  pub power : device.power ≡ false
  pub flights : device.flights ≡ []

-- where it is over each request has landed, the copy has ended, and nothing is out
pub record IsOver (s : State) : Type 0 where
  pub landed : AllByRecursion IsLanded s.core.requests
  pub copy : IfSome s.core.copy (λ (c : OpenCopy). (is_running c ≡ false) × (c.step ≡ step.Idle))
  pub flights : s.device.flights ≡ []
  pub flying : s.core.flying ≡ []

-- neither a request nor a copy is open
pub record HasNoneOpen (core : Core) : Type 0 where
  pub requests : core.requests ≡ []
  pub copy : core.copy ≡ None

-- The request has nothing in hand; it has landed, or waits for admission and has neither a target nor a pin.
pub record IsUnbegun (o : Open) : Type 0 where
  pub hand : o.got ≡ None
  pub over : is_waiting o ≡ false → IsLanded o
  pub waits : is_waiting o ≡ true → (o.request.phase ≡ phase.Held) × (o.request.targets.items ≡ []) × (o.request.pinned ≡ false)

-- no request is admitted that hasn't landed, and the copy has nothing in hand
pub record HasNoneBegun (core : Core) : Type 0 where
  pub requests : AllByRecursion IsUnbegun core.requests
  pub copy : IfSome core.copy (λ (c : OpenCopy). c.step ≡ step.Idle)

-- What holds of a session and its shelf at every moment.
pub record IsSound (s : State) : Type 0 where
  pub fitting : IsFitting s.core
  pub told : IsTold s.core
  -- the members that weren't missing when it began are on the shelf
  pub placed : ArePlaced s.device.sizes s.core.descriptor s.core.origin.table
  -- each buffer is in the pool or out, at one place, unless a power cut has lost it
  pub buffers : (n : ℕ) → out_with s.device s.core n ≤ count_if (slice_index_or s.core.pool n false)
  pub none_lost : is_dark s.core.power ≡ false → (n : ℕ) → out_with s.device s.core n ≡ count_if (slice_index_or s.core.pool n false)
  pub on : s.core.power ≡ power.On → IsOn s
  pub lit : is_dark s.core.power ≡ false → HasPower s.device
  pub dark : is_dark s.core.power ≡ true → IsDark s.device
  -- it is off where the members that aren't missing have too few votes to write
  pub off : s.core.power ≡ power.Off → is_lost s.core ≡ true
  pub over : is_over s.core.power ≡ true → IsOver s
  -- of a session that is stuck nothing has begun that hasn't ended but what wasn't heard of
  pub stuck : s.core.power ≡ power.Stuck → HasNoneBegun s.core
  -- why each request that has landed did so, why the copy ended, and why disks are missing and copies stale
  pub counted : AllByRecursion (AreCounted s) s.core.requests
  pub answered : AllByRecursion (IsAnswered s) s.core.requests
  pub copy : IfSome s.core.copy (λ (c : OpenCopy). IsCausedAmong s (copies_in s.core.descriptor c.lv c.lp) c)
  pub origin : IsTrueToOrigin s
