-- What a history keeps of its facts, and what holds of it.
use Rattle.std.specs.Prelude.{◌≡◌, ◌==◌, ℕ, ◌+◌, ◌-◌, ◌*◌, ◌/◌, ◌^◌, ◌<◌, ◌≤◌, Bool, true, false, if◌then◌else◌, List, [], ◌∷◌, length, map, take, drop, slice_index_or, slice_get, not, ◌&&◌, Option, Some, None, replicate}
use Rattle.std.specs.Simd.{first_chunks}
use Rattle.lvm_history.specs.passed.Vol.{zero_sector, Entry, Request, Fact, Making, Made, Split, Removing, Removed, Begun, Landed, Taken, Cut, On, begun, Ordered, Log, needed, is_uncut, blocks_of}
use Rattle.lvm_history.specs.passed.VolEntryVol.{Disk}
use Rattle.lvm_history.specs.passed.VolEntryEntry as entry
use Rattle.lvm_allowed.specs.declared.row.Ask.{Ask}
use Rattle.lvm_allowed.specs.declared.row.Row.{Row}
use Rattle.lvm_allowed.specs.declared.row.Row.TheVariants as row
use Rattle.lvm_allowed.specs.Rows.{ask_of, facts_of}

abbrev pub row_of : Fact → Row
row_of (Making lv size mode) = row.Making lv size mode
row_of (Made lv) = row.Made lv
row_of (Split from lv) = row.Split from lv
row_of (Removing vol) = row.Removing vol
row_of (Removed vol) = row.Removed vol
row_of (Begun r) = row.Begun r.id
row_of (Landed r how started got) = row.Landed r.id how started
row_of (Taken r) = row.Taken r.client r.id
row_of Cut = row.Cut
row_of (On moment) = row.On moment

abbrev pub ask_at : ℕ → Request → Ask
ask_at place r = record { client = r.client; vol = r.vol; at = r.at; count = r.count; write = r.write; place = place }

-- the requests, each with its blocks behind those of the ones before
abbrev pub asks_from : ℕ → List Request → List Ask
asks_from place [] = []
asks_from place (r ∷ rs) = ask_at place r ∷ asks_from (place + r.count) rs

abbrev pub if_uncut : Bool → ℕ
if_uncut true = 1
if_uncut false = 0

-- these rows, requests and blocks are what is kept of the facts
pub record IsKept (run : ℕ) (facts : List Fact) (rows : List Row) (asks : List Ask) (blocks : List (List ℕ)) : Type 0 where
  pub ordered : Ordered run [] facts
  pub its_rows : rows ≡ map row_of facts
  pub its_asks : asks ≡ asks_from 0 (begun facts)
  pub its_blocks : blocks ≡ blocks_of facts

-- there is room for what the facts need, and for a Cut while there is something to end
pub record IsRoomy (facts : List Fact) (room : ℕ) (need_now : ℕ) (uncut : Bool) : Type 0 where
  pub counted : need_now ≡ needed facts
  pub cuts : uncut ≡ is_uncut facts
  pub fits : need_now + if_uncut uncut ≤ room

-- all that a history keeps
pub record Holdings : Type 0 where
  pub run : ℕ
  pub room : ℕ
  pub bytes : ℕ
  pub rows : List Row
  pub asks : List Ask
  pub blocks : List (List ℕ)
  pub need_now : ℕ
  pub uncut : Bool
  pub rows_room : ℕ
  pub asks_room : ℕ
  pub blocks_room : ℕ

abbrev pub log_of : Holdings → Log
log_of h = record { run = h.run; facts = facts_of h.run h.asks h.blocks h.rows; room = h.room; bytes = h.bytes }

-- What holds of it: it is what is kept of its facts, and the memory that was made with it is enough.
pub record IsSound (h : Holdings) : Type 0 where
  pub its_own : IsKept h.run (log_of h).facts h.rows h.asks h.blocks
  pub roomy : IsRoomy (log_of h).facts h.room h.need_now h.uncut
  pub few : h.room < 2 ^ 32
  pub bytes_fit : 512 * length h.blocks ≤ h.bytes
  pub rows_fit : h.room ≤ h.rows_room
  pub asks_fit : h.room / 3 ≤ h.asks_room
  pub blocks_fit : h.bytes / 512 ≤ h.blocks_room

-- a row that begins a request names one of so many
abbrev pub IsOneOfAsks : Row → ℕ → Type 0
IsOneOfAsks (row.Begun id) n = (1 ≤ id) × (id ≤ n)
IsOneOfAsks _ n = Unit {0}

-- the entry of a row
abbrev pub entry_kept : List Ask → Row → Entry
entry_kept asks (row.Begun id) = entry.Begun (ask_of asks id).client id (ask_of asks id).vol (ask_of asks id).at (ask_of asks id).count (ask_of asks id).write (ask_of asks id).place
entry_kept asks (row.Making lv size mode) = entry.Making lv size mode
entry_kept asks (row.Made lv) = entry.Made lv
entry_kept asks (row.Split from lv) = entry.Split from lv
entry_kept asks (row.Removing vol) = entry.Removing vol
entry_kept asks (row.Removed vol) = entry.Removed vol
entry_kept asks (row.Landed id how started) = entry.Landed id how started
entry_kept asks (row.Taken client id) = entry.Taken client id
entry_kept asks row.Cut = entry.Cut
entry_kept asks (row.On moment) = entry.On moment

-- the blocks of a request when it begins: a write's data, or as many zeros
abbrev pub blocks_first : ℕ → Option (List ℕ) → List (List ℕ)
blocks_first count None = replicate count zero_sector
blocks_first count (Some bytes) = first_chunks 512 count bytes

-- the request of a number, if it began
abbrev pub ask_found : List Ask → ℕ → Option Ask
ask_found asks id = if id == 0 then None else slice_get asks (id - 1)

abbrev pub is_open_by : Option Ask → Bool → Bool
is_open_by None has_landed = false
is_open_by (Some a) has_landed = not has_landed

abbrev pub awaited_by : Option Ask → Bool → Option ℕ
awaited_by None has_landed = None
awaited_by (Some a) has_landed = if not has_landed && not a.write then Some a.count else None

abbrev pub is_answered_by : Option Ask → ℕ → Bool → Bool → Bool
is_answered_by None client has_landed has_taken = false
is_answered_by (Some a) client has_landed has_taken = a.client == client && has_landed && not has_taken
