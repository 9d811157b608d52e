-- What a history keeps and how much room is left in it.
use Rattle.std.specs.Prelude.{◌≡◌, ℕ, ◌+◌, ◌-◌, ◌*◌, Bool, true, false, ◌&&◌, ◌==◌, not, if◌then◌else◌, List, [], ◌∷◌, ◌++◌, count_by, Option, Some, None, is_some, unwrap_or, slice_index_or, replicate}
use Rattle.std.specs.List.{find, filter_map, flat_map, list_any, sum_by}
use Rattle.std.specs.Simd.{first_chunks}
use Rattle.lvm_num.specs.Buffer.{zero_sector}
use Rattle.lvm_vol.specs.declared.entry.Vol.{Vol}
use Rattle.lvm_vol.specs.declared.entry.Vol.TheVariants.{Disk}
use Rattle.lvm_vol.specs.declared.entry.Outcome.{Outcome}
use Rattle.lvm_vol.specs.declared.entry.Outcome.TheVariants as outcome
use Rattle.lvm_vol.specs.declared.entry.Entry.{Entry}
use Rattle.lvm_vol.specs.declared.entry.Entry.TheVariants as entry
use Rattle.lvm_vol.specs.Facts.{Request, Fact, Making, Made, Split, Removing, Removed, Begun, Landed, Taken, Cut, On, begun}
use Rattle.lvm_vol.specs.Legal.{begins_in}

-- what contracts see of a history: its run, its entries with their data, its room in entries and in bytes
pub record Log : Type 0 where
  pub run : ℕ
  pub facts : List Fact
  pub room : ℕ
  pub bytes : ℕ

-- a history of a run, with this room and no entries
abbrev pub empty_log : ℕ → ℕ → ℕ → Log
empty_log run room bytes = record { run = run; facts = []; room = room; bytes = bytes }

-- the history with these entries
abbrev pub log_with : Log → List Fact → Log
log_with log facts = record log { facts = facts }

-- the history's run and rooms alone
abbrev pub without_facts : Log → Log
without_facts log = log_with log []

-- the history with one entry more
abbrev pub with_fact : Log → Fact → Log
with_fact log f = record log { facts = log.facts ++ f ∷ [] }

-- the number of the run's next request
abbrev pub next_id : Log → ℕ
next_id log = count_by (begins_in log.run) log.facts + 1

-- a write's data, as so many blocks of 512 bytes
abbrev pub blocks_given : ℕ → Option (List ℕ) → List (List ℕ)
blocks_given count None = []
blocks_given count (Some bytes) = first_chunks 512 count bytes

-- the request that is next, a write where bytes are given
abbrev pub next_request : Log → ℕ → Vol → ℕ → ℕ → Option (List ℕ) → Request
next_request log client vol at count bytes =
    record { run = log.run; id = next_id log; client = client; vol = vol; at = at; count = count; write = is_some bytes; blocks = blocks_given count bytes }

abbrev pub has_id : ℕ → Request → Bool
has_id id r = r.id == id

-- the request that began with this number
abbrev pub asked : List Fact → ℕ → Option Request
asked facts id = find (has_id id) (begun facts)

abbrev pub no_request : Request
no_request = record { run = 0; id = 0; client = 0; vol = Disk 0; at = 0; count = 0; write = false; blocks = [] }

abbrev pub request_of : List Fact → ℕ → Request
request_of facts id = unwrap_or (asked facts id) no_request

abbrev pub lands_id : ℕ → Fact → Bool
lands_id id (Landed r how started got) = r.id == id
lands_id id _ = false

abbrev pub takes_id : ℕ → Fact → Bool
takes_id id (Taken r) = r.id == id
takes_id id _ = false

-- the request has begun and not landed
abbrev pub is_open : List Fact → ℕ → Bool
is_open facts id = is_some (asked facts id) && not (list_any (lands_id id) facts)

-- each request that has begun has landed
abbrev pub HaveAllLanded : List Fact → Type 0
HaveAllLanded facts = (id : ℕ) → is_open facts id ≡ false

-- how many blocks an open read waits for
abbrev pub awaited : List Fact → ℕ → Option ℕ
awaited facts id = if is_open facts id && not (request_of facts id).write then Some (request_of facts id).count else None

-- the client's request has landed and its answer isn't taken
abbrev pub is_answered : List Fact → ℕ → ℕ → Bool
is_answered facts client id = is_some (asked facts id) && (request_of facts id).client == client && list_any (lands_id id) facts && not (list_any (takes_id id) facts)

abbrev pub is_got : Outcome → Bool
is_got outcome.Got = true
is_got _ = false

-- the blocks at the request's place before it lands
abbrev pub blocks_begun_with : Request → List (List ℕ)
blocks_begun_with r = if r.write then r.blocks else replicate r.count zero_sector

-- what a request gets that lands so without bytes: nothing, or for a Got what stands at its place
abbrev pub got_without_bytes : Request → Outcome → List (List ℕ)
got_without_bytes r how = if is_got how then blocks_begun_with r else []

-- the entry by which the request of this number lands so, without bytes
abbrev pub landed_fact : List Fact → ℕ → Outcome → Bool → Fact
landed_fact facts id how started = Landed (request_of facts id) how started (got_without_bytes (request_of facts id) how)

-- the entry by which the read of this number lands with these bytes
abbrev pub got_fact : List Fact → ℕ → List ℕ → Fact
got_fact facts id bytes = Landed (request_of facts id) outcome.Got true (first_chunks 512 (request_of facts id).count bytes)

-- the entry by which the answer of the request of this number is taken
abbrev pub taken_fact : List Fact → ℕ → Fact
taken_fact facts id = Taken (request_of facts id)

-- the entries that are pushed as they are
abbrev pub is_plain : Entry → Bool
is_plain (entry.Begun client id vol at count write place) = false
is_plain (entry.Landed id how started) = false
is_plain (entry.Taken client id) = false
is_plain entry.Cut = false
is_plain _ = true

abbrev pub plain_fact : Entry → Fact
plain_fact (entry.Making lv blocks mode) = Making lv blocks mode
plain_fact (entry.Made lv) = Made lv
plain_fact (entry.Split from lv) = Split from lv
plain_fact (entry.Removing vol) = Removing vol
plain_fact (entry.Removed vol) = Removed vol
plain_fact (entry.On moment) = On moment
plain_fact (entry.Begun client id vol at count write place) = Cut
plain_fact (entry.Landed id how started) = Cut
plain_fact (entry.Taken client id) = Cut
plain_fact entry.Cut = Cut

-- the entries that a request needs from its Begun on, its Landed and Taken among them; any other needs its own
abbrev pub need : Fact → ℕ
need (Begun r) = 3
need (Landed r how started got) = 0
need (Taken r) = 0
need _ = 1

-- the entries that stand, with those that the requests which began will need
abbrev pub needed : List Fact → ℕ
needed facts = sum_by need facts

abbrev pub is_waiting : List Fact → Request → Bool
is_waiting facts r = not (list_any (lands_id r.id) facts)

abbrev pub is_landed : List Fact → Request → Bool
is_landed facts r = list_any (lands_id r.id) facts && not (list_any (takes_id r.id) facts)

-- how many requests have begun and not landed
abbrev pub open_count : List Fact → ℕ
open_count facts = count_by (is_waiting facts) (begun facts)

-- how many have landed and aren't taken
abbrev pub landed_count : List Fact → ℕ
landed_count facts = count_by (is_landed facts) (begun facts)

-- how many entries are free; one is always kept for a Cut
abbrev pub spare_entries : Log → ℕ
spare_entries log = log.room - needed log.facts - 1

-- how many blocks the requests that began have
abbrev pub blocks_begun : List Fact → ℕ
blocks_begun facts = sum_by (λ r. r.count) (begun facts)

abbrev pub spare_bytes : Log → ℕ
spare_bytes log = log.bytes - 512 * blocks_begun log.facts

-- something was entered since the last Cut that a Cut would end
abbrev pub is_uncut_after : Bool → Fact → Bool
is_uncut_after b (Begun r) = true
is_uncut_after b (Making lv blocks m) = true
is_uncut_after b (Removing vol) = true
is_uncut_after b (On moment) = true
is_uncut_after b Cut = false
is_uncut_after b _ = b

abbrev pub is_uncut_from : Bool → List Fact → Bool
is_uncut_from b [] = b
is_uncut_from b (f ∷ facts) = is_uncut_from (is_uncut_after b f) facts

abbrev pub is_uncut : List Fact → Bool
is_uncut facts = is_uncut_from false facts

-- the history with a Cut, if there is something to end
abbrev pub cut_log : Log → Log
cut_log log = if is_uncut log.facts then with_fact log Cut else log

-- what the read of this number got
abbrev pub got_by : ℕ → Fact → Option (List (List ℕ))
got_by id (Landed r how started got) = if is_got how && (r.id == id) then Some got else None
got_by id _ = None

-- the blocks at the request's place: a write's data, what a read got, or zeros
abbrev pub held : List Fact → Request → List (List ℕ)
held facts r = if r.write then r.blocks else slice_index_or (filter_map (got_by r.id) facts) 0 (replicate r.count zero_sector)

-- the blocks of all requests that began, one behind the other; a place is an index of this list
abbrev pub blocks_of : List Fact → List (List ℕ)
blocks_of facts = flat_map (held facts) (begun facts)

-- the entry of a fact, of which a request's blocks begin at this place
abbrev pub entry_at : ℕ → Fact → Entry
entry_at place (Begun r) = entry.Begun r.client r.id r.vol r.at r.count r.write place
entry_at place (Making lv blocks m) = entry.Making lv blocks m
entry_at place (Made lv) = entry.Made lv
entry_at place (Split from lv) = entry.Split from lv
entry_at place (Removing vol) = entry.Removing vol
entry_at place (Removed vol) = entry.Removed vol
entry_at place (Landed r how started got) = entry.Landed r.id how started
entry_at place (Taken r) = entry.Taken r.client r.id
entry_at place Cut = entry.Cut
entry_at place (On moment) = entry.On moment

-- where the next request's blocks begin
abbrev pub place_after : ℕ → Fact → ℕ
place_after place (Begun r) = place + r.count
place_after place _ = place

abbrev pub entries_from : ℕ → List Fact → List Entry
entries_from place [] = []
entries_from place (f ∷ facts) = entry_at place f ∷ entries_from (place_after place f) facts

-- the entries as they are listed, each request's place behind those of the requests before it
abbrev pub entries_of : List Fact → List Entry
entries_of facts = entries_from 0 facts
