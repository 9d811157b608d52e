-- What the rows of a history stand for.
use Rattle.std.specs.Prelude.{◌≡◌, ◌==◌, ℕ, ◌+◌, ◌-◌, ◌*◌, ◌/◌, ◌^◌, ◌<◌, ◌≤◌, Bool, true, false, if◌then◌else◌, List, [], ◌∷◌, length, map, take, drop, slice_index_or, slice_get, not, ◌&&◌, Option, Some, None, replicate}
use Rattle.std.specs.Simd.{first_chunks}
use Rattle.lvm_vol.specs.passed.Num.{zero_sector}
use Rattle.lvm_vol.specs.declared.entry.Vol.TheVariants.{Disk}
use Rattle.lvm_vol.specs.declared.entry.Entry.{Entry}
use Rattle.lvm_vol.specs.declared.entry.Entry.TheVariants as entry
use Rattle.lvm_allowed.specs.declared.row.Ask.{Ask}
use Rattle.lvm_allowed.specs.declared.row.Row.{Row}
use Rattle.lvm_allowed.specs.declared.row.Row.TheVariants as row
use Rattle.lvm_vol.specs.Facts.{Request, Fact, Making, Made, Split, Removing, Removed, Begun, Landed, Taken, Cut, On}
use Rattle.lvm_vol.specs.Order.{Ordered}
use Rattle.lvm_vol.specs.Log.{Log, is_got, needed, is_uncut, blocks_of}

abbrev pub no_ask : Ask
no_ask = record { client = 0; vol = Disk 0; at = 0; count = 0; write = false; place = 0 }

abbrev pub ask_of : List Ask → ℕ → Ask
ask_of asks id = slice_index_or asks (id - 1) no_ask

-- the blocks at a request's place
abbrev pub blocks_at : List (List ℕ) → Ask → List (List ℕ)
blocks_at blocks a = take a.count (drop a.place blocks)

-- the request of this number, as it was asked, with these blocks at its place
abbrev pub request_from : ℕ → ℕ → Ask → List (List ℕ) → Request
request_from run id a blocks =
    record { run = run; id = id; client = a.client; vol = a.vol; at = a.at; count = a.count; write = a.write; blocks = if a.write then blocks else [] }

abbrev pub request_in : ℕ → List Ask → List (List ℕ) → ℕ → Request
request_in run asks blocks id = request_from run id (ask_of asks id) (blocks_at blocks (ask_of asks id))

-- the row with its data
abbrev pub fact_of : ℕ → List Ask → List (List ℕ) → Row → Fact
fact_of run asks blocks (row.Making lv size mode) = Making lv size mode
fact_of run asks blocks (row.Made lv) = Made lv
fact_of run asks blocks (row.Split from lv) = Split from lv
fact_of run asks blocks (row.Removing vol) = Removing vol
fact_of run asks blocks (row.Removed vol) = Removed vol
fact_of run asks blocks (row.Begun id) = Begun (request_in run asks blocks id)
fact_of run asks blocks (row.Landed id how started) = Landed (request_in run asks blocks id) how started (if is_got how then blocks_at blocks (ask_of asks id) else [])
fact_of run asks blocks (row.Taken client id) = Taken (record (request_in run asks blocks id) { client = client })
fact_of run asks blocks row.Cut = Cut
fact_of run asks blocks (row.On moment) = On moment

abbrev pub facts_of : ℕ → List Ask → List (List ℕ) → List Row → List Fact
facts_of run asks blocks rows = map (fact_of run asks blocks) rows

abbrev pub is_landing : ℕ → Row → Bool
is_landing id (row.Landed landed how started) = landed == id
is_landing id _ = false

abbrev pub is_taking : ℕ → Row → Bool
is_taking id (row.Taken client taken) = taken == id
is_taking id _ = false
