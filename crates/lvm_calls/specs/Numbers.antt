-- The numbers of the requests of a history.
use Rattle.std.specs.Prelude.{◌≡◌, ℕ, ◌+◌, Option, Some, None, count_by, take}
use Rattle.lvm_vol.specs.declared.entry.Entry.{Entry}
use Rattle.lvm_vol.specs.declared.entry.Entry.TheVariants as entry
use Rattle.lvm_vol.specs.Legal.{begins_in}
use Rattle.lvm_vol.specs.Log.{Log}

-- the number of the request that begins by the entry, if one does
abbrev pub number_of : Entry → Option ℕ
number_of (entry.Begun client id vol at count write place) = Some id
number_of (entry.Making lv blocks mode) = None
number_of (entry.Made lv) = None
number_of (entry.Split from lv) = None
number_of (entry.Removing vol) = None
number_of (entry.Removed vol) = None
number_of (entry.Landed id how started) = None
number_of (entry.Taken client id) = None
number_of entry.Cut = None
number_of (entry.On moment) = None

-- how many requests begin by the first entries, so many
abbrev pub begun_in : Log → ℕ → ℕ
begun_in log n = count_by (begins_in log.run) (take n log.facts)

-- The request that begins by the entry at an index has this number, so that as many have begun by then; or none begins by it.
abbrev pub IsNumberAt : Log → ℕ → Option ℕ → Type 0
IsNumberAt log k None = begun_in log (k + 1) ≡ begun_in log k
IsNumberAt log k (Some id) = begun_in log (k + 1) ≡ id
