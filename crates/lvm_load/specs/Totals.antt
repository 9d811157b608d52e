-- How the requests of a workload ended, by the entries of the history.
use Rattle.std.specs.Prelude.{ℕ, ◌-◌, Bool, true, false, List, count_by, drop}
use Rattle.lvm_vol.specs.declared.entry.Entry.{Entry}
use Rattle.lvm_vol.specs.declared.entry.Entry.TheVariants as entry
use Rattle.lvm_vol.specs.declared.entry.Outcome.{Outcome}
use Rattle.lvm_vol.specs.declared.entry.Outcome.TheVariants as outcome
use Rattle.lvm_vol.specs.Facts.{Fact}
use Rattle.lvm_vol.specs.Log.{entries_of}
use Rattle.lvm_load.specs.declared.totals.Kind.{Kind}
use Rattle.lvm_load.specs.declared.totals.Kind.TheVariants as kind
use Rattle.lvm_load.specs.declared.totals.Totals.{Totals}

-- how a request that landed so counts: a write as done or lost, a read as got, and else as refused
abbrev pub kind_of : Outcome → Kind
kind_of outcome.Done = kind.Done
kind_of outcome.Got = kind.Got
kind_of outcome.Lost = kind.Lost
kind_of outcome.ReadFailed = kind.Refused
kind_of outcome.NoFresh = kind.Refused
kind_of outcome.Off = kind.Refused
kind_of outcome.Dark = kind.Refused

abbrev pub is_same : Kind → Kind → Bool
is_same kind.Begun kind.Begun = true
is_same kind.Begun b = false
is_same kind.Done kind.Done = true
is_same kind.Done b = false
is_same kind.Got kind.Got = true
is_same kind.Got b = false
is_same kind.Lost kind.Lost = true
is_same kind.Lost b = false
is_same kind.Refused kind.Refused = true
is_same kind.Refused b = false

-- an entry counts so: a request's beginning, or its landing
abbrev pub is_of : Kind → Entry → Bool
is_of k (entry.Begun client id vol at count write place) = is_same kind.Begun k
is_of k (entry.Landed id how started) = is_same (kind_of how) k
is_of k (entry.Making lv blocks mode) = false
is_of k (entry.Made lv) = false
is_of k (entry.Split from lv) = false
is_of k (entry.Removing vol) = false
is_of k (entry.Removed vol) = false
is_of k (entry.Taken client id) = false
is_of k entry.Cut = false
is_of k (entry.On moment) = false

-- how many of these entries are of each kind, for a workload of so many requests
abbrev pub totals_of : ℕ → List Entry → Totals
totals_of requests entries = record {
  begun = count_by (is_of kind.Begun) entries;
  done = count_by (is_of kind.Done) entries;
  got = count_by (is_of kind.Got) entries;
  lost = count_by (is_of kind.Lost) entries;
  refused = count_by (is_of kind.Refused) entries;
  unbegun = requests - count_by (is_of kind.Begun) entries;
}

-- what a history tells since it had so many entries
abbrev pub entries_since : ℕ → List Fact → List Entry
entries_since n facts = drop n (entries_of facts)
