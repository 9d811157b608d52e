-- Clients that wait for the requests that they have open. They are numbered from 1, and their places from 0.
use Rattle.std.specs.Prelude.{◌≡◌, ℕ, ◌+◌, ◌&&◌, Bool, true, List, Option, Some, None, slice_get}
use Rattle.std.specs.List.{list_any}
use Rattle.lvm_vol.specs.declared.entry.Entry.{Entry}
use Rattle.lvm_vol.specs.declared.entry.Entry.TheVariants as entry
use Rattle.lvm_vol.specs.Log.{entries_of}
use Rattle.lvm_session.specs.declared.open.Open.{Open}
use Rattle.lvm_session.specs.Calls.{is_asked}
use Rattle.lvm_session.specs.Judging.{is_waiting}
use Rattle.lvm_session.specs.State.{Core}
use Rattle.lvm_load.specs.declared.client.Client.{Client}
use Rattle.lvm_load.specs.Weaving.{open_of}

-- the request is this client's, and hasn't landed
abbrev pub waits_for : ℕ → ℕ → Open → Bool
waits_for client id o = is_asked client id o && is_waiting o

-- each client that has a request open has one in the table that waits
abbrev pub AreWaiting : Core → List Client → Type 0
AreWaiting core clients = (k id : ℕ) → open_of clients k ≡ Some id → list_any (waits_for (k + 1) id) core.requests ≡ true

-- so each that has another one open than this
abbrev pub AreWaitingBut : ℕ → Core → List Client → Type 0
AreWaitingBut id core clients = (k other : ℕ) → open_of clients k ≡ Some other → (other ≡ id → ⊥) → list_any (waits_for (k + 1) other) core.requests ≡ true

-- the request that landed by an entry
abbrev pub landed_by : Entry → Option ℕ
landed_by (entry.Landed id how started) = Some id
landed_by (entry.Begun client id vol at count write place) = None
landed_by (entry.Making lv blocks mode) = None
landed_by (entry.Made lv) = None
landed_by (entry.Split from lv) = None
landed_by (entry.Removing vol) = None
landed_by (entry.Removed vol) = None
landed_by (entry.Taken client id) = None
landed_by entry.Cut = None
landed_by (entry.On moment) = None

-- where a request landed by the entry behind the first n, all others wait
abbrev pub OthersWait : ℕ → Core → List Client → Type 0
OthersWait n core clients = (e : Entry) (id : ℕ) → slice_get (entries_of core.history.facts) n ≡ Some e → landed_by e ≡ Some id → AreWaitingBut id core clients
