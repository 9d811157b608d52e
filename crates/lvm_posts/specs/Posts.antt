-- Ranges whose session is gone: their answers are read from the history.
use Rattle.std.specs.Prelude.{◌≡◌, ◌<◌, ◌+◌, ◌++◌, ◌==◌, ℕ, zero, suc, true, if◌then◌else◌, List, [], ◌∷◌, Option, Some, None, unwrap_or}
use Rattle.std.specs.List.{list_any}
use Rattle.lvm_vol.specs.declared.entry.Entry.{Entry}
use Rattle.lvm_vol.specs.declared.entry.Entry.TheVariants as entry
use Rattle.lvm_vol.specs.declared.entry.Outcome.{Outcome}
use Rattle.lvm_vol.specs.Facts.{Fact}
use Rattle.lvm_vol.specs.Log.{is_answered, taken_fact}
use Rattle.lvm_session.specs.Calls.{is_asked}
use Rattle.lvm_session.specs.Causes.{is_over}
use Rattle.lvm_session.specs.Sound.{IsSound}
use Rattle.lvm_session.specs.State.{Core, State}
use Rattle.lvm_posts.specs.declared.asked.Asked.{Asked}
use Rattle.lvm_posts.specs.declared.posts.Post.{Post}

-- the table of the session has the requests of all its pieces
abbrev pub AreHeld : Core → Asked → Type 0
AreHeld core asked = (k : ℕ) → k < asked.pieces → list_any (is_asked 1 (asked.first + k)) core.requests ≡ true

-- each of its pieces has landed, and its answer isn't taken
abbrev pub AreAnswered : List Fact → Asked → Type 0
AreAnswered facts asked = (k : ℕ) → k < asked.pieces → is_answered facts 1 (asked.first + k) ≡ true

-- the entries by which the answers of so many requests from this number on are taken
abbrev pub takings : List Fact → ℕ → ℕ → List Fact
takings facts id zero = []
takings facts id (suc n) = takings facts id n ++ taken_fact facts (id + n) ∷ []

-- how the request of this number has landed, where this entry tells it
abbrev pub landing_by : ℕ → Entry → Option Outcome
landing_by id (entry.Landed landed how started) = if landed == id then Some how else None
landing_by id (entry.Making lv blocks mode) = None
landing_by id (entry.Made lv) = None
landing_by id (entry.Split from lv) = None
landing_by id (entry.Removing vol) = None
landing_by id (entry.Removed vol) = None
landing_by id (entry.Begun client begun vol at count write place) = None
landing_by id (entry.Taken client taken) = None
landing_by id entry.Cut = None
landing_by id (entry.On moment) = None

-- a post whose session has ended with so many votes of so many, where it hadn't ended before
abbrev pub ended_with : ℕ → ℕ → Post → Post
ended_with have total post = record post { ended = Some (unwrap_or post.ended (have, total)) }

-- Once a session is over, the history that it leaves has the answers of each range that its table holds.
abbrev pub OverSessionsHaveAnswered : Type 0
OverSessionsHaveAnswered = (s : State) (asked : Asked) → IsSound s → is_over s.core.power ≡ true → AreHeld s.core asked → AreAnswered s.core.history.facts asked
