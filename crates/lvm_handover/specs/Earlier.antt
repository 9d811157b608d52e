-- The answers of a range whose session is gone, taken while another one is on.
use Rattle.std.specs.Prelude.{◌≡◌, ◌<◌, ◌+◌, ◌++◌, ℕ, false}
use Rattle.std.specs.List.{list_any}
use Rattle.lvm_session.specs.declared.open.Power.TheVariants as power
use Rattle.lvm_session.specs.Calls.{is_asked}
use Rattle.lvm_session.specs.Sound.{IsSound}
use Rattle.lvm_session.specs.State.{Core, State, state}
use Rattle.lvm_ranges.specs.passed.Posts.{Asked, AreAnswered, takings}
use Rattle.lvm_ranges.specs.passed.Tie.{RunsOn}

-- none of its pieces is a request of the table
abbrev pub AreGone : Core → Asked → Type 0
AreGone core asked = (k : ℕ) → k < asked.pieces → list_any (is_asked 1 (asked.first + k)) core.requests ≡ false

-- the session once its answers were taken: they are entered, and nothing else changes
abbrev pub with_taken : Asked → Core → Core
with_taken asked core = record core { history = record core.history { facts = core.history.facts ++ takings core.history.facts asked.first asked.pieces } }

-- it is sound, and the one that was on runs on
pub record StaysBeside (old new : State) : Type 0 where
  pub sound : IsSound new
  pub runs : old.core.power ≡ power.On → RunsOn old new

-- The answers of an earlier session leave a session sound, and running on where it is on.
abbrev pub EarlierStaysBeside : Type 0
EarlierStaysBeside = (s : State) (asked : Asked) → IsSound s → AreAnswered s.core.history.facts asked → AreGone s.core asked → StaysBeside s (state s.device (with_taken asked s.core))
