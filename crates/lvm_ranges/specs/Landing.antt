-- Turns until all pieces of a range have landed.
use Rattle.std.specs.Prelude.{◌≡◌, ◌⊎◌, ◌<◌, ◌+◌, ℕ, true, false, Result, Ok, Err}
use Rattle.lvm_vol.specs.Log.{is_open}
use Rattle.lvm_session.specs.declared.answers.Turned.TheVariants as turned
use Rattle.lvm_session.specs.State.{State}
use Rattle.lvm_driver.specs.passed.Going.{RunsOn}
use Rattle.lvm_keeps_events.specs.Losing.{LosesVotesByFaults}
use Rattle.lvm_driver.specs.Drains.{IsTurn, LastTurn, TurnsWhile}
use Rattle.lvm_posts.specs.declared.asked.Asked.{Asked}
use Rattle.lvm_ranges.specs.declared.landing.Stuck.{Stuck}
use Rattle.lvm_ranges.specs.Keeping.{KeepsTable}

-- each of its pieces has landed
abbrev pub HavePiecesLanded : Asked → State → Type 0
HavePiecesLanded asked s = (k : ℕ) → k < asked.pieces → is_open s.core.history.facts (asked.first + k) ≡ false

-- some piece hasn't
pub record IsUnfinished (asked : Asked) (s : State) : Type 0 where
  pub piece : ℕ
  pub within : piece < asked.pieces
  pub waits : is_open s.core.history.facts (asked.first + piece) ≡ true

-- A turn that is made while some piece hasn't landed: a path of these makes no turn more once all have.
abbrev pub TurnsFor : Asked → State → State → Type 0
TurnsFor asked old new = IsUnfinished asked old × IsTurn old new

-- The same requests stay in the table, the session goes on, and its votes are lost by faults alone.
pub record TurnsLeave (old new : State) : Type 0 where
  pub table : KeepsTable old.core new.core
  pub runs : RunsOn old new
  pub votes : LosesVotesByFaults old new

-- All pieces have landed; or some hasn't, and the patience has run out.
abbrev pub AwaitEnds : Asked → ℕ → State → Result (Unit {0}) Stuck → Type 0
AwaitEnds asked left new (Ok done) = HavePiecesLanded asked new
AwaitEnds asked left new (Err stuck) = IsUnfinished asked new × (left ≡ 0)

-- The turns are those while some piece hasn't landed, each that waits for one of the patience, and perhaps a last one with which the session is over.
abbrev pub AwaitCosts : Asked → ℕ → ℕ → State → State → Result (Unit {0}) Stuck → Type 0
AwaitCosts asked patience left old new (Ok done) =
    TurnsWhile (IsUnfinished asked) patience old left new ⊎ LastTurn (IsUnfinished asked) patience left old new turned.Dark ⊎ LastTurn (IsUnfinished asked) patience left old new turned.Off
AwaitCosts asked patience left old new (Err stuck) = TurnsWhile (IsUnfinished asked) patience old left new
