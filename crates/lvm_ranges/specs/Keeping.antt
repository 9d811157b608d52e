-- What turns and calls leave of ranges that are asked for.
use Rattle.std.specs.Prelude.{◌≡◌, ◌⊎◌, ◌≤◌, ◌+◌, ℕ, true, false, is_some, length}
use Rattle.std.specs.List.{list_any}
use Rattle.lvm_vol.specs.Log.{asked as told, is_answered, is_open}
use Rattle.lvm_session.specs.declared.answers.Turned.{Turned}
use Rattle.lvm_session.specs.Calls.{is_asked}
use Rattle.lvm_session.specs.Sound.{IsSound}
use Rattle.lvm_session.specs.State.{Core, State}
use Rattle.lvm_session.specs.Turns.{TurnMakes}
use Rattle.lvm_posts.specs.declared.asked.Asked.{Asked}
use Rattle.lvm_posts.specs.Posts.{AreAnswered, AreHeld}
use Rattle.lvm_ranges.specs.Reading.{IsReadAt}

-- what has landed has, and reads stay what they are
pub record KeepsRequests (old new : Core) : Type 0 where
  pub landed : (id : ℕ) → is_open old.history.facts id ≡ false → is_open new.history.facts id ≡ false
  pub reads : (id place count : ℕ) → IsReadAt old.history.facts id place count → IsReadAt new.history.facts id place count

-- the same requests are in the table, and no answer is taken
pub record KeepsTable (old new : Core) : Type 0 where
  pub asked : (client id : ℕ) → list_any (is_asked client id) new.requests ≡ list_any (is_asked client id) old.requests
  pub long : length new.requests ≡ length old.requests
  pub answered : (client id : ℕ) → is_answered old.history.facts client id ≡ true → is_answered new.history.facts client id ≡ true
  pub requests : KeepsRequests old new

-- what was asked for before is in the table as it was, and no answer is taken
pub record KeepsEarlier (old new : Core) : Type 0 where
  pub held : (other : Asked) → AreHeld old other → AreHeld new other
  pub asked : (client id : ℕ) → is_some (told old.history.facts id) ≡ true → list_any (is_asked client id) new.requests ≡ list_any (is_asked client id) old.requests
  pub answered : (client id : ℕ) → is_answered old.history.facts client id ≡ true → is_answered new.history.facts client id ≡ true

-- the numbers of the one come before those of the other
abbrev pub AreApart : Asked → Asked → Type 0
AreApart a b = (a.first + a.pieces ≤ b.first) ⊎ (b.first + b.pieces ≤ a.first)

-- other ranges than this one stay in the table, or answered
pub record KeepsOthers (asked : Asked) (old new : Core) : Type 0 where
  pub held : (other : Asked) → AreApart asked other → AreHeld old other → AreHeld new other
  pub answered : (other : Asked) → AreApart asked other → AreAnswered old.history.facts other → AreAnswered new.history.facts other
  pub none : (client id : ℕ) → list_any (is_asked client id) old.requests ≡ false → list_any (is_asked client id) new.requests ≡ false
  pub requests : KeepsRequests old new

-- A turn of a sound session keeps the table.
abbrev pub TurnKeepsTable : Type 0
TurnKeepsTable = (old new : State) (answer : Turned) → IsSound old → TurnMakes old new answer → KeepsTable old.core new.core
