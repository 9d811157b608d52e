-- How often a run asks the clock.
use Rattle.std.specs.Prelude.{◌≡◌, ◌⊎◌, ◌++◌, ◌∷◌, ℕ, [], List, Option, Some, None}
use Rattle.lvm_io.specs.Count.{next_count}
use Rattle.lvm_vol.specs.Log.{Log}
use Rattle.lvm_core.specs.declared.parts.Room.{Room}
use Rattle.lvm_parse.specs.Grammar.{line_of}
use Rattle.lvm_line.specs.Lines.{asked_after}
use Rattle.lvm_line.specs.passed.GroupLines.{ScriptState}
use Rattle.lvm_top.specs.Script.{Passage}
use Rattle.lvm_top.specs.Statuses.{GoesUntil}
use Rattle.lvm_top.specs.declared.script.Stop.{Stop}

-- the clock's last moment before a call, and how often it was asked before the call and behind it
pub record Clocked : Type 0 where
  pub last : ℕ
  pub before : ℕ
  pub behind : ℕ

abbrev pub clocked : {C : Type 0} → (C → ℕ) → (C → ℕ) → C → C → Clocked
clocked last asked old new = record { last = last old; before = asked old; behind = asked new }

-- how often it has been asked after these lines: once more by each `mkvg` and `varyonvg`
abbrev pub asked_by : List (List ℕ) → ℕ → ℕ
asked_by [] asked = asked
asked_by (line ∷ lines) asked = asked_by lines (asked_after (line_of line) asked)

-- A run asks it once as it begins, and once more for each such line that it does; without a history once at most.
abbrev pub AsksForLines : Clocked → List (List ℕ) → Option Log → Type 0
AsksForLines clock lines None = (clock.behind ≡ clock.before) ⊎ (clock.behind ≡ next_count clock.before)
AsksForLines clock lines (Some log) = clock.behind ≡ asked_by lines (next_count clock.before)

-- The lines of a source were done so, and the clock was asked for them alone.
pub record GoesAsking (why : Option Stop) (log : Log) (room : Room) (first last : ScriptState) (input output : Passage) (refused before behind : ℕ) : Type 0 where
  pub goes : GoesUntil why log room first last input output refused
  pub asked : behind ≡ asked_by (goes.lines.lines ++ goes.lines.done) before
