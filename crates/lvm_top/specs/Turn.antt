-- How a line of a run is read, and how its reply is written.
use Rattle.std.specs.Prelude.{◌≡◌, ◌↔◌, ◌⊎◌, ◌≤◌, ◌<◌, ◌+◌, ◌++◌, ℕ, [], Bool, List, Option, Some, None, IfSome, false, if◌then◌else◌, length}
use Rattle.lvm_io.specs.Count.{Rose}
use Rattle.lvm_io.specs.Lines.{TakesFirst, has_feed}
use Rattle.lvm_io.specs.Reading.{Reading, to_come, lines_left, CountsGiven}
use Rattle.lvm_io.specs.Stream.{WhereTold}
use Rattle.lvm_line.specs.passed.GroupLines.{reply_text, refusals_of, IsStuck, Reply}
use Rattle.lvm_top.specs.Script.{Passage, Says}
use Rattle.lvm_top.specs.declared.script.Stop.{Stop}
use Rattle.lvm_top.specs.declared.script.Stop.TheVariants as stop

-- this holds of what was still to come of a source, and of what is
abbrev pub Comes : Reading → Reading → Passage → (List ℕ → List ℕ → Type 0) → Type 0
Comes old new input P = WhereTold (to_come old input.before.content) (to_come new input.after.content) P

-- the next line was read
pub record ReadsLine (old new : Reading) (input : Passage) (line : List ℕ) : Type 0 where
  pub line_is : Comes old new input (TakesFirst line)
  pub fewer : lines_left new < lines_left old
  pub given : CountsGiven old new input.before.content input.after.content
  pub within : new.given ≤ 16777216
  pub well : input.after.faults ≡ input.before.faults

-- no byte was given out, and of what was read nothing is left but the front of a line and at most so many bytes more
pub record KeepsFront (most : ℕ) (old new : Reading) (input : Passage) : Type 0 where
  pub same : Comes old new input (λ a b. b ≡ a)
  pub clean : has_feed new.front ≡ false
  pub few : length new.block ≤ most

-- no line was read, since none is left or for this reason
pub record ReadsNone (old new : Reading) (input : Passage) (why : Option Stop) : Type 0 where
  pub given : CountsGiven old new input.before.content input.after.content
  pub long : (why ≡ Some stop.TooLong) ↔ (16777216 < new.given)
  pub unwritten : why ≡ Some stop.SinkFault → ⊥
  pub unstuck : why ≡ Some stop.Stuck → ⊥
  pub ends : why ≡ None → Comes old new input (λ a b. (a ≡ []) × (b ≡ []))
  pub wanting : why ≡ Some stop.Memory → Comes old new input (λ a b. (b ≡ a) × (a ≡ [] → ⊥))
  pub behind : why ≡ Some stop.SourceFault → KeepsFront 0 old new input
  pub beyond : (why ≡ Some stop.TooLong) ⊎ (why ≡ Some stop.Memory) → KeepsFront 65536 old new input
  pub failed : why ≡ Some stop.SourceFault → Rose input.before.faults input.after.faults
  pub well : (why ≡ Some stop.SourceFault → ⊥) → input.after.faults ≡ input.before.faults

-- how much of a text was written, and that it was less than all only where the sink failed
pub record Wrote (text : List ℕ) (output : Passage) : Type 0 where
  pub front : List ℕ
  pub rest : List ℕ
  pub split : text ≡ front ++ rest
  pub written : WhereTold output.before.content output.after.content (λ a b. b ≡ a ++ front)
  pub in_full : (front ≡ text) ⊎ Rose output.before.faults output.after.faults

-- why a run ends with a line: nothing was heard of a transfer, or the sink failed
abbrev pub EndsFor : Passage → Stop → Type 0
EndsFor output why = (why ≡ stop.Stuck) ⊎ ((why ≡ stop.SinkFault) × Rose output.before.faults output.after.faults)

-- why it ends so, if it does, by whether nothing was heard and whether the sink failed
abbrev pub stop_after : Bool → Bool → Option Stop
stop_after stuck failed = if stuck then Some stop.Stuck else if failed then Some stop.SinkFault else None

-- a text was written whole, and the sink hasn't failed
pub record WroteAll (text : List ℕ) (output : Passage) : Type 0 where
  pub whole : WhereTold output.before.content output.after.content (λ a b. b ≡ a ++ text)
  pub well : output.after.faults ≡ output.before.faults

-- the reply to a line was written, and its refusals counted; the run goes on, or ends for this reason
pub record Tells (answer : Reply) (refused now : ℕ) (output : Passage) (why : Option Stop) : Type 0 where
  pub said : Reply
  pub says : Says answer said
  pub counted : now ≡ refused + refusals_of said
  pub text : Wrote (reply_text said) output
  pub stuck : (why ≡ Some stop.Stuck) ↔ IsStuck answer
  pub goes_on : why ≡ None → WroteAll (reply_text said) output
  pub ends : IfSome why (EndsFor output)
