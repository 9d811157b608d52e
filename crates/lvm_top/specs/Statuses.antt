-- How a run's status says why it ended.
use Rattle.std.specs.Prelude.{◌≡◌, ◌⊎◌, ◌==◌, if◌then◌else◌, ◌<◌, ◌≤◌, ◌+◌, ℕ, [], length, Option, Some, None}
use Rattle.lvm_io.specs.Count.{Rose}
use Rattle.lvm_io.specs.Stream.{WhereTold}
use Rattle.lvm_vol.specs.Log.{Log}
use Rattle.lvm_core.specs.declared.parts.Room.{Room}
use Rattle.lvm_line.specs.passed.GroupLines.{ScriptState}
use Rattle.lvm_top.specs.Script.{Passage, AreDone, AreAllRead, AreDoneBut, IsLineLeft, EndsHeard, EndsStuck}
use Rattle.lvm_top.specs.declared.status.ExitStatus.{ExitStatus}
use Rattle.lvm_top.specs.declared.status.ExitStatus.TheVariants as ended
use Rattle.lvm_top.specs.declared.script.Stop.{Stop}
use Rattle.lvm_top.specs.declared.script.Stop.TheVariants as stop

-- the number of a status
abbrev pub code_of : ExitStatus → ℕ
code_of ended.Well = 0
code_of ended.Refusals = 1
code_of ended.Usage = 2
code_of ended.SourceFault = 3
code_of ended.SinkFault = 4
code_of ended.Memory = 5
code_of ended.Stuck = 6
code_of ended.TooLong = 7

-- the input's end was reached, by whether a line was refused
abbrev pub at_end : ℕ → ExitStatus
at_end refused = if refused == 0 then ended.Well else ended.Refusals

-- the run read its input to the end
abbrev pub IsAtEnd : ExitStatus → Type 0
IsAtEnd ended.Well = Unit {0}
IsAtEnd ended.Refusals = Unit {0}
IsAtEnd other = ⊥

-- the status of a run that stopped for this
abbrev pub status_of : Option Stop → ℕ → ExitStatus
status_of None refused = at_end refused
status_of (Some stop.SourceFault) refused = ended.SourceFault
status_of (Some stop.SinkFault) refused = ended.SinkFault
status_of (Some stop.Memory) refused = ended.Memory
status_of (Some stop.Stuck) refused = ended.Stuck
status_of (Some stop.TooLong) refused = ended.TooLong

-- The lines of a source were done until all was read, or as many as were done before the run stopped for this.
pub record GoesUntil (why : Option Stop) (log : Log) (room : Room) (first last : ScriptState) (input output : Passage) (refused : ℕ) : Type 0 where
  pub lines : AreDone log room first last input output refused
  pub whole : why ≡ None → AreAllRead lines input
  pub between : (why ≡ Some stop.SinkFault → ⊥) → (why ≡ Some stop.Stuck → ⊥) → lines.done ≡ []
  pub wanting : why ≡ Some stop.Memory → IsLineLeft lines input
  pub behind : why ≡ Some stop.SourceFault → AreDoneBut 0 lines input
  pub beyond : (why ≡ Some stop.TooLong) ⊎ (why ≡ Some stop.Memory) → AreDoneBut 65536 lines input
  pub source : why ≡ Some stop.SourceFault → Rose input.before.faults input.after.faults
  pub sink : why ≡ Some stop.SinkFault → Rose output.before.faults output.after.faults
  pub read_well : (why ≡ Some stop.SourceFault → ⊥) → input.after.faults ≡ input.before.faults
  pub written_well : (why ≡ Some stop.SinkFault → ⊥) → (why ≡ Some stop.Stuck → ⊥) → output.after.faults ≡ output.before.faults
  pub stuck : why ≡ Some stop.Stuck → EndsStuck lines.ends
  pub heard : (why ≡ Some stop.Stuck → ⊥) → EndsHeard lines.ends
  pub long : why ≡ Some stop.TooLong → WhereTold input.before.content input.after.content (λ a b. 16777216 + length b < length a)
  pub short : (why ≡ Some stop.TooLong → ⊥) → WhereTold input.before.content input.after.content (λ a b. length a ≤ 16777216 + length b)
