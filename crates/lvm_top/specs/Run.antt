-- A run of a script: how it ends, and why.
use Rattle.std.specs.Prelude.{◌≡◌, ◌⊎◌, ◌<◌, ◌≤◌, ◌+◌, ◌++◌, ◌∷◌, ℕ, List, [], length, Option, IfNone, IfSome, None, true}
use Rattle.lvm_steps.specs.Moments.{ImagesKept, IsEarlier, IsUpheld}
use Rattle.lvm_disk.specs.Device.{Device, IsReady}
use Rattle.lvm_io.specs.Count.{Rose}
use Rattle.lvm_io.specs.Stream.{WhereTold}
use Rattle.lvm_vol.specs.Facts.{Cut, Fact, joined}
use Rattle.lvm_vol.specs.Legal.{Legal}
use Rattle.lvm_vol.specs.Log.{Log}
use Rattle.lvm_vol.specs.Order.{Ordered}
use Rattle.lvm_steps.specs.Behind.{StampsAreEarlier, IsAhead, beginning_at}
use Rattle.lvm_steps.specs.Laws.{LeavesBefore}
use Rattle.lvm_core.specs.declared.parts.Room.{Room}
use Rattle.lvm_line.specs.passed.GroupLines.{IsAlone, OfRequests, ScriptState}
use Rattle.lvm_top.specs.Ending.{Concludes}
use Rattle.lvm_top.specs.Refused.{AreForCause, EndsForCause}
use Rattle.lvm_top.specs.Script.{Passage, AreDone, AreAllRead, AreDoneBut, IsLineLeft, EndsHeard, EndsStuck, StaysAlone, EndsAlone, MakeRequests, empty_log, entry_state, facts_of, run_of}
use Rattle.lvm_top.specs.Statuses.{at_end, IsAtEnd}
use Rattle.lvm_top.specs.declared.status.ExitStatus.{ExitStatus}
use Rattle.lvm_top.specs.declared.status.ExitStatus.TheVariants as ended
use Rattle.lvm_top.specs.Blank.{IsToldBlank}
use Rattle.lvm_top.specs.Clock.{AsksForLines, Clocked}
use Rattle.lvm_top.specs.Plain.{UpholdsPlainly}
use Rattle.lvm_top.specs.Recovery.{AreRecovered, EndsRecovered}
use Rattle.lvm_top.specs.Sharing.{AreShared, EndsShared, StayApart}

-- What a run was given and what came of it: the moment that names it and the clock's last one, its rooms, the shelf before and after, what was read and written, its history, its status, and how many lines were refused.
pub record Run : Type 0 where
  pub named : ℕ
  pub last : ℕ
  pub room : Room
  pub entry : Device
  pub exit : Device
  pub input : Passage
  pub output : Passage
  pub history : Option Log
  pub status : ExitStatus
  pub refused : ℕ

-- what the call says of it
abbrev pub ran : Room → Device → Device → Passage → Passage → ℕ → Option Log → ExitStatus → ℕ → Run
ran room entry exit input output last history status refused =
    record { named = run_of history; last = last; room = room; entry = entry; exit = exit; input = input; output = output; history = history; status = status; refused = refused }

-- the run's state once it has ended
abbrev pub exit_state : Device → Option Log → ScriptState → ScriptState
exit_state exit history end = record { moment = record { device = exit; facts = facts_of history }; session = None; posts = []; last = end.last }

-- What the run does behind its last line: turns, where a session is on that has any to make. Where no line made requests of volumes nothing happens, and nothing is
-- under way then unless nothing was heard of a transfer. The clock was last asked by a line, or at the beginning.
pub record IsConcluded (run : ℕ) (exit : Device) (history : Option Log) (last : ℕ) (end : ScriptState) (Requests Stuck : Type 0) : Type 0 where
  pub concludes : Concludes run end.moment (record { device = exit; facts = facts_of history }) end.session
  pub still : (Requests → ⊥) → record { device = exit; facts = facts_of history } ≡ end.moment
  pub rests : (Requests → ⊥) → (Stuck → ⊥) → IsReady exit
  pub clock : IfSome history (λ log. end.last ≡ last)

-- the lines of the run, from its first state to its last
abbrev pub LinesOf : Run → ScriptState → Type 0
LinesOf r end = AreDone (empty_log r.named r.room) r.room (entry_state r.entry r.named) end r.input r.output r.refused

-- The lines that were done are the input's first, each as it should be. At the input's end all of it was read and done, and the status says whether a line
-- was refused. Any other status has its cause: a read failed, or a write did, which come at no other status but a write's where the last line was answered
-- Stuck; that it was; exactly that too much was read; and for want of memory, which is free, that a line was left. But for a write and Stuck the run ended
-- between two lines: where a read failed, behind each line that had been read whole; for want of memory or where too much was read, behind each but those that end
-- in what the last read gave, 65,536 bytes at most. Nothing was under way at entry. Without a history no memory was found for a run, and nothing was done, read
-- or written.
pub record IsRun (r : Run) : Type 0 where
  pub ready : IsReady r.entry
  pub history_is : IfSome r.history (λ log. log ≡ record (empty_log r.named r.room) { facts = log.facts })
  pub none : IfNone r.history ((r.status ≡ ended.Memory) × (r.refused ≡ 0) × (r.exit ≡ r.entry) × (r.output.after ≡ r.output.before) × (r.input.after ≡ r.input.before))
  pub read_words : r.status ≡ ended.Usage → ⊥
  pub counted : IsAtEnd r.status → r.status ≡ at_end r.refused
  pub end : ScriptState
  pub lines : LinesOf r end
  pub concluded : IsConcluded r.named r.exit r.history r.last end (MakeRequests (lines.lines ++ lines.done)) (r.status ≡ ended.Stuck)
  pub whole : IsAtEnd r.status → AreAllRead lines r.input
  pub between : (r.status ≡ ended.SinkFault → ⊥) → (r.status ≡ ended.Stuck → ⊥) → lines.done ≡ []
  pub wanting : r.status ≡ ended.Memory → IfSome r.history (λ log. IsLineLeft lines r.input)
  pub behind : r.status ≡ ended.SourceFault → AreDoneBut 0 lines r.input
  pub beyond : (r.status ≡ ended.TooLong) ⊎ (r.status ≡ ended.Memory) → AreDoneBut 65536 lines r.input
  pub source : r.status ≡ ended.SourceFault → Rose r.input.before.faults r.input.after.faults
  pub sink : r.status ≡ ended.SinkFault → Rose r.output.before.faults r.output.after.faults
  pub read_well : (r.status ≡ ended.SourceFault → ⊥) → r.input.after.faults ≡ r.input.before.faults
  pub written_well : (r.status ≡ ended.SinkFault → ⊥) → (r.status ≡ ended.Stuck → ⊥) → r.output.after.faults ≡ r.output.before.faults
  pub stuck : r.status ≡ ended.Stuck → EndsStuck lines.ends
  pub heard : (r.status ≡ ended.Stuck → ⊥) → EndsHeard lines.ends
  pub long : r.status ≡ ended.TooLong → WhereTold r.input.before.content r.input.after.content (λ a b. 16777216 + length b < length a)
  pub short : (r.status ≡ ended.TooLong → ⊥) → WhereTold r.input.before.content r.input.after.content (λ a b. length a ≤ 16777216 + length b)
  pub power : r.exit.power ≡ true

-- In each line of the run that entered a volume's making or removal, or acted on the session of a group with volumes, whatever any disks found was of one
-- group; so it was behind the last line, where some line made requests.
abbrev pub RanAlone : {r : Run} → IsRun r → Type 0
RanAlone {r} ran = StaysAlone ran.lines.script × EndsAlone ran.lines.ends
    × (MakeRequests (ran.lines.lines ++ ran.lines.done) → IsAlone OfRequests ran.end (exit_state r.exit r.history ran.end))

-- What holds of such a run, whatever its lines were answered.
abbrev pub WhereAlone : Run → Type 0 → Type 0
WhereAlone r Holds = (ran : IsRun r) → RanAlone ran → Holds

-- each line of the run that was refused has its cause
abbrev pub HaveCauses : {r : Run} → IsRun r → Type 0
HaveCauses ran = AreForCause ran.lines.script × EndsForCause ran.lines.ends

-- in each `varyonvg` of the run the group was brought back, or nothing was written where the quorum was lacking
abbrev pub HaveRecovered : {r : Run} → IsRun r → Type 0
HaveRecovered ran = AreRecovered ran.lines.script × EndsRecovered ran.lines.ends

-- in each `splitlvcopy` of the run that was answered `ok` both volumes share their content, after whatever history the entry allows
abbrev pub HaveShared : {r : Run} → IsRun r → Type 0
HaveShared {r} ran = (past : List Fact) → IsEarlier r.named r.entry past → AreShared (past ++ Cut ∷ []) ran.lines.script × EndsShared (past ++ Cut ∷ []) ran.lines.ends

-- What every run promises. Its moment was answered by the clock in this call, which was asked no more often than the run and its lines ask. Its lines are as they
-- should be, and refused for their causes. Where its moment is later than what stands on the disks, and no line made, removed or acted on a volume where another
-- group was found, the history is legal with what was told before, and each crash image that the disks may leave is kept with it; over disks that hold nothing so
-- it is without anything told before. So it is of itself where the script has nowhere `-f` and the disks hold one group at most. The clock stays ahead of the
-- disks, and of each crash image unless nothing was heard of a transfer. The history tells of this run alone. Each `varyonvg` brings its group back. Where no
-- line found another group, each `splitlvcopy` leaves two volumes that hold the same, of which a write on one leaves the other.
pub record Promises (asked : Clocked) (r : Run) : Type 0 where
  pub clock : IfSome r.history (λ log. Rose asked.last log.run × (log.run ≤ r.last))
  pub does : IsRun r
  pub asks : AsksForLines asked (does.lines.lines ++ does.lines.done) r.history
  pub causes : HaveCauses does
  pub upheld : WhereAlone r (StampsAreEarlier r.named r.entry → IsUpheld r.named r.entry r.exit (facts_of r.history))
  pub first : WhereAlone r (IsToldBlank r.entry → Legal (joined [] (facts_of r.history)) × ImagesKept r.exit (joined [] (facts_of r.history)))
  pub plain : UpholdsPlainly r.input.before.content r.named r.entry r.exit (facts_of r.history)
  pub ahead : StampsAreEarlier r.named r.entry → IsAhead r.named (r.last + 1) r.exit (facts_of r.history)
  pub ahead_each : StampsAreEarlier r.named r.entry → (r.status ≡ ended.Stuck → ⊥) → LeavesBefore (beginning_at (r.last + 1)) r.exit
  pub tells : Ordered r.named [] (facts_of r.history)
  pub recovers : StampsAreEarlier r.named r.entry → HaveRecovered does
  pub shares : RanAlone does → StampsAreEarlier r.named r.entry → HaveShared does
  pub apart : (past : List Fact) → StayApart (joined past (facts_of r.history))
