-- A run of a workload over a group of its own.
use Rattle.std.specs.Prelude.{◌≡◌, ◌≢◌, ◌⊎◌, ◌≤◌, ◌+◌, ◌-◌, ◌*◌, ◌++◌, ◌==◌, ℕ, [], List, length, take, Bool, true, false, Option, Some, None, IfSome, IfNone, if◌then◌else◌, codes}
use Rattle.std.specs.Fmt.{decimal}
use Rattle.lvm_disk.specs.Device.{Device, IsReady}
use Rattle.lvm_io.specs.Count.{Rose, next_count}
use Rattle.lvm_io.specs.Stream.{WhereTold}
use Rattle.lvm_vol.specs.Facts.{joined}
use Rattle.lvm_vol.specs.Legal.{Legal}
use Rattle.lvm_vol.specs.Log.{Log}
use Rattle.lvm_kept.specs.Moments.{Moment}
use Rattle.lvm_steps.specs.Moments.{ImagesKept, IsUpheld}
use Rattle.lvm_steps.specs.Behind.{IsAhead, StampsAreEarlier}
use Rattle.lvm_parse.specs.Grammar.{line_of}
use Rattle.lvm_core.specs.declared.parts.Room.{Room}
use Rattle.lvm_session.specs.State.{Core, State, state}
use Rattle.lvm_session.specs.Sound.{IsSound}
use Rattle.lvm_load.specs.declared.totals.Totals.{Totals}
use Rattle.lvm_load.specs.declared.workload.Workload.{Workload}
use Rattle.lvm_load.specs.declared.workload.Woven.{Woven}
use Rattle.lvm_load.specs.Ends.{HasCauses}
use Rattle.lvm_load.specs.Totals.{entries_since, totals_of}
use Rattle.lvm_load.specs.Weaving.{Weaves, first_weaving}
use Rattle.lvm_top.specs.passed.Lines.{IsLine, asked_after, role_of}
use Rattle.lvm_top.specs.passed.Tie.{RunsOn}
use Rattle.lvm_top.specs.passed.ReplyVariants as reply
use Rattle.lvm_top.specs.passed.GroupLines.{IsAlone, IsClosed, OfRequests, Reply, ScriptState}
use Rattle.lvm_top.specs.passed.Texts.{counted}
use Rattle.lvm_top.specs.declared.run.Ended.{Ended}
use Rattle.lvm_top.specs.declared.script.Stop.{Stop}
use Rattle.lvm_top.specs.declared.status.ExitStatus.{ExitStatus}
use Rattle.lvm_top.specs.declared.status.ExitStatus.TheVariants as ended
use Rattle.lvm_top.specs.Ending.{Concludes, MakesTurns}
use Rattle.lvm_top.specs.Refused.{IsForCause}
use Rattle.lvm_top.specs.Run.{Run, exit_state}
use Rattle.lvm_top.specs.Standing.{HasFewDisks}
use Rattle.lvm_top.specs.Script.{Passage, empty_log, entry_state, facts_of, stream}
use Rattle.lvm_top.specs.Blank.{IsToldBlank}
use Rattle.lvm_top.specs.Statuses.{status_of}
use Rattle.lvm_top.specs.Turn.{Tells}

-- ---- its group and volume

-- the line that makes the group, of the first disks
abbrev pub mkvg_line : ℕ → List ℕ
mkvg_line disks = take (20 + 7 * disks) (codes "mkvg -y weavevg -s 1 hdisk0 hdisk1 hdisk2 hdisk3 hdisk4 hdisk5 hdisk6 hdisk7")

-- a copy on each of two disks, or one where there is one disk
abbrev pub copy_count : ℕ → ℕ
copy_count disks = if disks == 1 then 1 else 2

-- the line that makes the volume, of as many logical partitions as a disk has partitions
abbrev pub mklv_line : ℕ → ℕ → List ℕ
mklv_line disks mib = codes "mklv -y weavelv -c " ++ (decimal (copy_count disks) ++ (codes " -w a weavevg " ++ decimal (mib - 2)))

-- The two lines were done, or the first alone where it wasn't answered by `ok`; and the last of them was answered so.
pub data IsMade (log : Log) (room : Room) (group volume : List ℕ) (first : ScriptState) (answer : Reply) (last : ScriptState) : Type 0 where
  NoGroup : (answer ≡ reply.Ok → ⊥) → IsLine log room group answer first last → IsMade log room group volume first answer last
  HasGroup : (mid : ScriptState) → IsLine log room group reply.Ok first mid → IsLine log room volume answer mid last → IsMade log room group volume first answer last

-- the clock was asked for the line of the group, and for that of the volume where it was done
abbrev pub HasAsked : (group volume : List ℕ) (asked now : ℕ) → Type 0
HasAsked group volume asked now = (now ≡ asked_after (line_of group) asked) ⊎ (now ≡ asked_after (line_of volume) (asked_after (line_of group) asked))

-- whatever any disks find is of one group where the lines enter a volume's making
abbrev pub AreMadeAlone : {log : Log} {room : Room} {group volume : List ℕ} {first : ScriptState} {answer : Reply} {last : ScriptState}
    → IsMade log room group volume first answer last → Type 0
AreMadeAlone {group = group} {first = first} {last = last} (NoGroup not does) = IsAlone (role_of (line_of group)) first last
AreMadeAlone {group = group} {volume = volume} {first = first} {last = last} (HasGroup mid makes does) =
    IsAlone (role_of (line_of group)) first mid × IsAlone (role_of (line_of volume)) mid last

-- the line that was answered last has its cause, where it is refused
abbrev pub IsMadeForCause : {log : Log} {room : Room} {group volume : List ℕ} {first : ScriptState} {answer : Reply} {last : ScriptState}
    → IsMade log room group volume first answer last → Type 0
IsMadeForCause {group = group} {first = first} {answer = answer} {last = last} (NoGroup not does) = IsForCause group answer first last
IsMadeForCause {volume = volume} {answer = answer} {last = last} (HasGroup mid makes does) = IsForCause volume answer mid last

-- ---- the workload

-- it has 1 to 64 clients
abbrev pub IsDrawable : Workload → Type 0
IsDrawable load = (1 ≤ load.clients) × (load.clients ≤ 64)

-- 1 to 8 disks, each of 8 to 64 MiB
abbrev pub IsSized : ℕ → ℕ → Type 0
IsSized disks mib = (1 ≤ disks) × (disks ≤ 8) × (8 ≤ mib) × (mib ≤ 64)

-- turns are made until one doesn't move, unless nothing is heard
abbrev pub TurnsBehind : Bool → State → State → Type 0
TurnsBehind true last end = end ≡ last
TurnsBehind false last end = MakesTurns last end

-- It is drawn over the first volume of a session, of so many blocks; then turns are made until one doesn't move, unless nothing is heard, and the session is closed. The totals are those of
-- the history that comes back.
pub record IsDrawn (blocks : ℕ) (load : Workload) (first : State) (exit : Moment) (woven : Woven) : Type 0 where
  pub last : State
  pub weaves : Weaves 1 blocks load.requests (first_weaving first load.clients load.seed) last woven.waiting
  pub causes : HasCauses 1 blocks load.requests (first_weaving first load.clients load.seed) last woven
  pub end : State
  pub turns : TurnsBehind woven.waiting last end
  pub runs : RunsOn first end
  pub sound : IsSound end
  pub closed : IsClosed end.core.power end.device exit.device
  pub facts : exit.facts ≡ end.core.history.facts
  pub totals : woven.totals ≡ totals_of load.requests (entries_since (length first.core.history.facts) exit.facts)

-- ---- what is written

-- behind this, how many requests have begun, and how many ended well
abbrev pub with_well : List ℕ → Totals → List ℕ
with_well before t = before ++ counted (codes "begun") t.begun ++ counted (codes "done") t.done ++ counted (codes "got") t.got

-- behind this, how many ended otherwise, and how many haven't begun
abbrev pub with_ill : List ℕ → Totals → List ℕ
with_ill before t = before ++ counted (codes "lost") t.lost ++ counted (codes "refused") t.refused ++ counted (codes "unbegun") t.unbegun

-- the refusal where nothing was heard of a transfer
abbrev pub refusal_text : Woven → List ℕ
refusal_text woven = if woven.waiting then codes "refused 24 Stuck\n" else []

-- the six lines
abbrev pub totals_text : Totals → List ℕ
totals_text t = with_ill (with_well [] t) t

-- the refusal, and the six lines behind it
abbrev pub woven_text : Woven → List ℕ
woven_text woven = refusal_text woven ++ totals_text woven.totals

-- so many refusals are written
abbrev pub refusals_told : Woven → ℕ
refusals_told woven = if woven.waiting then 1 else 0

-- each request ended well
abbrev pub is_whole : Woven → ℕ → Bool
is_whole woven requests = woven.totals.done + woven.totals.got == requests

-- the status, where the text was written, or wasn't for this
abbrev pub status_written : Woven → ℕ → Option ExitStatus → ExitStatus
status_written woven requests (Some status) = status
status_written woven requests None = if is_whole woven requests then ended.Well else ended.Refusals

abbrev pub status_woven : Woven → ℕ → Option ExitStatus → ExitStatus
status_woven woven requests failed = if woven.waiting then ended.Stuck else status_written woven requests failed

-- The text was written whole, or a front of it where the sink failed, or the refusal alone where no memory was found for the lines behind it; and this is the status.
pub record TellsWoven (woven : Woven) (requests : ℕ) (status : ExitStatus) (out : Passage) : Type 0 where
  pub failed : Option ExitStatus
  pub only : IfSome failed (λ s. (s ≡ ended.SinkFault) ⊎ (s ≡ ended.Memory))
  pub status_is : status ≡ status_woven woven requests failed
  pub front : List ℕ
  pub rest : List ℕ
  pub split : woven_text woven ≡ front ++ rest
  pub written : WhereTold out.before.content out.after.content (λ a b. b ≡ a ++ front)
  pub whole : failed ≡ None → rest ≡ []
  pub memory : failed ≡ Some ended.Memory → front ≡ refusal_text woven
  pub sink : failed ≡ Some ended.SinkFault → Rose out.before.faults out.after.faults
  pub well : (failed ≡ Some ended.SinkFault → ⊥) → out.after.faults ≡ out.before.faults

-- ---- its end

-- how a run has ended: what stands then, its status, how many refusals it has told, and what was written
pub record Exit : Type 0 where
  pub moment : Moment
  pub status : ExitStatus
  pub refused : ℕ
  pub out : Passage

abbrev pub exit_of : {S : Type 0} → (S → Device) → Ended S → Passage → Exit
exit_of device end out = record { moment = record { device = device end.shelf; facts = facts_of end.history }; status = end.status; refused = end.refused; out = out }

-- The run ends with this refusal, and what is on is concluded.
pub record EndsRefused (why : Reply) (run : ℕ) (end : Moment) (on : Option Core) (exit : Exit) : Type 0 where
  pub concludes : Concludes run end exit.moment on
  pub stop : Option Stop
  pub tells : Tells why 0 exit.refused exit.out stop
  pub status_is : exit.status ≡ status_of stop exit.refused

-- The run draws its workload over this session, and tells its totals.
pub record HasServed (blocks : ℕ) (load : Workload) (first : State) (exit : Exit) : Type 0 where
  pub woven : Woven
  pub drawn : IsDrawn blocks load first exit.moment woven
  pub tells : TellsWoven woven load.requests exit.status exit.out
  pub refused_is : exit.refused ≡ refusals_told woven

-- a session is on that serves requests of volumes
abbrev pub SessionIsServing : Option Core → Type 0
SessionIsServing None = ⊥
SessionIsServing (Some core) = core.descriptor.lvs ≢ []

-- How a run ends behind its lines: their answer is told where it isn't `ok`; or the workload is drawn, and told.
pub data EndsWoven (blocks : ℕ) (load : Workload) (answer : Reply) (run : ℕ) (end : Moment) (on : Option Core) (exit : Exit) : Type 0 where
  NotMade : (answer ≡ reply.Ok → ⊥) → EndsRefused answer run end on exit → EndsWoven blocks load answer run end on exit
  Drawn : answer ≡ reply.Ok → (core : Core) → on ≡ Some core → core.descriptor.lvs ≢ [] → core.history.run ≡ run → end.facts ≡ core.history.facts
      → HasServed blocks load (state end.device core) exit → EndsWoven blocks load answer run end on exit

-- ---- the run

-- no source is told of
abbrev pub untold : Passage
untold = record { before = stream None 0; after = stream None 0 }

abbrev pub exit_from : Run → Exit
exit_from r = record { moment = record { device = r.exit; facts = facts_of r.history }; status = r.status; refused = r.refused; out = r.output }

-- how often the clock has been asked after a run: at its beginning, and for its group, where memory was found for a run
abbrev pub asked_woven : Option Log → ℕ → ℕ
asked_woven None asked = next_count asked
asked_woven (Some log) asked = next_count (next_count asked)

-- What a run does for which memory was found: its lines, and its end.
pub record GoesWoven (disks mib : ℕ) (load : Workload) (r : Run) : Type 0 where
  pub answer : Reply
  pub end : ScriptState
  pub made : IsMade (empty_log r.named r.room) r.room (mkvg_line disks) (mklv_line disks mib) (entry_state r.entry r.named) answer end
  pub ends : EndsWoven (2048 * (mib - 2)) load answer r.named end.moment end.session (exit_from r)
  pub clock : end.last ≡ r.last

-- Nothing was under way at entry. Without a history no memory was found for a run, and nothing was done. The power is on at exit.
pub record IsWoven (disks mib : ℕ) (load : Workload) (r : Run) : Type 0 where
  pub ready : IsReady r.entry
  pub history_is : IfSome r.history (λ log. log ≡ record (empty_log r.named r.room) { facts = log.facts })
  pub none : IfNone r.history ((r.status ≡ ended.Memory) × (r.refused ≡ 0) × (r.exit ≡ r.entry) × (r.output.after ≡ r.output.before))
  pub goes : IfSome r.history (λ log. GoesWoven disks mib load r)
  pub power : r.exit.power ≡ true

-- Whatever any disks find is of one group where a volume is made, and where requests are.
abbrev pub IsWovenAlone : {disks mib : ℕ} {load : Workload} {r : Run} → GoesWoven disks mib load r → Type 0
IsWovenAlone {r = r} goes = AreMadeAlone goes.made × IsAlone OfRequests goes.end (exit_state r.exit r.history goes.end)

-- What every run of a workload promises, of its history, its images and the clock as one of a script does; over disks of zeros no other group can be there.
pub record PromisesWoven (disks mib : ℕ) (load : Workload) (asked : ℕ) (r : Run) : Type 0 where
  pub clock : IfSome r.history (λ log. Rose asked log.run × (log.run ≤ r.last))
  pub does : IsWoven disks mib load r
  pub causes : (goes : GoesWoven disks mib load r) → IsMadeForCause goes.made
  pub upheld : (goes : GoesWoven disks mib load r) → IsWovenAlone goes → StampsAreEarlier r.named r.entry → IsUpheld r.named r.entry r.exit (facts_of r.history)
  pub first : GoesWoven disks mib load r → HasFewDisks r.entry → IsToldBlank r.entry → Legal (joined [] (facts_of r.history)) × ImagesKept r.exit (joined [] (facts_of r.history))
  pub ahead : GoesWoven disks mib load r → StampsAreEarlier r.named r.entry → IsAhead r.named (r.last + 1) r.exit (facts_of r.history)
