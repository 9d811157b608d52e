-- A run of a load over a group that stands on the disks.
use Rattle.std.specs.Prelude.{◌≡◌, ◌≤◌, ◌+◌, ◌++◌, ℕ, List, Contains, Option, Some, None, IfSome, IfNone, Result, Ok, Err, codes, true}
use Rattle.lvm_num.specs.Geometry.{volume_blocks}
use Rattle.lvm_num.specs.declared.descriptor.Descriptor.{Descriptor}
use Rattle.lvm_num.specs.declared.descriptor.LvRow.{LvRow}
use Rattle.lvm_disk.specs.Device.{IsReady}
use Rattle.lvm_io.specs.Count.{Rose}
use Rattle.lvm_kept.specs.Moments.{Moment}
use Rattle.lvm_steps.specs.Moments.{IsUpheld}
use Rattle.lvm_steps.specs.Behind.{IsAhead, StampsAreEarlier}
use Rattle.lvm_parse.specs.Grammar.{line_of}
use Rattle.lvm_core.specs.Looking.{HasNoVolumeNamed}
use Rattle.lvm_session.specs.State.{Core, State, state}
use Rattle.lvm_session.specs.Sound.{IsSound}
use Rattle.lvm_load.specs.declared.load.Load.{Load}
use Rattle.lvm_load.specs.declared.serve.Synced.{Synced}
use Rattle.lvm_load.specs.declared.workload.Woven.{Woven}
use Rattle.lvm_load.specs.Lending.{KeepsServing}
use Rattle.lvm_load.specs.Serving.{IsLoadedBy}
use Rattle.lvm_ranges.specs.declared.fault.SyncFault.{SyncFault}
use Rattle.lvm_ranges.specs.declared.fault.SyncFault.TheVariants as fault
use Rattle.lvm_top.specs.passed.GroupLines.{Refusal, Holder, IsAlone, IsClosed, OfRequests, Reply, ScriptState}
use Rattle.lvm_top.specs.passed.RefusalVariants as refusal
use Rattle.lvm_top.specs.passed.Lines.{IsLine, role_of}
use Rattle.lvm_top.specs.passed.ReplyVariants as reply
use Rattle.lvm_top.specs.passed.HolderVariants as holder
use Rattle.lvm_top.specs.declared.script.Stop.{Stop}
use Rattle.lvm_top.specs.declared.status.ExitStatus.{ExitStatus}
use Rattle.lvm_top.specs.declared.status.ExitStatus.TheVariants as ended
use Rattle.lvm_top.specs.Refused.{IsForCause}
use Rattle.lvm_top.specs.Run.{Run, exit_state}
use Rattle.lvm_top.specs.Script.{Passage, Stream, empty_log, entry_state, facts_of}
use Rattle.lvm_top.specs.Statuses.{status_of}
use Rattle.lvm_top.specs.Turn.{Tells}
use Rattle.lvm_program.specs.Woven.{EndsRefused, Exit, TellsWoven, exit_from, refusals_told}
use Rattle.lvm_program.specs.declared.load.LoadWords.{LoadWords}

-- ---- its group and volume

-- the line that varies the group on
abbrev pub varyon_line : List ℕ → List ℕ
varyon_line group = codes "varyonvg " ++ group

-- the group has a volume of this name, and so many blocks
pub record IsVolumeNamed (group : Descriptor) (name : List ℕ) (lv blocks : ℕ) : Type 0 where
  pub row : LvRow
  pub among : Contains group.lvs row
  pub named : row.name ≡ name
  pub number : row.number ≡ lv
  pub size : blocks ≡ volume_blocks group.mib row.lps

-- the holder serves requests, and its group has such a volume
abbrev pub HoldsVolume : {S : Type 0} → Holder S → List ℕ → ℕ → ℕ → Type 0
HoldsVolume (holder.Serving driver) name lv blocks = IsVolumeNamed driver.1.descriptor name lv blocks
HoldsVolume (holder.Empty driver) name lv blocks = ⊥
HoldsVolume (holder.Off shelf history) name lv blocks = ⊥

-- it has none of this name
abbrev pub LacksVolume : Option Core → List ℕ → Type 0
LacksVolume on name = IfSome on (λ core. HasNoVolumeNamed core.descriptor.lvs name)

-- ---- the load

-- it has 1 to 128 threads
abbrev pub IsLoadable : Load → Type 0
IsLoadable load = (1 ≤ load.threads) × (load.threads ≤ 128)

-- The load was made over this session, if memory was found for its workers, and the session is closed. The totals are those of the history that comes back.
pub record IsLoadedOver (lv blocks : ℕ) (load : Load) (first : State) (exit : Moment) (woven : Option Woven) (synced : Option Synced) : Type 0 where
  pub end : State
  pub made : IfSome woven (λ w. IsLoadedBy lv blocks load first end w synced)
  pub none : IfNone woven (synced ≡ None)
  pub keeps : KeepsServing load.sync first end
  pub sound : IsSound end
  pub closed : IsClosed end.core.power end.device exit.device
  pub facts : exit.facts ≡ end.core.history.facts

-- ---- what is told

-- the refusal by which a copy stayed stale, or by which it ended; where nothing was heard of a transfer, that is told of the whole load
abbrev pub refusal_for : ℕ → ℕ → SyncFault → Option Refusal
refusal_for have total fault.Dark = Some refusal.Dark
refusal_for have total fault.Off = Some (refusal.WentOff have total)
refusal_for have total fault.Stuck = None
refusal_for have total fault.Busy = Some refusal.Busy
refusal_for have total fault.NoVolume = Some refusal.NoVolume
refusal_for have total fault.OutOfRange = Some refusal.NoVolume
refusal_for have total fault.HistoryFull = Some refusal.HistoryFull
refusal_for have total (fault.SyncFailed disk) = Some (refusal.SyncFailed disk)
refusal_for have total (fault.NoFresh lp) = Some (refusal.NoFresh lp)
refusal_for have total (fault.Missing disk) = Some (refusal.Missing disk)

abbrev pub refusal_in : ℕ → ℕ → Result ℕ SyncFault → Option Refusal
refusal_in have total (Ok made) = None
refusal_in have total (Err why) = refusal_for have total why

abbrev pub refusal_by : Synced → Option Refusal
refusal_by synced = refusal_in synced.have synced.total synced.result

abbrev pub refusal_of : Option Synced → Option Refusal
refusal_of None = None
refusal_of (Some synced) = refusal_by synced

-- a run that has told a refusal doesn't end well
abbrev pub with_refusal : ExitStatus → ExitStatus
with_refusal ended.Well = ended.Refusals
with_refusal other = other

-- The refusal is told as in a script, and the totals behind it, unless the sink failed at it.
pub data TellsBoth (why : Refusal) (woven : Woven) (requests : ℕ) (status : ExitStatus) (refused : ℕ) (out : Passage) : Type 0 where
  ToldBoth : (mid : Stream) (first : ℕ) (last : ExitStatus) → Tells (reply.Refused why) 0 first (record { before = out.before; after = mid }) None
      → TellsWoven woven requests last (record { before = mid; after = out.after }) → status ≡ with_refusal last → refused ≡ first + refusals_told woven → TellsBoth why woven requests status refused out
  FailedFirst : (stop : Stop) → Tells (reply.Refused why) 0 refused out (Some stop) → status ≡ status_of (Some stop) refused → TellsBoth why woven requests status refused out

-- the totals are told, behind the refusal where there is one
abbrev pub TellsTotals : Woven → Option Refusal → ℕ → ExitStatus → ℕ → Passage → Type 0
TellsTotals woven None requests status refused out = TellsWoven woven requests status out × (refused ≡ refusals_told woven)
TellsTotals woven (Some why) requests status refused out = TellsBoth why woven requests status refused out

-- so they are, or nothing is where no memory was found for the workers
abbrev pub TellsLoaded : Option Woven → Option Refusal → ℕ → ExitStatus → ℕ → Passage → Type 0
TellsLoaded None why requests status refused out = (status ≡ ended.Memory) × (refused ≡ 0) × (out.after ≡ out.before)
TellsLoaded (Some woven) why requests status refused out = TellsTotals woven why requests status refused out

-- The run makes its load over this session, and tells its totals.
pub record HasLoadedOver (lv blocks : ℕ) (load : Load) (first : State) (exit : Exit) : Type 0 where
  pub woven : Option Woven
  pub synced : Option Synced
  pub made : IsLoadedOver lv blocks load first exit.moment woven synced
  pub tells : TellsLoaded woven (refusal_of synced) load.requests exit.status exit.refused exit.out

-- How a run ends behind its line: its answer is told where it isn't `ok`; or that the group has no such volume; or the load is made, and told.
pub data EndsLoaded (words : LoadWords) (answer : Reply) (run : ℕ) (end : Moment) (on : Option Core) (exit : Exit) : Type 0 where
  NotVaried : (answer ≡ reply.Ok → ⊥) → EndsRefused answer run end on exit → EndsLoaded words answer run end on exit
  NoSuchVolume : answer ≡ reply.Ok → LacksVolume on words.volume → EndsRefused (reply.Refused refusal.NoVolume) run end on exit → EndsLoaded words answer run end on exit
  Loads : answer ≡ reply.Ok → (core : Core) → on ≡ Some core → (lv blocks : ℕ) → IsVolumeNamed core.descriptor words.volume lv blocks → core.history.run ≡ run → end.facts ≡ core.history.facts
      → HasLoadedOver lv blocks words.load (state end.device core) exit → EndsLoaded words answer run end on exit

-- ---- the run

-- What a run does for which memory was found: its line, and its end.
pub record GoesLoaded (words : LoadWords) (r : Run) : Type 0 where
  pub answer : Reply
  pub end : ScriptState
  pub varies : IsLine (empty_log r.named r.room) r.room (varyon_line words.group) answer (entry_state r.entry r.named) end
  pub ends : EndsLoaded words answer r.named end.moment end.session (exit_from r)
  pub clock : end.last ≡ r.last

-- Nothing was under way at entry. Without a history no memory was found for a run, and nothing was done. The power is on at exit.
pub record IsLoaded (words : LoadWords) (r : Run) : Type 0 where
  pub ready : IsReady r.entry
  pub history_is : IfSome r.history (λ log. log ≡ record (empty_log r.named r.room) { facts = log.facts })
  pub none : IfNone r.history ((r.status ≡ ended.Memory) × (r.refused ≡ 0) × (r.exit ≡ r.entry) × (r.output.after ≡ r.output.before))
  pub goes : IfSome r.history (λ log. GoesLoaded words r)
  pub power : r.exit.power ≡ true

-- Whatever any disks find is of one group where the group is varied on, and where requests are made.
abbrev pub IsLoadedAlone : {words : LoadWords} {r : Run} → GoesLoaded words r → Type 0
IsLoadedAlone {words = words} {r = r} goes =
    IsAlone (role_of (line_of (varyon_line words.group))) (entry_state r.entry r.named) goes.end × IsAlone OfRequests goes.end (exit_state r.exit r.history goes.end)

-- What every run of a load promises, of its history, its images and the clock as one of a script does.
pub record PromisesLoaded (words : LoadWords) (asked : ℕ) (r : Run) : Type 0 where
  pub clock : IfSome r.history (λ log. Rose asked log.run × (log.run ≤ r.last))
  pub does : IsLoaded words r
  pub causes : (goes : GoesLoaded words r) → IsForCause (varyon_line words.group) goes.answer (entry_state r.entry r.named) goes.end
  pub upheld : (goes : GoesLoaded words r) → IsLoadedAlone goes → StampsAreEarlier r.named r.entry → IsUpheld r.named r.entry r.exit (facts_of r.history)
  pub ahead : GoesLoaded words r → StampsAreEarlier r.named r.entry → IsAhead r.named (r.last + 1) r.exit (facts_of r.history)
