-- The events of a session, and that a list of them keeps what is true of it.
use Rattle.std.specs.Prelude.{◌≡◌, ℕ, Bool, List, [], ◌∷◌, Option, Some, None}
use Rattle.lvm_num.specs.declared.place.Pp.{Pp}
use Rattle.lvm_num.specs.Record.{Stamped}
use Rattle.lvm_vol.specs.Facts.{Request}
use Rattle.lvm_vol.specs.Legal.{Legal}
use Rattle.lvm_invariant.specs.EndNote.{EndsNote, after_note}
use Rattle.lvm_invariant.specs.CopyWrite.{CopyWrites, copied}
use Rattle.lvm_invariant.specs.EnterStep.{StepEnters, entered}
use Rattle.lvm_invariant.specs.LandDone.{LandsDone, done}
use Rattle.lvm_invariant.specs.StartWrite.{MayStartWrite, started_first}
use Rattle.lvm_invariant.specs.Commit.{Commit, after_commit}
use Rattle.lvm_invariant.specs.Admit.{admitted, Admits}
use Rattle.lvm_invariant.specs.Found.{Votes}
use Rattle.lvm_invariant.specs.EndStep.{EndsStep}
use Rattle.lvm_invariant.specs.LandReadFailed.{ReadFails, read_failed}
use Rattle.lvm_invariant.specs.Transfer.{Restages, restaged}
use Rattle.lvm_invariant.specs.Take.{TakesAnswerOf, taken}
use Rattle.lvm_invariant.specs.TakeEarlier.{TakesEarlier, taken_earlier}
use Rattle.lvm_invariant.specs.Updates.{with_req, land}
use Rattle.lvm_invariant.specs.EndUpdate.{UpdateEnds}
use Rattle.lvm_invariant.specs.Read.{ReadsFromCopy, reading}
use Rattle.lvm_invariant.specs.Open.{Opens}
use Rattle.lvm_invariant.specs.LandGot.{LandsGot, with_got}
use Rattle.lvm_invariant.specs.LandLost.{LandsLost, lost}
use Rattle.lvm_invariant.specs.Submit.{Submits, submitted}
use Rattle.lvm_invariant.specs.State.{Marks, Groups, Stage, ModelPhase, Queued, ModelCopy, StepWrite, ModelState}
use Rattle.lvm_invariant.specs.Pin.{Pins, pinned}
use Rattle.lvm_invariant.specs.Good.{Good}
use Rattle.lvm_invariant.specs.MoveStatus.{StatusMoves, moved}
use Rattle.lvm_invariant.specs.Want.{Wants, after_wants}
use Rattle.lvm_invariant.specs.LandNoFresh.{FindsNoFresh, no_fresh}
use Rattle.lvm_invariant.specs.Crash.{EachKept}
use Rattle.lvm_invariant.specs.StartNote.{StartsNote}
use Rattle.lvm_invariant.specs.BeginUpdate.{BeginsUpdate}
use Rattle.lvm_invariant.specs.Clear.{Clears}

-- an event, with what it brings along
pub data Event : Type 0 where
  Submit : (i : ℕ) (q : Request) (r : Queued) → Event
  EnterStep : (i : ℕ) (q : Request) (r : Queued) → Event
  Admit : (i : ℕ) (r : Queued) (phase : ModelPhase) (several : Bool) (targets : Pp → Option Stage) → Event
  Pin : (i : ℕ) (r : Queued) (cache : Groups) → Event
  Read : (i : ℕ) (r : Queued) (c : Pp) (stage : Stage) (got : Option (ℕ → List ℕ)) → Event
  StartWrite : (i : ℕ) (r : Queued) (c : Pp) → Event
  Transfer : (i : ℕ) (r : Queued) (c : Pp) (stage : Stage) (block : ℕ → ℕ → Pp → List ℕ) → Event
  LandDone : (i : ℕ) (r : Queued) → Event
  LandLost : (i : ℕ) (r : Queued) → Event
  LandGot : (i : ℕ) (r : Queued) (got : List (List ℕ)) → Event
  LandReadFailed : (i : ℕ) (r : Queued) → Event
  LandNoFresh : (i : ℕ) (r : Queued) → Event
  EndStep : (i : ℕ) (r : Queued) → Event
  Take : (i : ℕ) (r : Queued) → Event
  TakeEarlier : (q : Request) → Event
  Want : (wanted : Marks) (missing : ℕ → Bool) (open_copy : Option ModelCopy) → Event
  BeginUpdate : (u : Stamped Marks) → Event
  MoveStatus : (u : Stamped Marks) (status : ℕ → Option (Stamped Marks)) (flying : ℕ → Bool) → Event
  CommitUpdate : (u : Stamped Marks) (has_it : ℕ → Bool) (done : Option ModelCopy) (wanted : Marks) (open_copy : Option ModelCopy) → Event
  EndUpdate : Event
  StartNote : (flying : ℕ → Option Groups) → Event
  EndNote : (d : ℕ) (names home : ℕ → Groups) (flying : ℕ → Option Groups) → Event
  Open : (o : ModelCopy) → Event
  CopyWrite : (i : ℕ) (r : Queued) (value : ℕ → List ℕ) (target : Pp) (open_copy : Option ModelCopy) (step_write : Option StepWrite) (block : ℕ → ℕ → Pp → List ℕ) → Event
  Clear : (wanted : Marks) (c : Pp) → Event

-- it may be made in the state
abbrev pub Allows : Votes → Event → ModelState → Type 0
Allows votes (Submit i q r) s = Submits s i q r
Allows votes (EnterStep i q r) s = StepEnters s i r
Allows votes (Admit i r phase several targets) s = Admits s i r phase several targets
Allows votes (Pin i r cache) s = Pins s i r cache
Allows votes (Read i r c stage got) s = ReadsFromCopy s i r c got
Allows votes (StartWrite i r c) s = MayStartWrite s i r c
Allows votes (Transfer i r c stage block) s = Restages s i r c stage block
Allows votes (LandDone i r) s = LandsDone s i r
Allows votes (LandLost i r) s = LandsLost s i r
Allows votes (LandGot i r got) s = LandsGot s i r got
Allows votes (LandReadFailed i r) s = ReadFails s i r
Allows votes (LandNoFresh i r) s = FindsNoFresh s i r
Allows votes (EndStep i r) s = EndsStep s i r
Allows votes (Take i r) s = TakesAnswerOf s i r
Allows votes (TakeEarlier q) s = TakesEarlier s q
Allows votes (Want wanted missing open_copy) s = Wants s wanted missing open_copy
Allows votes (BeginUpdate u) s = BeginsUpdate s u
Allows votes (MoveStatus u status flying) s = StatusMoves s u status
Allows votes (CommitUpdate u has_it done wanted open_copy) s = Commit votes s u has_it done wanted open_copy
Allows votes EndUpdate s = UpdateEnds s
Allows votes (StartNote flying) s = StartsNote s flying
Allows votes (EndNote d names home flying) s = EndsNote s d names home flying
Allows votes (Open o) s = Opens s o
Allows votes (CopyWrite i r value target open_copy step_write block) s = CopyWrites s i r value target open_copy block
Allows votes (Clear wanted c) s = Clears s wanted c

-- the state that it makes of it
abbrev pub made : Event → ModelState → ModelState
made (Submit i q r) s = submitted s i q r
made (EnterStep i q r) s = entered s i q r
made (Admit i r phase several targets) s = with_req s i (admitted r phase several targets)
made (Pin i r cache) s = pinned s i r cache
made (Read i r c stage got) s = with_req s i (reading r c stage got)
made (StartWrite i r c) s = started_first s i r c
made (Transfer i r c stage block) s = restaged s i r c stage block
made (LandDone i r) s = done s i r
made (LandLost i r) s = lost s i r
made (LandGot i r got) s = with_got s i r got
made (LandReadFailed i r) s = read_failed s i r
made (LandNoFresh i r) s = no_fresh s i r
made (EndStep i r) s = with_req s i (land r)
made (Take i r) s = taken s i r
made (TakeEarlier q) s = taken_earlier s q
made (Want wanted missing open_copy) s = after_wants s wanted missing open_copy
made (BeginUpdate u) s = record s { in_flight = Some u }
made (MoveStatus u status flying) s = moved s status flying
made (CommitUpdate u has_it done wanted open_copy) s = after_commit s u done wanted open_copy
made EndUpdate s = record s { in_flight = None }
made (StartNote flying) s = record s { flying_note = flying }
made (EndNote d names home flying) s = after_note s names home flying
made (Open o) s = record s { open_copy = Some o }
made (CopyWrite i r value target open_copy step_write block) s = copied s block open_copy step_write
made (Clear wanted c) s = record s { wanted = wanted }

-- it may be made in the state, and makes the new one of it
abbrev pub ModelStep : Votes → Event → ModelState → ModelState → Type 0
ModelStep votes event s new = Allows votes event s × (new ≡ made event s)

-- Each event keeps what is true of a session.
abbrev pub EachEventKeepsGood : Type 0
EachEventKeepsGood = (votes : Votes) (event : Event) (old new : ModelState) → ModelStep votes event old new → Good votes old → Good votes new

-- these events, one after another
abbrev pub Steps : Votes → List Event → ModelState → ModelState → Type 0
Steps votes [] old new = new ≡ old
Steps votes (event ∷ events) old new = (middle : ModelState) × ModelStep votes event old middle × Steps votes events middle new

-- the state after these events
abbrev pub after_all : List Event → ModelState → ModelState
after_all [] s = s
after_all (event ∷ events) s = after_all events (made event s)

-- each of them may be made in the state that those before it leave
abbrev pub AllowsAll : Votes → List Event → ModelState → Type 0
AllowsAll votes [] s = Unit {0}
AllowsAll votes (event ∷ events) s = Allows votes event s × AllowsAll votes events (made event s)

-- From a good state on, a list of events leads to a good state, in which each crash image agrees with the history, and the history is legal.
pub record Reached (votes : Votes) (s : ModelState) : Type 0 where
  pub good : Good votes s
  pub kept : EachKept s
  pub legal : Legal s.facts

abbrev pub EachMomentIsKept : Type 0
EachMomentIsKept = (votes : Votes) (events : List Event) (old new : ModelState) → Good votes old → Steps votes events old new → Reached votes new
