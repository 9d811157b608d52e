-- Why each request has landed so that landed since the session began, also one whose answer was taken.
use Rattle.std.specs.Prelude.{◌≡◌, ◌⊎◌, ◌++◌, ℕ, Bool, true, false, List, [], Option, Result}
use Rattle.std.specs.List.{AllByRecursion}
use Rattle.lvm_num.specs.declared.place.Pp.{Pp}
use Rattle.lvm_num.specs.Geometry.{partition_of}
use Rattle.lvm_disk.specs.declared.shelf.Arrange.{Arrange}
use Rattle.lvm_disk.specs.Device.{Device}
use Rattle.lvm_vol.specs.declared.entry.Outcome.{Outcome}
use Rattle.lvm_vol.specs.declared.entry.Outcome.TheVariants as outcome
use Rattle.lvm_vol.specs.declared.entry.Vol.TheVariants.{Lv}
use Rattle.lvm_vol.specs.Facts.{Request as Asked, Fact, Making, Made, Split, Removing, Removed, Begun, Landed, Taken, Cut, On, is_over}
use Rattle.lvm_path.specs.declared.ask.Ask.{Ask}
use Rattle.lvm_path.specs.declared.target.Target.{Target}
use Rattle.lvm_path.specs.Targets.{is_failed}
use Rattle.lvm_session.specs.declared.open.Open.{Open}
use Rattle.lvm_session.specs.declared.open.Power.TheVariants as power
use Rattle.lvm_session.specs.State.{Core, State, state}
use Rattle.lvm_session.specs.Judging.{copies_in, is_waiting}
use Rattle.lvm_session.specs.declared.answers.AskFault.{AskFault}
use Rattle.lvm_session.specs.declared.answers.CopyFault.{CopyFault}
use Rattle.lvm_session.specs.declared.answers.OpenFault.{OpenFault}
use Rattle.lvm_session.specs.declared.answers.Taken.{Taken as Answer}
use Rattle.lvm_session.specs.declared.answers.Turned.{Turned}
use Rattle.lvm_session.specs.Calls.{Closes, OpenGives, OpenMoveGives, SubmitGives, TakeGives}
use Rattle.lvm_session.specs.Marks.{is_among}
use Rattle.lvm_session.specs.Turns.{ArrangesSession, TurnMakes}
use Rattle.lvm_disk.specs.Counts.{Counts}
use Rattle.lvm_session.specs.Causes.{AnyFailedSince, TargetHasFailed, was_usable}
use Rattle.lvm_session.specs.Sound.{IsSound}

-- each copy of what the request goes over was stale, or on a missing disk, when the session began
abbrev pub HadNone : Core → Asked → Type 0
HadNone core r = (lv b : ℕ) (p : Pp) → is_over r (Lv lv) b ≡ true → is_among (copies_in core.descriptor lv (partition_of core.descriptor.mib b)) p ≡ true → was_usable core p ≡ false

-- A request lands as Lost, ReadFailed or Off only where some disk has failed since the session began, and as NoFresh only there or where it had no usable copy
-- from the beginning.
abbrev pub HasLandedFor : State → Asked → Outcome → Type 0
HasLandedFor s r outcome.Lost = AnyFailedSince s
HasLandedFor s r outcome.ReadFailed = AnyFailedSince s
HasLandedFor s r outcome.Off = AnyFailedSince s
HasLandedFor s r outcome.NoFresh = AnyFailedSince s ⊎ HadNone s.core r
HasLandedFor s r outcome.Done = Unit {0}
HasLandedFor s r outcome.Got = Unit {0}
HasLandedFor s r outcome.Dark = Unit {0}

-- only landings need a cause
abbrev pub IsEntryCaused : State → Fact → Type 0
IsEntryCaused s (Landed r how started got) = HasLandedFor s r how
IsEntryCaused s (Making lv blocks mode) = Unit {0}
IsEntryCaused s (Made lv) = Unit {0}
IsEntryCaused s (Split from lv) = Unit {0}
IsEntryCaused s (Removing vol) = Unit {0}
IsEntryCaused s (Removed vol) = Unit {0}
IsEntryCaused s (Begun r) = Unit {0}
IsEntryCaused s (Taken r) = Unit {0}
IsEntryCaused s Cut = Unit {0}
IsEntryCaused s (On moment) = Unit {0}

-- once it has landed, a target on which its transfer failed stands on a disk that has failed since the target was chosen
abbrev pub FailuresAreCaused : Device → Open → Type 0
FailuresAreCaused device o = is_waiting o ≡ false → AllByRecursion (λ (t : Target). is_failed t.state ≡ true → TargetHasFailed device t) o.request.targets.items

-- The history goes on from what it was, and each landing since has its cause; so has each transfer that failed of a request that has landed, while the session is on.
pub record HasCausesSince (first : List Fact) (s : State) : Type 0 where
  pub since : List Fact
  pub is : s.core.history.facts ≡ first ++ since
  pub caused : AllByRecursion (IsEntryCaused s) since
  pub failed : s.core.power ≡ power.On → AllByRecursion (FailuresAreCaused s.device) s.core.requests

-- ---- laws

-- So it is as a session begins, without requests,
abbrev pub BeginningHasCauses : Type 0
BeginningHasCauses = (s : State) → s.core.requests ≡ [] → HasCausesSince s.core.history.facts s

-- and each turn of a sound session keeps it so,
abbrev pub TurnKeepsCauses : Type 0
TurnKeepsCauses = (first : List Fact) (old new : State) (answer : Turned) → IsSound old → TurnMakes old new answer → HasCausesSince first old → HasCausesSince first new

-- what a call of a client leaves of a session has its causes too
abbrev pub KeepsCauses : (State → Core → Type 0) → Type 0
KeepsCauses Call = (first : List Fact) (s : State) (new : Core) → Call s new → HasCausesSince first s → HasCausesSince first (state s.device new)

-- and so does each call of a client.
pub record CallsKeepCauses : Type 0 where
  pub submit : (client : ℕ) (ask : Ask) (bytes : Option (List ℕ)) (answer : Result ℕ AskFault) → KeepsCauses (λ s new. SubmitGives s.core new client ask bytes answer)
  pub take : (client id : ℕ) (answer : Answer) → KeepsCauses (λ s new. TakeGives s.core new client id answer)
  pub open_copy : (counts : Counts) (lv lp number : ℕ) (answer : Result (Unit {0}) CopyFault) → KeepsCauses (λ s new. OpenGives counts s.core new lv lp number answer)
  pub open_move : (counts : Counts) (lv lp number : ℕ) (to : Pp) (answer : Result (Unit {0}) OpenFault) → KeepsCauses (λ s new. OpenMoveGives counts s.core new lv lp number to answer)
  pub close_copy : KeepsCauses (λ s new. Closes s.core new)
  pub arrange : (first : List Fact) (old new : State) (what : Arrange) (done : Bool) → ArrangesSession old new what done → HasCausesSince first old → HasCausesSince first new
