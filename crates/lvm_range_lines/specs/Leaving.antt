-- What turns and calls of a session leave between two lines.
use Rattle.std.specs.Prelude.{◌≡◌, ◌-◌, ℕ, Bool, true, false, List, Some, None, Result, Ok, Err}
use Rattle.std.specs.Global.{Vec}
use Rattle.lvm_disk.specs.Counts.{RoseBy}
use Rattle.lvm_disk.specs.Device.{Device}
use Rattle.lvm_session.specs.declared.open.Power.{Power}
use Rattle.lvm_session.specs.declared.open.Power.TheVariants as power
use Rattle.lvm_session.specs.State.{Core, State, state}
use Rattle.lvm_posts.specs.declared.fault.RangeFault.{RangeFault}
use Rattle.lvm_posts.specs.declared.posts.Post.{Post}
use Rattle.lvm_group_lines.specs.declared.holder.Holder.TheVariants as holder
use Rattle.lvm_group_lines.specs.declared.reply.Reply.{Reply}
use Rattle.lvm_group_lines.specs.declared.stage.Stage.{Stage}
use Rattle.lvm_group_lines.specs.Ends.{EndsUnasked, patience_of_line}
use Rattle.lvm_group_lines.specs.Moments.{OfRequests}
use Rattle.lvm_group_lines.specs.Stages.{IsBetweenStage, IsClosed, IsFittingStage, IsLeftBy, posts_ended}
use Rattle.lvm_group_lines.specs.State.{ArePosted, ScriptState}
use Rattle.lvm_range_lines.specs.Refusals.{is_stuck}

-- ---- states

-- the session over the shelf of a state
abbrev pub session_over : ScriptState → Core → State
session_over s core = state s.moment.device core

-- it goes on with these posts
abbrev pub GoesOnWith : State → List Post → ℕ → ScriptState → Type 0
GoesOnWith end posts last new = new ≡ record { moment = record { device = end.device; facts = end.core.history.facts }; session = Some end.core; posts = posts; last = last }

-- it is closed, and its posts have ended, which stood in it; after a power cut the power is on again
pub record IsOverWith (end : State) (posts : List Post) (last : ℕ) (new : ScriptState) : Type 0 where
  pub shelf : IsClosed end.core.power end.device new.moment.device
  pub facts : new.moment.facts ≡ end.core.history.facts
  pub session : new.session ≡ None
  pub posted : new.posts ≡ posts_ended (Some end.core) posts
  pub stood : ArePosted end.core.history.facts (Some end.core) posts
  pub clock : new.last ≡ last

-- It goes on where it is on, and is closed where it is over.
abbrev pub CarriesBy : Power → State → List Post → ℕ → ScriptState → Type 0
CarriesBy power.On end posts last new = GoesOnWith end posts last new
CarriesBy power.Off end posts last new = IsOverWith end posts last new
CarriesBy power.Dark end posts last new = IsOverWith end posts last new
CarriesBy power.Stuck end posts last new = IsOverWith end posts last new

abbrev pub CarriesTo : State → List Post → ℕ → ScriptState → Type 0
CarriesTo end posts last new = CarriesBy end.core.power end posts last new

-- so it does behind a range that failed; one that is stuck is closed
abbrev pub FailsIf : Bool → State → List Post → ℕ → ScriptState → Type 0
FailsIf true end posts last new = IsOverWith end posts last new
FailsIf false end posts last new = CarriesTo end posts last new

abbrev pub FailsBy : RangeFault → State → List Post → ℕ → ScriptState → Type 0
FailsBy why end posts last new = FailsIf (is_stuck why) end posts last new

-- and behind one that was waited for
abbrev pub EndsBy : {A : Type 0} → Result A RangeFault → State → List Post → ℕ → ScriptState → Type 0
EndsBy (Ok done) end posts last new = CarriesTo end posts last new
EndsBy (Err why) end posts last new = FailsBy why end posts last new

-- the patience of a line went with answers that nothing had ended, and so much of it is left
abbrev pub Waited : ℕ → State → State → Type 0
Waited left old new = RoseBy (patience_of_line - left) old.device.counts.waits new.device.counts.waits

-- ---- stages

-- the session of a group with volumes, with these posts
abbrev pub serving : {S : Type 0} → S × Core → Vec Post → Vec ℕ → Stage S
serving driver posts bytes = record { holder = holder.Serving driver; posts = posts; bytes = bytes }

-- that of a group without one
abbrev pub resting : {S : Type 0} → S × Core → Vec Post → Vec ℕ → Stage S
resting driver posts bytes = record { holder = holder.Empty driver; posts = posts; bytes = bytes }

-- A line goes on in the session of a stage, and ends by what becomes of the stage behind it.
abbrev pub EndsInPlace : {S : Type 0} → (S → Device) → (ScriptState → ScriptState → Reply → Type 0) → Stage S → Stage S → Reply → Type 0
EndsInPlace device Does old kept answer = (stage : Stage _) → IsLeftBy device kept answer stage → EndsUnasked device (λ log. Does) ⊥ OfRequests old stage answer

-- So it does in this session, whatever posts stand there.
abbrev pub EndsInSession : {S : Type 0} → (S → Device) → (ScriptState → ScriptState → Reply → Type 0) → S × Core → Vec ℕ → S × Core → Vec ℕ → Reply → Type 0
EndsInSession device Does old bytes kept bytes1 answer =
    (posts : Vec Post) → IsFittingStage (serving old posts bytes) → IsBetweenStage device (serving old posts bytes) → EndsInPlace device Does (serving old posts bytes) (serving kept posts bytes1) answer

-- posts stay what they are
abbrev pub KeepsPosts : Core → Core → Type 0
KeepsPosts old new = (posts : List Post) → ArePosted old.history.facts (Some old) posts → ArePosted new.history.facts (Some new) posts
