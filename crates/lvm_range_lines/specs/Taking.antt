-- The answers of posts, while they are taken.
use Rattle.std.specs.Prelude.{◌≡◌, ℕ, false, [], List, Some, None, Result, Ok, Err}
use Rattle.std.specs.Global.{Vec}
use Rattle.lvm_disk.specs.Device.{Device}
use Rattle.lvm_disk.specs.Paths.{Path}
use Rattle.lvm_vol.specs.Facts.{Fact}
use Rattle.lvm_vol.specs.Legal.{IsLater}
use Rattle.lvm_vol.specs.Log.{Log, is_open}
use Rattle.lvm_kept.specs.Moments.{Moment}
use Rattle.lvm_steps.specs.Moments.{Keeps}
use Rattle.lvm_steps.specs.Requests.{at}
use Rattle.lvm_session.specs.declared.open.Power.{Power}
use Rattle.lvm_session.specs.declared.open.Power.TheVariants as power
use Rattle.lvm_session.specs.Sound.{IsSound}
use Rattle.lvm_session.specs.State.{Core, State, state, state_of}
use Rattle.lvm_group_lines.specs.passed.Driver.{IsAny}
use Rattle.lvm_posts.specs.declared.asked.Asked.{Asked}
use Rattle.lvm_posts.specs.declared.posts.Post.{Post}
use Rattle.lvm_posts.specs.Posts.{AreAnswered, AreHeld}
use Rattle.lvm_group_lines.specs.passed.Ranges.{Stuck, AreApart, HavePiecesLanded, IsUnfinished, TurnsFor}
use Rattle.lvm_group_lines.specs.passed.Handover.{AreGone}
use Rattle.lvm_group_lines.specs.passed.Tie.{RunsOn}
use Rattle.lvm_group_lines.specs.declared.reply.Reply.{Reply}
use Rattle.lvm_group_lines.specs.declared.stage.Stage.{Stage}
use Rattle.lvm_group_lines.specs.Stages.{SessionIsClosed, history_in, session_in, shelf_in}
use Rattle.lvm_range_lines.specs.declared.answers.Answers.{Answers}
use Rattle.lvm_range_lines.specs.Answers.{Gathers, Tells}
use Rattle.lvm_range_lines.specs.Leaving.{serving}
use Rattle.lvm_range_lines.specs.Refusals.{Ending}
use Rattle.lvm_range_lines.specs.Waiting.{AllHaveLanded, IsAwaited, TakesGone, TakesPosts, TurnsForPosts}

-- ---- turns

-- a post of the session has landed, or hasn't and no patience is left; one of a session that is gone isn't waited for
pub data AwaitsPost (post : Post) (left : ℕ) (old new : State) (answer : Result (Unit {0}) Stuck) : Type 0 where
  IsGone : (votes : ℕ × ℕ) → post.ended ≡ Some votes → new ≡ old → answer ≡ Ok tt → AwaitsPost post left old new answer
  HasLanded : post.ended ≡ None → Path (TurnsFor post.asked) IsAny old new → HavePiecesLanded post.asked new → answer ≡ Ok tt → AwaitsPost post left old new answer
  IsInVain : post.ended ≡ None → Path (TurnsFor post.asked) IsAny old new → IsUnfinished post.asked new → left ≡ 0 → (why : Stuck) → answer ≡ Err why → AwaitsPost post left old new answer

-- so it is of all
abbrev pub EndsAwaiting : List Post → ℕ → State → Result (Unit {0}) Stuck → Type 0
EndsAwaiting posts left new (Ok done) = AllHaveLanded posts new
EndsAwaiting posts left new (Err stuck) = IsAwaited posts new × (left ≡ 0)

pub record AwaitsPosts (posts : List Post) (left : ℕ) (old new : State) (answer : Result (Unit {0}) Stuck) : Type 0 where
  pub turns : Path (TurnsForPosts posts) IsAny old new
  pub ends : EndsAwaiting posts left new answer

-- ---- answers

-- what has landed has, and what is later stays so
pub record KeepsLater (old new : List Fact) : Type 0 where
  pub opens : (id : ℕ) → is_open new id ≡ is_open old id
  pub later : (moment : ℕ) → IsLater old moment → IsLater new moment

-- the answers of the posts were taken by the history, and their lines gathered
pub record GathersGone (old : List Fact) (posts : List Post) (new : List Fact) (answers : Answers) : Type 0 where
  pub endings : List Ending
  pub takes : TakesGone old posts new endings
  pub gathers : Gathers endings answers

-- or while a session is on
pub record GathersPosts (old : State) (posts : List Post) (new : State) (answers : Answers) : Type 0 where
  pub endings : List Ending
  pub takes : TakesPosts old posts new endings
  pub gathers : Gathers endings answers

-- what was kept goes on being kept as this history becomes that
abbrev pub StaysKept : Log → Log → Type 0
StaysKept old new = (began : Moment) (device : Device) → Keeps old.run began (at device old.facts) → Keeps old.run began (at device new.facts)

-- a session with these entries of its history
abbrev pub with_entries : Core → List Fact → Core
with_entries core facts = record core { history = record core.history { facts = facts } }

-- something is entered in it by which all stays kept, and nothing else changes
pub record Enters (old new : State) : Type 0 where
  pub is : new ≡ state old.device (with_entries old.core new.core.history.facts)
  pub keeps : StaysKept old.core.history new.core.history
  pub later : KeepsLater old.core.history.facts new.core.history.facts

-- other posts stay what they are
pub record LeavesOthers (asked : Asked) (old new : Core) : Type 0 where
  pub held : (other : Asked) → AreApart asked other → AreHeld old other → AreHeld new other
  pub answered : (other : Asked) → AreApart asked other → AreAnswered old.history.facts other → AreAnswered new.history.facts other
  pub gone : (other : Asked) → AreGone old other → AreGone new other
  pub landed : (id : ℕ) → is_open old.history.facts id ≡ false → is_open new.history.facts id ≡ false

-- ---- stages

-- while no session is on all posts are answered, and nothing else changes
pub record WaitsBehind {S : Type 0} (device : S → Device) (old new : Stage S) (answer : Reply) : Type 0 where
  pub off : session_in new ≡ None
  pub shelf : device (shelf_in new) ≡ device (shelf_in old)
  pub endings : List Ending
  pub takes : TakesGone (history_in old).facts old.posts.items (history_in new).facts endings
  pub tells : Tells endings answer
  pub rooms : history_in new ≡ record (history_in old) { facts = (history_in new).facts }
  pub posts : new.posts.items ≡ []
  pub keeps : (first : Moment) → Keeps (history_in old).run first (at (device (shelf_in old)) (history_in old).facts) → Keeps (history_in old).run first (at (device (shelf_in old)) (history_in new).facts)
  pub later : KeepsLater (history_in old).facts (history_in new).facts

-- a session goes on behind them
pub record SessionFollows {S : Type 0} (device : S → Device) (driver : S × Core) (stage : Stage S) (answer : Reply) (posts : List Post) : Type 0 where
  pub end : S × Core
  pub endings : List Ending
  pub takes : TakesPosts (state_of device driver) posts (state_of device end) endings
  pub tells : Tells endings answer
  pub runs : RunsOn (state_of device driver) (state_of device end)
  pub on : end.1.power ≡ power.On
  pub sound : IsSound (state_of device end)
  pub none : Vec Post
  pub empty : none.items ≡ []
  pub bytes : Vec ℕ
  pub is : stage ≡ serving end none bytes

-- or it is over, and all are answered once it is closed
pub record IsClosedBehind {S : Type 0} (device : S → Device) (driver : S × Core) (posts : List Post) (stage : Stage S) (answer : Reply) : Type 0 where
  pub closed : Stage S
  pub ended : SessionIsClosed device driver posts closed
  pub waits : WaitsBehind device closed stage answer

abbrev pub LandedEnds : {S : Type 0} → (S → Device) → S × Core → Vec Post → Vec ℕ → Power → Stage S → Reply → Type 0
LandedEnds device driver posts bytes power.On stage answer = SessionFollows device driver stage answer posts.items
LandedEnds device driver posts bytes other stage answer = IsClosedBehind device driver posts.items stage answer
