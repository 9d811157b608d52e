-- What `wait` does.
use Rattle.std.specs.Prelude.{◌≡◌, ◌≢◌, ◌∷◌, ◌++◌, ℕ, true, [], List, Some, None, Contains}
use Rattle.lvm_disk.specs.Paths.{Path}
use Rattle.lvm_vol.specs.Facts.{Fact}
use Rattle.lvm_session.specs.declared.open.Power.TheVariants as power
use Rattle.lvm_session.specs.Causes.{is_over}
use Rattle.lvm_session.specs.Sound.{IsSound}
use Rattle.lvm_session.specs.State.{Core, State, state}
use Rattle.lvm_group_lines.specs.passed.Tie.{RunsOn}
use Rattle.lvm_group_lines.specs.passed.Driver.{IsCausedFor, IsAny, IsTurn}
use Rattle.lvm_posts.specs.declared.posts.Post.{Post}
use Rattle.lvm_posts.specs.Deciding.{RangeEnds}
use Rattle.lvm_posts.specs.Posts.{takings}
use Rattle.lvm_group_lines.specs.passed.Ranges.{HavePiecesLanded, IsUnfinished, TakesRange}
use Rattle.lvm_group_lines.specs.passed.Handover.{with_taken}
use Rattle.lvm_group_lines.specs.State.{ScriptState}
use Rattle.lvm_group_lines.specs.declared.reply.Reply.{Reply}
use Rattle.lvm_group_lines.specs.declared.reply.Refusal.TheVariants as refusal
use Rattle.lvm_group_lines.specs.declared.reply.Reply.TheVariants as reply
use Rattle.lvm_range_lines.specs.Answers.{Tells}
use Rattle.lvm_range_lines.specs.Leaving.{GoesOnWith, IsOverWith, Waited, session_over}
use Rattle.lvm_range_lines.specs.Refusals.{Ending}

-- ---- the answers

-- The answers of posts whose sessions are gone are taken, one post after the other, by what the history tells of them; the history then, and the answers.
pub data TakesGone (first : List Fact) : List Post → List Fact → List Ending → Type 0 where
  NoGone : TakesGone first [] first []
  OneGone : {posts : List Post} {facts : List Fact} {answers : List Ending} → TakesGone first posts facts answers → (post : Post) (have total : ℕ) (answer : Ending) → post.ended ≡ Some (have, total)
      → RangeEnds (facts ++ takings facts post.asked.first post.asked.pieces) post.asked have total answer
      → TakesGone first (posts ++ post ∷ []) (facts ++ takings facts post.asked.first post.asked.pieces) (answers ++ answer ∷ [])

-- the answer of a post is taken while a session is on: of that session, or of one that is gone
pub data TakesPost (post : Post) (old new : State) (answer : Ending) : Type 0 where
  OfThis : post.ended ≡ None → TakesRange post.asked old new answer → TakesPost post old new answer
  OfEarlier : (have total : ℕ) → post.ended ≡ Some (have, total) → new ≡ state old.device (with_taken post.asked old.core) → RangeEnds new.core.history.facts post.asked have total answer
      → TakesPost post old new answer

-- so they are taken, one post after the other
pub data TakesPosts (first : State) : List Post → State → List Ending → Type 0 where
  NoPost : TakesPosts first [] first []
  OnePost : {posts : List Post} {mid : State} {answers : List Ending} → TakesPosts first posts mid answers → (post : Post) (new : State) (answer : Ending) → TakesPost post mid new answer
      → TakesPosts first (posts ++ post ∷ []) new (answers ++ answer ∷ [])

-- ---- the turns

-- some post of the session hasn't landed
pub record IsAwaited (posts : List Post) (s : State) : Type 0 where
  pub post : Post
  pub among : Contains posts post
  pub own : post.ended ≡ None
  pub unfinished : IsUnfinished post.asked s

-- all have
abbrev pub AllHaveLanded : List Post → State → Type 0
AllHaveLanded posts s = (post : Post) → Contains posts post → post.ended ≡ None → HavePiecesLanded post.asked s

-- a turn that is made while some hasn't: a path of these makes no turn more once all have
abbrev pub TurnsForPosts : List Post → State → State → Type 0
TurnsForPosts posts old new = IsAwaited posts old × IsTurn old new

-- ---- the line

-- no group is on, and all answers are taken
pub record WaitsOff (old new : ScriptState) (answer : Reply) : Type 0 where
  pub off : old.session ≡ None
  pub answers : List Ending
  pub takes : TakesGone old.moment.facts old.posts new.moment.facts answers
  pub new_is : new ≡ record old { moment = record old.moment { facts = new.moment.facts }; posts = [] }
  pub tells : Tells answers answer

-- a session goes on behind them
pub record WaitsOn (first : State) (old new : ScriptState) (answer : Reply) : Type 0 where
  pub answers : List Ending
  pub end : State
  pub takes : TakesPosts first old.posts end answers
  pub runs : RunsOn first end
  pub sound : IsSound end
  pub goes : GoesOnWith end [] old.last new
  pub tells : Tells answers answer

-- it is over by the turns, each request of it that has landed has its cause, and all answers are taken once it is closed
pub record WaitsOver (mid : State) (old new : ScriptState) (answer : Reply) : Type 0 where
  pub over : is_over mid.core.power ≡ true
  pub caused : (id : ℕ) → IsCausedFor mid 1 id
  pub closed : ScriptState
  pub ends : IsOverWith mid old.posts old.last closed
  pub waits : WaitsOff closed new answer

-- some post hasn't landed, and no patience is left; no answer is taken
pub record WaitsInVain (mid : State) (left : ℕ) (old new : ScriptState) (answer : Reply) : Type 0 where
  pub awaited : IsAwaited old.posts mid
  pub none : left ≡ 0
  pub ends : IsOverWith mid old.posts old.last new
  pub says : answer ≡ reply.Refused refusal.Stuck

-- what happens once no further turn is made
pub data WaitEnds (mid : State) (left : ℕ) (old new : ScriptState) (answer : Reply) : Type 0 where
  Goes : mid.core.power ≡ power.On → AllHaveLanded old.posts mid → WaitsOn mid old new answer → WaitEnds mid left old new answer
  Over : AllHaveLanded old.posts mid → WaitsOver mid old new answer → WaitEnds mid left old new answer
  InVain : WaitsInVain mid left old new answer → WaitEnds mid left old new answer

-- turns are made while some post hasn't landed
pub record WaitsFor (core : Core) (old new : ScriptState) (answer : Reply) : Type 0 where
  pub mid : State
  pub turns : Path (TurnsForPosts old.posts) IsAny (session_over old core) mid
  pub runs : RunsOn (session_over old core) mid
  pub sound : IsSound mid
  pub left : ℕ
  pub waited : Waited left (session_over old core) mid
  pub ends : WaitEnds mid left old new answer

-- All posts are answered in their order, once all have landed. Where no group is on, or one without a volume, each has.
pub data WaitDoes (old new : ScriptState) (answer : Reply) : Type 0 where
  WhileOff : WaitsOff old new answer → WaitDoes old new answer
  AtRest : (core : Core) → old.session ≡ Some core → core.descriptor.lvs ≡ [] → WaitsOn (session_over old core) old new answer → WaitDoes old new answer
  Awaits : (core : Core) → old.session ≡ Some core → core.descriptor.lvs ≢ [] → WaitsFor core old new answer → WaitDoes old new answer
