-- What a line does that asks for a range of a volume.
use Rattle.std.specs.Prelude.{◌≡◌, ◌∷◌, ◌++◌, ℕ, [], List, Option, Some, None, Result, Ok, Err, IfErr}
use Rattle.lvm_num.specs.Buffer.{Sector}
use Rattle.lvm_group_lines.specs.passed.Core.{IsNumberOf, HasNoVolumeNamed}
use Rattle.lvm_session.specs.Sound.{IsSound}
use Rattle.lvm_session.specs.State.{Core, State}
use Rattle.lvm_group_lines.specs.Disks.{blocks_text}
use Rattle.lvm_group_lines.specs.passed.Tie.{RunsOn}
use Rattle.lvm_posts.specs.declared.asked.Asked.{Asked}
use Rattle.lvm_posts.specs.declared.fault.RangeFault.{RangeFault}
use Rattle.lvm_posts.specs.declared.posts.Post.{Post}
use Rattle.lvm_group_lines.specs.passed.Ranges.{AskRangeFault, AskRangeGives, FinishGives, AreGot, RangeCause}
use Rattle.lvm_group_lines.specs.State.{ScriptState}
use Rattle.lvm_group_lines.specs.Replies.{IsRefused, Shows}
use Rattle.lvm_group_lines.specs.declared.reply.Refusal.{Refusal}
use Rattle.lvm_group_lines.specs.declared.reply.Reply.{Reply}
use Rattle.lvm_group_lines.specs.declared.reply.Refusal.TheVariants as refusal
use Rattle.lvm_group_lines.specs.declared.reply.Reply.TheVariants as reply
use Rattle.lvm_range_lines.specs.Leaving.{EndsBy, GoesOnWith, Waited, session_over}
use Rattle.lvm_range_lines.specs.Refusals.{ask_refusal, range_refusal}

-- The line is refused where no group is on, or has no volume of this name; else this happens to the session and the volume of that number.
pub data OnVolume (name : List ℕ) (Happens : Core → ℕ → Type 0) (old new : ScriptState) (answer : Reply) : Type 0 where
  WhileOff : old.session ≡ None → IsRefused refusal.NoGroup answer old new → OnVolume name Happens old new answer
  NotThere : (core : Core) → old.session ≡ Some core → HasNoVolumeNamed core.descriptor.lvs name → IsRefused refusal.NoVolume answer old new → OnVolume name Happens old new answer
  There : (core : Core) (lv : ℕ) → old.session ≡ Some core → IsNumberOf core.descriptor.lvs name lv → Happens core lv → OnVolume name Happens old new answer

-- A range of the volume of this name is asked for; or there is none, or something is against it, and nothing changes.
pub data AsksByName (name : List ℕ) (write : Option ℕ) (at count : ℕ) (old new : Core) (answer : Result Asked Refusal) : Type 0 where
  HasNone : HasNoVolumeNamed old.descriptor.lvs name → new ≡ old → answer ≡ Err refusal.NoVolume → AsksByName name write at count old new answer
  Refuses : (lv : ℕ) (why : AskRangeFault) → IsNumberOf old.descriptor.lvs name lv → AskRangeGives write lv at count old new (Err why) → new ≡ old → answer ≡ Err (ask_refusal why)
      → AsksByName name write at count old new answer
  Takes : (lv : ℕ) (asked : Asked) → IsNumberOf old.descriptor.lvs name lv → AskRangeGives write lv at count old new (Ok asked) → answer ≡ Ok asked → AsksByName name write at count old new answer

-- it is refused since the range isn't asked for
pub record IsNotAsked (write : Option ℕ) (lv at count : ℕ) (core : Core) (old new : ScriptState) (answer : Reply) : Type 0 where
  pub why : AskRangeFault
  pub gives : AskRangeGives write lv at count core core (Err why)
  pub refused : IsRefused (ask_refusal why) answer old new

-- ---- post

-- the post of a range that is asked for
abbrev pub post_of : Asked → Post
post_of asked = record { asked = asked; ended = None }

-- it is asked for, and stands behind the posts
pub record PostsRange (lv at count word : ℕ) (core : Core) (old new : ScriptState) (answer : Reply) : Type 0 where
  pub asked : Asked
  pub begun : Core
  pub gives : AskRangeGives (Some word) lv at count core begun (Ok asked)
  pub runs : RunsOn (session_over old core) (session_over old begun)
  pub goes : GoesOnWith (session_over old begun) (old.posts ++ post_of asked ∷ []) old.last new
  pub says : answer ≡ reply.Posted

pub data Posts (lv at count word : ℕ) (core : Core) (old new : ScriptState) (answer : Reply) : Type 0 where
  NotPosted : IsNotAsked (Some word) lv at count core old new answer → Posts lv at count word core old new answer
  Posted : PostsRange lv at count word core old new answer → Posts lv at count word core old new answer

abbrev pub PostDoes : List ℕ → ℕ → ℕ → ℕ → ScriptState → ScriptState → Reply → Type 0
PostDoes name at count word old new answer = OnVolume name (λ core lv. Posts lv at count word core old new answer) old new answer

-- ---- wr and rd

-- It is asked for and waited for, and its answers are taken; so much patience is left. Where it ended otherwise than well, that has its cause.
pub record IsFinished (write : Option ℕ) (lv at count : ℕ) (core : Core) (old new : ScriptState) (end : State) (asked : Asked) (done : Result (Unit {0}) RangeFault) : Type 0 where
  pub begun : Core
  pub gives : AskRangeGives write lv at count core begun (Ok asked)
  pub left : ℕ
  pub finishes : FinishGives asked left (session_over old begun) end done
  pub waited : Waited left (session_over old begun) end
  pub caused : IfErr done (RangeCause lv left (session_over old core) end)
  pub runs : RunsOn (session_over old core) end
  pub sound : IsSound end
  pub ends : EndsBy done end old.posts old.last new

-- so it is, and this answers
pub data Finishes (write : Option ℕ) (Says : State → Asked → Reply → Type 0) (lv at count : ℕ) (core : Core) (old new : ScriptState) (answer : Reply) : Type 0 where
  NotBegun : IsNotAsked write lv at count core old new answer → Finishes write Says lv at count core old new answer
  EndsWell : (end : State) (asked : Asked) → IsFinished write lv at count core old new end asked (Ok tt) → Says end asked answer → Finishes write Says lv at count core old new answer
  Fails : (end : State) (asked : Asked) (why : RangeFault) → IsFinished write lv at count core old new end asked (Err why) → answer ≡ reply.Refused (range_refusal why)
      → Finishes write Says lv at count core old new answer

abbrev pub WrDoes : List ℕ → ℕ → ℕ → ℕ → ScriptState → ScriptState → Reply → Type 0
WrDoes name at count word old new answer = OnVolume name (λ core lv. Finishes (Some word) (λ end asked says. says ≡ reply.Ok) lv at count core old new answer) old new answer

-- the lines of the blocks that its requests got
pub record ShowsGot (at : ℕ) (end : State) (asked : Asked) (answer : Reply) : Type 0 where
  pub blocks : List Sector
  pub got : AreGot end.core.history.facts asked.first asked.pieces blocks
  pub shows : Shows (blocks_text at blocks) answer

-- where no memory is found for the blocks or their lines, the reply says so
pub data ShowsBlocks (at : ℕ) (end : State) (asked : Asked) (answer : Reply) : Type 0 where
  ShowsThem : ShowsGot at end asked answer → ShowsBlocks at end asked answer
  NoMemory : answer ≡ reply.Refused refusal.Memory → ShowsBlocks at end asked answer

abbrev pub RdDoes : List ℕ → ℕ → ℕ → ScriptState → ScriptState → Reply → Type 0
RdDoes name at count old new answer = OnVolume name (λ core lv. Finishes None (ShowsBlocks at) lv at count core old new answer) old new answer
