-- Why posts ended otherwise than well: those that a `wait` answers, and those whose session is over behind a line.
use Rattle.std.specs.Prelude.{◌≡◌, ◌<◌, ◌+◌, ◌∷◌, ℕ, All, [], List, Option, Some, None, Result, Ok, Err}
use Rattle.lvm_disk.specs.Counts.{Rose}
use Rattle.lvm_vol.specs.declared.entry.Outcome.{Outcome}
use Rattle.lvm_vol.specs.declared.entry.Outcome.TheVariants as outcome
use Rattle.lvm_vol.specs.Log.{Log}
use Rattle.lvm_parse.specs.declared.command.Command.{Command}
use Rattle.lvm_parse.specs.declared.command.Command.TheVariants as command
use Rattle.lvm_parse.specs.declared.rest.Misfit.{Misfit}
use Rattle.lvm_parse.specs.Grammar.{line_of}
use Rattle.lvm_core.specs.declared.parts.Room.{Room}
use Rattle.lvm_session.specs.Causes.{AnyFailedSince}
use Rattle.lvm_session.specs.Sound.{outcome_in}
use Rattle.lvm_session.specs.State.{Core, state}
use Rattle.lvm_posts.specs.declared.fault.RangeFault.{RangeFault}
use Rattle.lvm_posts.specs.declared.fault.RangeFault.TheVariants as fault
use Rattle.lvm_posts.specs.declared.posts.Post.{Post}
use Rattle.lvm_volume_lines.specs.passed.RangeLines.{Ending, Tells}
use Rattle.lvm_volume_lines.specs.passed.GroupLines.{IsRequesting, Reply, ScriptState}
use Rattle.lvm_volume_lines.specs.passed.ReplyVariants as reply
use Rattle.lvm_line.specs.Lines.{IsLine, role_of}

-- a transfer has failed since the session began that was on
pub record HasFailedSince (old new : ScriptState) : Type 0 where
  pub core : Core
  pub on : old.session ≡ Some core
  pub failed : AnyFailedSince (state new.moment.device core)

-- Why a piece of a post of that session landed so: a transfer has failed since it began, or the power was cut in the line. For the others nothing has to have
-- happened.
abbrev pub OutcomeCause : ScriptState → ScriptState → Outcome → Type 0
OutcomeCause old new outcome.Lost = HasFailedSince old new
OutcomeCause old new outcome.ReadFailed = HasFailedSince old new
OutcomeCause old new outcome.Off = HasFailedSince old new
OutcomeCause old new outcome.Dark = Rose old.moment.device.counts.cuts new.moment.device.counts.cuts
OutcomeCause old new other = Unit {0}

-- so why one of its posts is answered so, which never is that nothing was heard of it
abbrev pub PostCause : ScriptState → ScriptState → RangeFault → Type 0
PostCause old new fault.Lost = HasFailedSince old new
PostCause old new fault.ReadFailed = HasFailedSince old new
PostCause old new (fault.WentOff have total) = HasFailedSince old new
PostCause old new fault.Dark = Rose old.moment.device.counts.cuts new.moment.device.counts.cuts
PostCause old new fault.Stuck = ⊥
PostCause old new (fault.NoFresh lp) = Unit {0}

-- ---- what a `wait` tells

-- it holds of each post and its answer, as many of the one as of the other
abbrev pub EachTold : (Post → Ending → Type 0) → List Post → List Ending → Type 0
EachTold Holds [] [] = Unit {0}
EachTold Holds (post ∷ posts) (answer ∷ answers) = Holds post answer × EachTold Holds posts answers
EachTold Holds [] (answer ∷ answers) = ⊥
EachTold Holds (post ∷ posts) [] = ⊥

-- the answer of a post of the session that was on has its cause
abbrev pub IsToldFor : ScriptState → ScriptState → Post → Ending → Type 0
IsToldFor old new post (Ok done) = Unit {0}
IsToldFor old new post (Err why) = post.ended ≡ None → PostCause old new why

-- a reply that tells how all posts ended, and so why
pub record TellsForCause (old new : ScriptState) (answer : Reply) : Type 0 where
  pub answers : List Ending
  pub tells : Tells answers answer
  pub caused : EachTold (IsToldFor old new) old.posts answers

-- ---- the posts of a session that is over

-- Where no session is on behind the line, each piece of a post of the one that was on has landed for its cause. A later `wait` tells of it by the history.
abbrev pub PostsEndForCause : ScriptState → ScriptState → Type 0
PostsEndForCause old new = new.session ≡ None
    → All (λ post. post.ended ≡ None → (k : ℕ) (how : Outcome) → k < post.asked.pieces → outcome_in new.moment.facts (post.asked.first + k) ≡ Some how → OutcomeCause old new how) old.posts

-- ---- by lines

-- So is what a `wait` tells, and so it is of each line that ends a session which has posts; of others none of them is told, or ends.
abbrev pub ToldCause : Result (Option Command) Misfit → Reply → ScriptState → ScriptState → Type 0
ToldCause (Ok (Some command.Wait)) (reply.Answers text refused) old new = TellsForCause old new (reply.Answers text refused)
ToldCause (Ok (Some (command.Rd name at count))) answer old new = PostsEndForCause old new
ToldCause (Ok (Some (command.Wr name at count word))) answer old new = PostsEndForCause old new
ToldCause (Ok (Some (command.Step turns))) answer old new = PostsEndForCause old new
ToldCause (Ok (Some (command.Migratepv volume from to))) answer old new = PostsEndForCause old new
ToldCause (Ok (Some (command.SyncVolume name))) answer old new = PostsEndForCause old new
ToldCause (Ok (Some (command.SyncGroup name))) answer old new = PostsEndForCause old new
ToldCause (Ok (Some (command.Cut word))) answer old new = PostsEndForCause old new
ToldCause read answer old new = Unit {0}

abbrev pub ToldLaw : Type 0
ToldLaw = (log : Log) (room : Room) (line : List ℕ) (answer : Reply) (old new : ScriptState) → IsLine log room line answer old new → ToldCause (line_of line) answer old new

-- ---- where nothing fails

-- no transfer has failed since the session began that was on, and the power wasn't cut in the line
pub record NothingSince (old new : ScriptState) : Type 0 where
  pub none : HasFailedSince old new → ⊥
  pub lit : Rose old.moment.device.counts.cuts new.moment.device.counts.cuts → ⊥

-- an answer by which the post was done, or had no copy to go to
abbrev pub IsDoneOrLacks : Ending → Type 0
IsDoneOrLacks (Ok done) = Unit {0}
IsDoneOrLacks (Err (fault.NoFresh lp)) = Unit {0}
IsDoneOrLacks (Err other) = ⊥

-- So was each post of that session answered.
pub record TellsWell (old new : ScriptState) (answer : Reply) : Type 0 where
  pub answers : List Ending
  pub tells : Tells answers answer
  pub well : EachTold (λ post ending. post.ended ≡ None → IsDoneOrLacks ending) old.posts answers

abbrev pub IsWellTold : Result (Option Command) Misfit → Reply → ScriptState → ScriptState → Type 0
IsWellTold (Ok (Some command.Wait)) (reply.Answers text refused) old new = TellsWell old new (reply.Answers text refused)
IsWellTold read answer old new = Unit {0}

abbrev pub ToldWellLaw : Type 0
ToldWellLaw = (log : Log) (room : Room) (line : List ℕ) (answer : Reply) (old new : ScriptState) → IsLine log room line answer old new → NothingSince old new → IsWellTold (line_of line) answer old new

-- There is such a line, by which turns are made.
abbrev pub NothingMayHappen : Type 0
NothingMayHappen = (log : Log) (room : Room) → (line : List ℕ) × (answer : Reply) × (old : ScriptState) × (new : ScriptState) × IsLine log room line answer old new × IsRequesting (role_of (line_of line)) × NothingSince old new
