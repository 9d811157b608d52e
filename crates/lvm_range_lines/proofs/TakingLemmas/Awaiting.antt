-- Turns until each post has landed.
use Rattle.std.proofs.Common.{◌≡◌, ◌≤◌, ◌<◌, ◌+◌, ◌-◌, ℕ, List, Some, None, length, get_or, refl, sym, ◌∙◌, subst, arith, below_more}
use Rattle.std.specs.Prelude.{Result, Ok, Err}
use Rattle.std.proofs.lemmas.List.{get_or_default}
use Rattle.lvm_disk.specs.Counts.{RoseBy}
use Rattle.lvm_disk.specs.Paths.{Path, Here, Then}
use Rattle.lvm_disk.proofs.PathsLemmas.{append-path}
use Rattle.lvm_disk.proofs.CountingLemmas.{rose_by_none}
use Rattle.lvm_session.specs.State.{State}
use Rattle.lvm_group_lines.specs.passed.Driver.{IsAny}
use Rattle.lvm_group_lines.specs.passed.Tie.{RunsOn}
use Rattle.lvm_group_lines.proofs.passed.Tie.{runs_both, runs_none}
use Rattle.lvm_posts.specs.declared.posts.Post.{Post}
use Rattle.lvm_group_lines.specs.passed.Ranges.{Stuck, KeepsTable, AwaitEnds, HavePiecesLanded, IsUnfinished, TurnsFor}
use Rattle.lvm_group_lines.proofs.passed.Ranges.{table_same, table_then}
use Rattle.lvm_range_lines.specs.Taking.{AwaitsPost, AwaitsPosts, HasLanded, IsGone, IsInVain}
use Rattle.lvm_range_lines.specs.Waiting.{IsAwaited, TurnsForPosts}

pub no_wait : (left waits : ℕ) → RoseBy (left - left) waits waits
no_wait left waits = let none : 0 ≡ left - left = omega arith in subst (λ n. RoseBy n waits waits) none (rose_by_none waits)

pub awaits_range : (post : Post) (left : ℕ) (old new : State) (answer : Result (Unit {0}) Stuck) → post.ended ≡ None → Path (TurnsFor post.asked) IsAny old new → AwaitEnds post.asked left new answer → AwaitsPost post left old new answer
awaits_range post left old new (Ok done) is turns ends = HasLanded is turns ends refl
awaits_range post left old new (Err stuck) is turns ends = IsInVain is turns ends.0 ends.1 stuck refl

-- ---- all

-- the turns for one of the posts are turns for all
for_all : (posts : List Post) (post : Post) (old new : State) → ((s : State) → IsUnfinished post.asked s → IsAwaited posts s) → Path (TurnsFor post.asked) IsAny old new → Path (TurnsForPosts posts) IsAny old new
for_all posts post old _ awaited (Here any) = Here any
for_all posts post old new awaited (Then {m} before step any) = Then (for_all posts post old m awaited before) (awaited m step.0, step.1) any

-- so far
pub record AwaitedSoFar (posts : List Post) (first now : State) (patience left i : ℕ) : Type 0 where
  pub turns : Path (TurnsForPosts posts) IsAny first now
  pub landed : (k : ℕ) (d : Post) → k < i → (get_or posts k d).ended ≡ None → HavePiecesLanded (get_or posts k d).asked now
  pub table : KeepsTable first.core now.core
  pub runs : RunsOn first now
  pub fewer : left ≤ patience
  pub waited : RoseBy (patience - left) first.device.counts.waits now.device.counts.waits

pub none_awaited : (posts : List Post) (first : State) (patience : ℕ) → AwaitedSoFar posts first first patience patience 0
none_awaited posts first patience = record {
  turns = Here tt;
  landed = λ k d less. absurd (omega (arith, less));
  table = table_same first.core;
  runs = runs_none first;
  fewer = omega arith;
  waited = no_wait patience first.device.counts.waits;
}

module _ (posts : List Post) (first old new : State) (patience left less_left i : ℕ) (d : Post) (within : i < length posts) (so_far : AwaitedSoFar posts first old patience left i)
    (table : KeepsTable old.core new.core) (runs : RunsOn old new) (fewer : less_left ≤ left) (waited : RoseBy (left - less_left) old.device.counts.waits new.device.counts.waits) where
  abbrev post : Post
  post = get_or posts i d

  awaited : post.ended ≡ None → (s : State) → IsUnfinished post.asked s → IsAwaited posts s
  awaited own s unfinished = record { post = post; among = (i, within, get_or_default posts i post d within); own = own; unfinished = unfinished }

  turns_on : post.ended ≡ None → Path (TurnsFor post.asked) IsAny old new → Path (TurnsForPosts posts) IsAny first new
  turns_on own turns = append-path so_far.turns (for_all posts post old new (awaited own) turns)

  waited_on : RoseBy (patience - less_left) first.device.counts.waits new.device.counts.waits
  waited_on = let a = so_far.waited in let low = so_far.fewer in record { later = omega (arith, a.later, waited.later); risen = omega (arith, a.risen, waited.risen, low, fewer) }

  others_landed : (k : ℕ) (e : Post) → k < i → (get_or posts k e).ended ≡ None → HavePiecesLanded (get_or posts k e).asked new
  others_landed k e low own j less = table.requests.landed ((get_or posts k e).asked.first + j) (so_far.landed k e low own j less)

  pub one_awaited : AwaitsPost post less_left old new (Ok tt) → AwaitedSoFar posts first new patience less_left (i + 1)
  one_awaited its = record {
    turns = turns_then its;
    landed = λ k e low own. landed_then its k e low own;
    table = table_then first.core old.core new.core so_far.table table;
    runs = runs_both first old new so_far.runs runs;
    fewer = let low = so_far.fewer in omega (arith, low, fewer);
    waited = waited_on;
  }
    where
      turns_then : AwaitsPost post less_left old new (Ok tt) → Path (TurnsForPosts posts) IsAny first new
      turns_then (IsGone votes is same ok) = subst (Path (TurnsForPosts posts) IsAny first) (sym same) so_far.turns
      turns_then (HasLanded is turns landed ok) = turns_on is turns
      turns_then (IsInVain is turns unfinished none why fails) = absurd (cc fails)

      here : AwaitsPost post less_left old new (Ok tt) → post.ended ≡ None → HavePiecesLanded post.asked new
      here (IsGone votes is same ok) own = absurd (let e : Some votes ≡ None = sym is ∙ own in cc e)
      here (HasLanded is turns landed ok) own = landed
      here (IsInVain is turns unfinished none why fails) own = absurd (cc fails)

      landed_then : AwaitsPost post less_left old new (Ok tt) → (k : ℕ) (e : Post) → k < i + 1 → (get_or posts k e).ended ≡ None → HavePiecesLanded (get_or posts k e).asked new
      landed_then its k e low own = below_more (λ m. (get_or posts m e).ended ≡ None → HavePiecesLanded (get_or posts m e).asked new) i (λ m below. others_landed m e below)
          (subst (λ (p : Post). p.ended ≡ None → HavePiecesLanded p.asked new) (get_or_default posts i d e within) (here its)) k low own

  -- or it is in vain
  pub one_in_vain : (why : Stuck) → AwaitsPost post less_left old new (Err why) → AwaitsPosts posts less_left first new (Err why)
  one_in_vain why (IsGone votes is same ok) = absurd (cc ok)
  one_in_vain why (HasLanded is turns landed ok) = absurd (cc ok)
  one_in_vain why (IsInVain is turns unfinished none stuck fails) = record { turns = turns_on is turns; ends = (awaited is new unfinished, none) }

  pub table_now : KeepsTable first.core new.core
  table_now = table_then first.core old.core new.core so_far.table table

  pub runs_now : RunsOn first new
  runs_now = runs_both first old new so_far.runs runs

  pub waited_now : RoseBy (patience - less_left) first.device.counts.waits new.device.counts.waits
  waited_now = waited_on

pub all_awaited : (posts : List Post) (first now : State) (patience left i : ℕ) → length posts ≤ i → AwaitedSoFar posts first now patience left i → AwaitsPosts posts left first now (Ok tt)
all_awaited posts first now patience left i over so_far = record {
  turns = so_far.turns;
  ends = λ post among own. let less = among.1 in
      subst (λ (p : Post). p.ended ≡ None → HavePiecesLanded p.asked now) among.2 (so_far.landed among.0 post (omega (arith, over, less))) own;
}
