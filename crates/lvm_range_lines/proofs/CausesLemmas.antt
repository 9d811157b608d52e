-- Why posts of a session that goes on were answered otherwise than well.
use Rattle.std.proofs.Common.{◌≡◌, ◌≤◌, ℕ, List, Ok, Err, refl, sym, ◌∙◌, subst}
use Rattle.std.specs.List.{AllByRecursion}
use Rattle.lvm_num.proofs.Lists.{all_weaker}
use Rattle.lvm_disk.specs.Device.{Device}
use Rattle.lvm_session.specs.declared.open.Open.{Open}
use Rattle.lvm_session.specs.declared.open.Power.TheVariants as power
use Rattle.lvm_session.specs.Causes.{faults_at_first}
use Rattle.lvm_session.specs.State.{State}
use Rattle.lvm_posts.specs.declared.posts.Post.{Post}
use Rattle.lvm_group_lines.specs.passed.Ranges.{AreSince, GoingCause}
use Rattle.lvm_group_lines.proofs.passed.Ranges.{counted_since, going_cause, rows_stay}
use Rattle.lvm_range_lines.specs.Causes.{ArePostsCaused, IsPostCaused, PostsHaveCauses}
use Rattle.lvm_range_lines.specs.Refusals.{Ending}
use Rattle.lvm_range_lines.specs.Waiting.{NoPost, OfEarlier, OfThis, OnePost, TakesPost, TakesPosts}

-- The shelf is as it was, the session is on, and the targets of all requests were chosen since disks had so many faults.
record IsStill (faults : ℕ → ℕ) (first now : State) : Type 0 where
  pub device : now.device ≡ first.device
  pub on : now.core.power ≡ power.On
  pub since : AllByRecursion (AreSince faults) now.core.requests

module _ (faults : ℕ → ℕ) where
  post_still : (post : Post) (first old new : State) (answer : Ending) → TakesPost post old new answer → IsStill faults first old → IsStill faults first new
  post_still post first old new answer (OfThis own range) was = record { device = range.shelf ∙ was.device; on = range.power_is ∙ was.on; since = rows_stay (AreSince faults) range.takes was.since }
  post_still post first old new answer (OfEarlier have total is same ends) was = subst (λ (s : State). IsStill faults first s) (sym same) (record { device = was.device; on = was.on; since = was.since })

  still : {first : State} {posts : List Post} {now : State} {answers : List Ending} → TakesPosts first posts now answers → IsStill faults first first → IsStill faults first now
  still NoPost start = start
  still {first} (OnePost {mid = mid} before post new answer takes) start = post_still post first mid new answer takes (still before start)

  post_caused : (post : Post) (first old new : State) (answer : Ending) → TakesPost post old new answer → IsStill faults first old → IsPostCaused faults first.device old.core post answer
  post_caused post first old new (Ok done) takes was = tt
  post_caused post first old new (Err why) (OfThis own range) was = λ its.
      subst (λ (d : Device). GoingCause faults post.asked old.core d why) (range.shelf ∙ was.device)
      (going_cause faults post.asked old new why was.on (all_weaker (AreSince faults) (λ (o : Open). post.asked.first ≤ o.request.id → AreSince faults o) (λ o since above. since) old.core.requests was.since) range)
  post_caused post first old new (Err why) (OfEarlier have total is same ends) was = λ its. absurd (cc (sym its ∙ is))

  posts_caused : {first : State} {posts : List Post} {now : State} {answers : List Ending} (takes : TakesPosts first posts now answers) → IsStill faults first first → ArePostsCaused faults first.device takes
  posts_caused NoPost start = tt
  posts_caused {first} (OnePost {mid = mid} before post new answer takes) start = (posts_caused before start, post_caused post first mid new answer takes (still before start))

pub posts_have_causes : PostsHaveCauses
posts_have_causes first now posts answers takes sound on = posts_caused (faults_at_first first.core) takes (record { device = refl; on = on; since = counted_since first sound })
