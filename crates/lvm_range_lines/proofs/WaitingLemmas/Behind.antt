-- Posts that are answered while no session is on, and what that leaves.
use Rattle.std.proofs.Common.{◌≡◌, ◌≤◌, ◌<◌, ◌+◌, ◌++◌, ◌^◌, ℕ, Bool, List, [], ◌∷◌, Option, Some, None, IfSome, IfNone, length, refl, sym, ◌∙◌, ap, subst, arith}
use Rattle.std.specs.Prelude.{count_by}
use Rattle.std.specs.Global.{Vec}
use Rattle.lvm_disk.specs.Device.{Device}
use Rattle.lvm_vol.specs.Facts.{Fact}
use Rattle.lvm_vol.specs.Log.{Log}
use Rattle.lvm_kept.specs.Moments.{Moment}
use Rattle.lvm_steps.specs.Moments.{Keeps}
use Rattle.lvm_steps.specs.Requests.{at}
use Rattle.lvm_group_lines.specs.passed.Core.{is_of_volume, HaveAllLanded}
use Rattle.lvm_keeps.proofs.Lists.{count_cons}
use Rattle.lvm_session.specs.State.{Core, State}
use Rattle.lvm_group_lines.specs.passed.Quiesce.{IsBehindEach}
use Rattle.lvm_steps.specs.Behind.{StampsAreEarlier}
use Rattle.lvm_session.specs.Sound.{HasPower}
use Rattle.lvm_group_lines.specs.passed.Tie.{LeavesDescriptors}
use Rattle.lvm_posts.specs.declared.posts.Post.{Post}
use Rattle.lvm_posts.specs.Posts.{takings}
use Rattle.lvm_group_lines.specs.declared.holder.Holder.TheVariants as holder
use Rattle.lvm_group_lines.specs.declared.reply.Reply.{Reply}
use Rattle.lvm_group_lines.specs.declared.stage.Stage.{Stage}
use Rattle.lvm_group_lines.specs.Moments.{LineGoesOn, HasBegunHeld, IsAlone, OfRequests}
use Rattle.lvm_group_lines.specs.Replies.{IsStuck, most_refusals}
use Rattle.lvm_group_lines.specs.Stages.{HaveRooms, IsFittingStage, history_in, session_in, shelf_in, state_in}
use Rattle.lvm_group_lines.specs.State.{ArePosted, IsOnBetween, StandsAlone, ScriptState}
use Rattle.lvm_group_lines.specs.passed.TieCommands.{StandsAfter}
use Rattle.lvm_range_lines.specs.declared.answers.Answers.{Answers}
use Rattle.lvm_range_lines.specs.Answers.{Gathers, Tells, TellsAll, TellsNone}
use Rattle.lvm_range_lines.specs.Refusals.{Ending}
use Rattle.lvm_range_lines.specs.Taking.{GathersGone, KeepsLater, WaitsBehind}
use Rattle.lvm_range_lines.specs.Waiting.{NoGone, NoPost, OneGone, OnePost, TakesGone, TakesPosts, WaitsOff}
use Rattle.lvm_range_lines.proofs.RefusalsLemmas.{refusals_most}
use Rattle.std.proofs.lemmas.List.{length-append}

-- ---- how many refusals

tells_few : (endings : List Ending) (answer : Reply) (n : ℕ) → length endings ≡ n → Tells endings answer → most_refusals answer ≤ n + 1
tells_few endings answer n long (TellsAll is) = let low = refusals_most endings in subst (λ (a : Reply). most_refusals a ≤ n + 1) (sym is) (omega (arith, low, long))
tells_few endings answer n long (TellsNone is) = subst (λ (a : Reply). most_refusals a ≤ n + 1) (sym is) (omega arith)

gone_long : {first now : List Fact} {posts : List Post} {endings : List Ending} → TakesGone first posts now endings → length endings ≡ length posts
gone_long NoGone = refl
gone_long (OneGone {posts} {facts} {answers} before post have total answer ended ends) =
    let was = gone_long before in let a = length-append answers (answer ∷ []) in let b = length-append posts (post ∷ []) in omega (arith, was, a, b)

posts_long : {first now : State} {posts : List Post} {endings : List Ending} → TakesPosts first posts now endings → length endings ≡ length posts
posts_long NoPost = refl
posts_long (OnePost {posts} {mid} {answers} before post new answer takes) =
    let was = posts_long before in let a = length-append answers (answer ∷ []) in let b = length-append posts (post ∷ []) in omega (arith, was, a, b)

pub gone_few : {first now : List Fact} {posts : List Post} {endings : List Ending} → TakesGone first posts now endings → (answer : Reply) → Tells endings answer → most_refusals answer ≤ length posts + 1
gone_few takes answer tells = tells_few _ answer _ (gone_long takes) tells

pub posts_few : {first now : State} {posts : List Post} {endings : List Ending} → TakesPosts first posts now endings → (answer : Reply) → Tells endings answer → most_refusals answer ≤ length posts + 1
posts_few takes answer tells = tells_few _ answer _ (posts_long takes) tells

-- an answer that tells of posts is none of being stuck
pub tells_heard : (endings : List Ending) (answer : Reply) → Tells endings answer → IsStuck answer → ⊥
tells_heard endings answer (TellsAll is) stuck = let e = sym is ∙ stuck in cc e
tells_heard endings answer (TellsNone is) stuck = let e = sym is ∙ stuck in cc e

-- ---- no volume is entered by it

count_more : (t : Fact → Bool) (xs ys : List Fact) → count_by t xs ≤ count_by t (xs ++ ys)
count_more t [] ys = omega arith
count_more t (x ∷ xs) ys = let a = count_cons t x xs in let b = count_cons t x (xs ++ ys) in let rest = count_more t xs ys in omega (arith, a, b, rest)

gone_volumes : {first now : List Fact} {posts : List Post} {endings : List Ending} → TakesGone first posts now endings → count_by is_of_volume first ≤ count_by is_of_volume now
gone_volumes NoGone = omega arith
gone_volumes (OneGone {posts} {facts} {answers} before post have total answer ended ends) = let was = gone_volumes before in let more = count_more is_of_volume facts (takings facts post.asked.first post.asked.pieces) in omega (arith, was, more)

-- ---- what it leaves

module _ {S : Type 0} (device : S → Device) (run : ℕ) (old : ScriptState) (closed stage : Stage S) (last : ℕ) (answer : Reply) (waits : WaitsBehind device closed stage answer) (mid_off : session_in closed ≡ None)
    (run_is : run ≡ (history_in closed).run) (says : Reply) (heard : IsStuck says → ⊥) (goes : LineGoesOn run OfRequests says old (state_in device closed last)) (few : length closed.posts.items ≤ length old.posts) where
  abbrev pub new : ScriptState
  new = state_in device stage last

  alone_mid : IsAlone OfRequests old new → IsAlone OfRequests old (state_in device closed last)
  alone_mid alone = record { enters = λ more. alone.enters (let grown : count_by is_of_volume (state_in device closed last).moment.facts ≤ count_by is_of_volume new.moment.facts = gone_volumes waits.takes in omega (arith, more, grown)); acts = alone.acts }

  moment_is : (facts : List Fact) → at (device (shelf_in closed)) facts ≡ at (device (shelf_in stage)) facts
  moment_is facts = ap (λ (d : Device). at d facts) (sym waits.shelf)

  pub behind_goes : LineGoesOn run OfRequests answer old new
  behind_goes = record {
    keeps = λ timely alone began span stands. (
      subst (Keeps run began) (moment_is (history_in stage).facts) (subst (λ r. Keeps r began (at (device (shelf_in closed)) (history_in stage).facts)) (sym run_is)
          (waits.keeps began (subst (λ r. Keeps r began (at (device (shelf_in closed)) (history_in closed).facts)) run_is (goes.keeps timely (alone_mid alone) began span stands).0))),
      λ ok past begins. subst (λ (o : Option Core). IfSome o (λ (c : Core). StandsAlone (device (shelf_in stage)) c → StandsAfter past (device (shelf_in stage)) c)) (sym waits.off) tt,
    );
    timely = λ ok timely. let t = goes.timely heard timely in record {
      ahead = record { run_is = t.ahead.run_is; later = waits.later.later (last + 1) t.ahead.later; behind = subst (λ (d : Device). IsBehindEach (last + 1) d) (sym waits.shelf) t.ahead.behind };
      session = subst (λ (o : Option Core). IfSome o (λ (core : Core). core.status.stamp.epoch ≤ last)) (sym waits.off) tt;
    };
    left = λ timely. let t = goes.left timely in record { run_is = t.run_is; later = waits.later.later (last + 1) t.later; behind = subst (λ (d : Device). StampsAreEarlier (last + 1) d) (sym waits.shelf) t.behind };
    between = λ ok. let b = goes.between heard in record {
      lit = subst HasPower (sym waits.shelf) b.lit;
      descriptors = subst LeavesDescriptors (sym waits.shelf) b.descriptors;
      landed = subst (λ (o : Option Core). IfNone o (HaveAllLanded (history_in stage).facts)) (sym waits.off) (λ id. waits.later.opens id ∙ subst (λ (o : Option Core). IfNone o (HaveAllLanded (history_in closed).facts)) mid_off b.landed id);
      session = subst (λ (o : Option Core). IfSome o (IsOnBetween (device (shelf_in stage)))) (sym waits.off) tt;
      posted = subst (λ (ps : List Post). ArePosted (history_in stage).facts (session_in stage) ps) (sym waits.posts) (record { each = λ k d less. absurd (omega (arith, less)); rise = λ i j d before less. absurd (omega (arith, less)) });
    };
    rests = λ not_asking. absurd (not_asking tt);
    begins = λ timely facts kept. off_begins old.session;
    power = ap (λ (d : Device). d.power) waits.shelf ∙ goes.power;
    waits = let w = goes.waits in let same = ap (λ (d : Device). d.counts.waits) waits.shelf in omega (arith, w, same);
    clock = goes.clock;
    few = let none = ap (λ (ps : List Post). length ps) waits.posts in let some = gone_few waits.takes answer waits.tells in omega (arith, none, some, few);
  }
    where
      off_begins : (o : Option Core) → IfNone o (IfSome (session_in stage) (HasBegunHeld (device (shelf_in stage))))
      off_begins None = subst (λ (n : Option Core). IfSome n (HasBegunHeld (device (shelf_in stage)))) (sym waits.off) tt
      off_begins (Some core) = tt

-- what it does

module _ {S : Type 0} (device : S → Device) (closed stage : Stage S) (answer : Reply) (waits : WaitsBehind device closed stage answer) (mid_off : session_in closed ≡ None) (last : ℕ) where
  abbrev was : ScriptState
  was = state_in device closed last

  abbrev now : ScriptState
  now = state_in device stage last

  abbrev left : Device → Option Core → List Post → ScriptState
  left d session posts = record { moment = at d now.moment.facts; session = session; posts = posts; last = last }

  pub waits_off : WaitsOff (state_in device closed last) (state_in device stage last) answer
  waits_off = record {
    off = mid_off;
    answers = waits.endings;
    takes = waits.takes;
    new_is = ap (λ (d : Device). left d (session_in stage) stage.posts.items) waits.shelf ∙ ap (λ (o : Option Core). left (device (shelf_in closed)) o stage.posts.items) (waits.off ∙ sym mid_off)
        ∙ ap (λ (ps : List Post). left (device (shelf_in closed)) (session_in closed) ps) waits.posts;
    tells = waits.tells;
  }

-- ---- a stage without a session

module _ {S : Type 0} (device : S → Device) (old : Stage S) (off : session_in old ≡ None) (fits : IsFittingStage old) (shelf : S) (log after : Log) (items : List Post) (posts1 : Vec Post) (bytes1 : Vec ℕ) (a : Answers) (stage : Stage S) (answer : Reply)
    (same_shelf : device shelf ≡ device (shelf_in old)) (log_is : log ≡ history_in old) (items_are : items ≡ old.posts.items) (takes : GathersGone log.facts items after.facts a) (rooms : after ≡ record log { facts = after.facts })
    (keeps : (first : Moment) (d : Device) → Keeps log.run first (at d log.facts) → Keeps log.run first (at d after.facts)) (later : KeepsLater log.facts after.facts) (tells : (endings : List Ending) → Gathers endings a → Tells endings answer)
    (empty : posts1.items ≡ []) (rooms1 : HaveRooms (history_in old).room posts1 bytes1) (is : stage ≡ record { holder = holder.Off shelf after; posts = posts1; bytes = bytes1 }) where
  after_is : history_in stage ≡ after
  after_is = ap history_in is

  pub is_behind : WaitsBehind device old stage answer
  is_behind = record {
    off = ap session_in is;
    shelf = ap (λ (s : Stage S). device (shelf_in s)) is ∙ same_shelf;
    endings = takes.endings;
    takes = subst (λ (l : Log). TakesGone (history_in old).facts old.posts.items l.facts takes.endings) (sym after_is)
        (subst (λ (ps : List Post). TakesGone (history_in old).facts ps after.facts takes.endings) items_are (subst (λ (l : Log). TakesGone l.facts items after.facts takes.endings) log_is takes.takes));
    tells = tells takes.endings takes.gathers;
    rooms = after_is ∙ rooms ∙ ap (λ (l : Log). record l { facts = after.facts }) log_is ∙ ap (λ (l : Log). record (history_in old) { facts = l.facts }) (sym after_is);
    posts = ap (λ (s : Stage S). s.posts.items) is ∙ empty;
    keeps = λ first span. subst (λ (l : Log). Keeps (history_in old).run first (at (device (shelf_in old)) l.facts)) (sym after_is)
        (subst (λ (l : Log). Keeps l.run first (at (device (shelf_in old)) l.facts) → Keeps l.run first (at (device (shelf_in old)) after.facts)) log_is (keeps first (device (shelf_in old))) span);
    later = subst (λ (l : Log). KeepsLater (history_in old).facts l.facts) (sym after_is) (subst (λ (l : Log). KeepsLater l.facts after.facts) log_is later);
  }

  pub fits_behind : IsFittingStage stage
  fits_behind =
      let room : after.room ≡ (history_in old).room = ap (λ (l : Log). l.room) rooms ∙ ap (λ (l : Log). l.room) log_is in
      subst IsFittingStage (sym is) (record { kind = tt; few = subst (λ n. n < 2 ^ 32) (sym room) fits.few; rooms = subst (λ n. HaveRooms n posts1 bytes1) (sym room) rooms1 })
