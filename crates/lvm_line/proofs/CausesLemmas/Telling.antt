-- What a `wait` tells of posts, and why.
use Rattle.std.proofs.Common.{◌≡◌, ◌+◌, ◌++◌, ℕ, zero, suc, List, [], ◌∷◌, true, if◌then◌else◌, map, Option, Some, None, Ok, Err, refl, sym, ◌∙◌, ap, subst, arith}
use Rattle.std.specs.Prelude.{All, IfSome}
use Rattle.std.specs.List.{list_any}
use Rattle.std.proofs.lemmas.List.{append-nil, append_assoc}
use Rattle.lvm_num.specs.Votes.{total_votes}
use Rattle.lvm_vol.specs.declared.entry.Outcome.{Outcome}
use Rattle.lvm_vol.specs.declared.entry.Outcome.TheVariants as outcome
use Rattle.lvm_vol.specs.Facts.{Fact, Request, Taken}
use Rattle.lvm_vol.specs.Log.{lands_id, taken_fact}
use Rattle.lvm_disk.specs.Counts.{Counts}
use Rattle.lvm_session.specs.declared.open.Power.TheVariants as power
use Rattle.lvm_session.specs.Calls.{is_asked}
use Rattle.lvm_session.specs.Causes.{AnyFailedSince, faults_at_first}
use Rattle.lvm_session.specs.declared.origin.Origin.{Origin}
use Rattle.lvm_session.specs.Sound.{IsSound, outcome_by, outcome_in}
use Rattle.lvm_session.specs.State.{Core, State, state, votes_there}
use Rattle.lvm_posts.specs.declared.fault.RangeFault.{RangeFault}
use Rattle.lvm_posts.specs.declared.fault.RangeFault.TheVariants as fault
use Rattle.lvm_posts.specs.declared.posts.Post.{Post}
use Rattle.lvm_posts.specs.Deciding.{AllWell, FirstFails, RangeEnds, fault_by}
use Rattle.lvm_posts.specs.Pieces.{piece_lp}
use Rattle.lvm_posts.specs.Posts.{AreHeld, ended_with, takings}
use Rattle.lvm_volume_lines.specs.passed.Tie.{LeavesSession}
use Rattle.lvm_volume_lines.proofs.passed.Tie.{goes_any, path_frames, path_shape}
use Rattle.lvm_volume_lines.specs.passed.RangeLines.{ArePostsCaused, Ending, IsPostCaused, session_over}
use Rattle.lvm_volume_lines.specs.passed.RangeLinesWaiting.{AtRest, Awaits, Goes, InVain, NoGone, NoPost, OneGone, OnePost, Over, TakesGone, TakesPosts, WaitDoes, WaitEnds, WaitsOn, WaitsOver, WhileOff}
use Rattle.lvm_volume_lines.specs.passed.GroupLines.{IsBetween, IsOnBetween, Reply, ScriptState}
use Rattle.lvm_volume_lines.specs.passed.ReplyVariants as reply
use Rattle.lvm_volume_lines.proofs.passed.RangeLines.{posts_have_causes}
use Rattle.lvm_line.specs.Told.{EachTold, HasFailedSince, IsToldFor, OutcomeCause, PostCause, TellsForCause}
use Rattle.lvm_line.proofs.CausesLemmas.Landing.{landing_cause, since}
use Rattle.lvm_line.proofs.CausesLemmas.Turns.{dark_cause, over_counts}

-- ---- posts and their answers

each_more : (Holds : Post → Ending → Type 0) (posts : List Post) (answers : List Ending) (post : Post) (answer : Ending) → EachTold Holds posts answers → Holds post answer → EachTold Holds (posts ++ post ∷ []) (answers ++ answer ∷ [])
each_more Holds [] [] post answer all it = (it, tt)
each_more Holds (p ∷ posts) (a ∷ answers) post answer all it = (all.0, each_more Holds posts answers post answer all.1 it)
each_more Holds [] (a ∷ answers) post answer all it = absurd all
each_more Holds (p ∷ posts) [] post answer all it = absurd all

-- ---- posts whose sessions are gone

-- the history tells how the post ended, as it did at first
record EndsAs (first : List Fact) (post : Post) (answer : Ending) : Type 0 where
  have : ℕ
  total : ℕ
  votes : post.ended ≡ Some (have, total)
  facts : List Fact
  ends : RangeEnds facts post.asked have total answer
  same : (id : ℕ) → outcome_in facts id ≡ outcome_in first id

taken_still : (facts : List Fact) (r : Request) (id : ℕ) → outcome_in (facts ++ Taken r ∷ []) id ≡ outcome_in facts id
taken_still [] r id = refl
taken_still (f ∷ facts) r id = ap (λ (o : Option Outcome). if lands_id id f then outcome_by f else o) (taken_still facts r id)

takings_still : (facts : List Fact) (id n other : ℕ) → outcome_in (facts ++ takings facts id n) other ≡ outcome_in facts other
takings_still facts id zero other = ap (λ (fs : List Fact). outcome_in fs other) (append-nil facts)
takings_still facts id (suc n) other =
    ap (λ (fs : List Fact). outcome_in fs other) (sym (append_assoc facts (takings facts id n) (taken_fact facts (id + n) ∷ [])))
    ∙ taken_still (facts ++ takings facts id n) _ other ∙ takings_still facts id n other

gone_so : {first : List Fact} {posts : List Post} {facts : List Fact} {answers : List Ending} → TakesGone first posts facts answers → ((id : ℕ) → outcome_in facts id ≡ outcome_in first id) × EachTold (EndsAs first) posts answers
gone_so NoGone = (λ id. refl, tt)
gone_so {first} (OneGone {posts = posts} {facts = facts} {answers = answers} before post have total answer is ends) =
    let so_far = gone_so before in
    let same = λ (id : ℕ). takings_still facts post.asked.first post.asked.pieces id ∙ so_far.0 id in
    (same, each_more (EndsAs first) posts answers post answer so_far.1 (record { have = have; total = total; votes = is; facts = facts ++ takings facts post.asked.first post.asked.pieces; ends = ends; same = same }))

-- ---- the causes

module _ (old new : ScriptState) where
  -- a post of a session that was gone before has none to be told
  gone_told : (posts : List Post) (first : List Fact) (answers : List Ending) → EachTold (EndsAs first) posts answers → EachTold (IsToldFor old new) posts answers
  gone_told [] first [] all = tt
  gone_told (post ∷ posts) first (Ok done ∷ answers) all = (tt, gone_told posts first answers all.1)
  gone_told (post ∷ posts) first (Err why ∷ answers) all = (λ own. absurd (let e = sym own ∙ all.0.votes in cc e), gone_told posts first answers all.1)
  gone_told [] first (a ∷ answers) all = absurd all
  gone_told (post ∷ posts) first [] all = absurd all

  -- the fault of a piece is for its landing
  fault_for : (lp have total : ℕ) (how : Outcome) (why : RangeFault) → fault_by lp have total how ≡ Some why → OutcomeCause old new how → PostCause old new why
  fault_for lp have total outcome.Done why is cause = absurd (cc is)
  fault_for lp have total outcome.Got why is cause = absurd (cc is)
  fault_for lp have total outcome.Lost why is cause = subst (PostCause old new) {x = fault.Lost} (cc is) cause
  fault_for lp have total outcome.ReadFailed why is cause = subst (PostCause old new) {x = fault.ReadFailed} (cc is) cause
  fault_for lp have total outcome.NoFresh why is cause = subst (PostCause old new) {x = fault.NoFresh lp} (cc is) tt
  fault_for lp have total outcome.Off why is cause = subst (PostCause old new) {x = fault.WentOff have total} (cc is) cause
  fault_for lp have total outcome.Dark why is cause = subst (PostCause old new) {x = fault.Dark} (cc is) cause

  module _ (between : IsBetween old.moment old.session old.posts) (core : Core) (on : old.session ≡ Some core) where
    on_first : IsOnBetween old.moment.device core
    on_first = subst (λ (o : Option Core). IfSome o (IsOnBetween old.moment.device)) on between.session

    -- ---- while it goes on

    module _ (mid : State) (so : AnyFailedSince mid → HasFailedSince old new) where
      going_for : (at : Core) (post : Post) (answer : Ending) → IsPostCaused (faults_at_first mid.core) mid.device at post answer → IsToldFor old new post answer
      going_for at post (Ok done) caused = tt
      going_for at post (Err fault.Lost) caused = λ own. so (caused own)
      going_for at post (Err fault.ReadFailed) caused = λ own. so (caused own)
      going_for at post (Err (fault.NoFresh lp)) caused = λ own. tt
      going_for at post (Err fault.Dark) caused = λ own. absurd (caused own)
      going_for at post (Err fault.Stuck) caused = λ own. absurd (caused own)
      going_for at post (Err (fault.WentOff have total)) caused = λ own. absurd (caused own)

      going_told : {posts : List Post} {now : State} {answers : List Ending} (takes : TakesPosts mid posts now answers) → ArePostsCaused (faults_at_first mid.core) mid.device takes → EachTold (IsToldFor old new) posts answers
      going_told NoPost caused = tt
      going_told (OnePost {posts = posts} {mid = at} {answers = answers} before post now answer takes) caused =
          each_more (IsToldFor old new) posts answers post answer (going_told before caused.0) (going_for at.core post answer caused.1)

    on_told : (answer : Reply) (mid : State) → IsSound mid → mid.core.power ≡ power.On → mid.core.origin ≡ core.origin → WaitsOn mid old new answer → TellsForCause old new answer
    on_told answer mid sound is_on origin waits = record {
      answers = waits.answers;
      tells = waits.tells;
      caused = going_told mid
          (since old new core on mid sound (ap (λ (o : Origin). o.faults) origin)
          (λ disk. let more = (path_frames waits.runs).keeps.counts.faults disk in let same = ap (λ (s : ScriptState). s.moment.device.counts.faults disk) waits.goes in omega (arith, more, same))
          (λ dark. absurd (let e : power.On ≡ power.Dark = sym is_on ∙ dark in cc e)))
          waits.takes (posts_have_causes mid waits.end old.posts waits.answers waits.takes sound is_on);
    }

    -- ---- once it is over

    module _ (mid : State) (cause : (id : ℕ) (how : Outcome) → list_any (is_asked 1 id) mid.core.requests ≡ true → outcome_in mid.core.history.facts id ≡ Some how → OutcomeCause old new how) (have total : ℕ) where
      own_told : (post : Post) (answer : Ending) → (post.ended ≡ None → AreHeld mid.core post.asked) → EndsAs mid.core.history.facts (ended_with have total post) answer → IsToldFor old new post answer
      own_told post (Ok done) held it = tt
      own_told post (Err why) held it = λ own. by own it.ends
        where
          by : post.ended ≡ None → RangeEnds it.facts post.asked it.have it.total (Err why) → PostCause old new why
          by own (AllWell all is) = absurd (cc is)
          by own (FirstFails k other less before fails is) =
              let same : other ≡ why = sym (cc is) in
              subst (PostCause old new) same (fault_for (piece_lp post.asked k) it.have it.total fails.how other fails.fault (cause (post.asked.first + k) fails.how (held own k less) (sym (it.same (post.asked.first + k)) ∙ fails.landed)))

      over_told : (posts : List Post) → All (λ post. post.ended ≡ None → AreHeld mid.core post.asked) posts → (answers : List Ending) → EachTold (EndsAs mid.core.history.facts) (map (ended_with have total) posts) answers → EachTold (IsToldFor old new) posts answers
      over_told [] held [] it = tt
      over_told [] held (answer ∷ answers) it = absurd it
      over_told (post ∷ posts) held [] it = absurd it
      over_told (post ∷ posts) held (answer ∷ answers) it = (own_told post answer (held 0 post (omega arith)) it.0, over_told posts (λ k d less. held (suc k) d (omega (arith, less))) answers it.1)

    closed_told : (answer : Reply) (mid : State) → LeavesSession (state old.moment.device core) mid → IsSound mid → (over : WaitsOver mid old new answer) → TellsForCause old new answer
    closed_told answer mid leaves sound over =
        let counts = ap (λ (s : ScriptState). s.moment.device.counts) over.waits.new_is ∙ over_counts mid old.posts old.last over.closed over.ends in
        let have = votes_there mid.core in
        let total = total_votes mid.core.descriptor in
        record {
          answers = over.waits.answers;
          tells = over.waits.tells;
          caused = over_told mid
              (landing_cause old new core on mid sound (ap (λ (o : Origin). o.faults) (path_shape leaves).origin) (λ disk. let same = ap (λ (n : Counts). n.faults disk) counts in omega (arith, same)) (dark_cause old new core mid between leaves sound counts))
              have total old.posts (λ k d less. (over.ends.stood.each k d less).held) over.waits.answers
              (subst (λ (fs : List Fact). EachTold (EndsAs fs) (map (ended_with have total) old.posts) over.waits.answers) over.ends.facts
              (subst (λ (ps : List Post). EachTold (EndsAs over.closed.moment.facts) ps over.waits.answers) over.ends.posted (gone_so over.waits.takes).1));
        }

  -- ---- the line

  pub wait_told : IsBetween old.moment old.session old.posts → (text : List ℕ) (refused : ℕ) → WaitDoes old new (reply.Answers text refused) → TellsForCause old new (reply.Answers text refused)
  wait_told between text refused (WhileOff waits) = record { answers = waits.answers; tells = waits.tells; caused = gone_told old.posts old.moment.facts waits.answers (gone_so waits.takes).1 }
  wait_told between text refused (AtRest core on none waits) =
      on_told between core on (reply.Answers text refused) (session_over old core) (on_first between core on).sound (on_first between core on).power refl waits
  wait_told between text refused (Awaits core on volumes waits) = by waits.ends
    where
      by : WaitEnds waits.mid waits.left old new (reply.Answers text refused) → TellsForCause old new (reply.Answers text refused)
      by (Goes is_on landed goes) = on_told between core on (reply.Answers text refused) waits.mid waits.sound is_on (path_shape (goes_any waits.runs)).origin goes
      by (Over landed over) = closed_told between core on (reply.Answers text refused) waits.mid (goes_any waits.runs) waits.sound over
      by (InVain vain) = absurd (cc vain.says)
