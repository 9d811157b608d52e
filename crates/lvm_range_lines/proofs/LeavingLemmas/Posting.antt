-- Posts over what turns and calls of a session do.
use Rattle.std.proofs.Common.{◌≡◌, inl, inr, ◌<◌, ◌≤◌, ◌+◌, ◌-◌, ◌++◌, ◌==◌, ◌&&◌, ◌||◌, ℕ, Bool, zero, suc, true, false, not, List, [], ◌∷◌, Option, Some, None, IfSome, is_some, length, get_or, refl, sym, ◌∙◌, ap, subst, arith}
use Rattle.std.specs.Prelude.{All, AllPairs}
use Rattle.std.specs.List.{list_any, AllByRecursion}
use Rattle.std.proofs.lemmas.Bool.{eqb-true}
use Rattle.lvm_vol.specs.Facts.{Fact, Request}
use Rattle.lvm_vol.specs.Log.{asked as told, is_answered, lands_id, request_of, takes_id}
use Rattle.lvm_vol.proofs.LogLemmas.{and_left, and_right}
use Rattle.lvm_session.specs.Calls.{is_asked}
use Rattle.lvm_session.specs.declared.open.Open.{Open}
use Rattle.lvm_session.specs.Sound.{IsAsked}
use Rattle.lvm_session.specs.State.{Core}
use Rattle.lvm_group_lines.specs.passed.Handover.{AreGone}
use Rattle.lvm_posts.specs.declared.asked.Asked.{Asked}
use Rattle.lvm_posts.specs.declared.posts.Post.{Post}
use Rattle.lvm_posts.specs.Posts.{AreAnswered, AreHeld}
use Rattle.lvm_group_lines.specs.passed.Ranges.{IsAskedFor, AreApart, KeepsEarlier, KeepsOthers, KeepsTable}
use Rattle.lvm_group_lines.specs.State.{ArePosted, IsPosted}
use Rattle.lvm_range_lines.specs.Leaving.{KeepsPosts}
use Rattle.lvm_range_lines.specs.Requests.{post_of}
use Rattle.lvm_range_lines.specs.Taking.{LeavesOthers}

-- ---- one post

module _ (old new : Core) (p : Post) (held : AreHeld old p.asked → AreHeld new p.asked) (answered : AreAnswered old.history.facts p.asked → AreAnswered new.history.facts p.asked)
    (gone : AreAnswered old.history.facts p.asked → AreGone old p.asked → AreGone new p.asked) where
  answered_on : (o : Option (ℕ × ℕ)) → IfSome o (λ votes. AreAnswered old.history.facts p.asked) → IfSome o (λ votes. AreAnswered new.history.facts p.asked)
  answered_on None its = tt
  answered_on (Some votes) its = answered its

  gone_on : (o : Option (ℕ × ℕ)) → IfSome o (λ votes. AreAnswered old.history.facts p.asked) → IfSome o (λ votes. AreGone old p.asked) → IfSome o (λ votes. AreGone new p.asked)
  gone_on None its none = tt
  gone_on (Some votes) its none = gone its none

  pub post_on : IsPosted old.history.facts (Some old) p → IsPosted new.history.facts (Some new) p
  post_on its = record { laid = its.laid; some = its.some; held = λ kept. held (its.held kept); answered = answered_on p.ended its.answered; gone = gone_on p.ended its.answered its.gone }

-- ---- turns, and ranges that are asked for

pub table_posts : (old new : Core) → KeepsTable old new → KeepsPosts old new
table_posts old new table posts its = record {
  each = λ k d less. post_on old new _ (λ held j low. table.asked 1 _ ∙ held j low) (λ answered j low. table.answered 1 _ (answered j low)) (λ answered gone j low. table.asked 1 _ ∙ gone j low) (its.each k d less);
  rise = its.rise;
}

-- an answered request was asked for
told_of : (facts : List Fact) (id : ℕ) → is_answered facts 1 id ≡ true → is_some (told facts id) ≡ true
told_of facts id answered =
    let front = and_left (is_some (told facts id) && (request_of facts id).client == 1 && list_any (lands_id id) facts) (not (list_any (takes_id id) facts)) answered in
    and_left (is_some (told facts id)) ((request_of facts id).client == 1) (and_left (is_some (told facts id) && (request_of facts id).client == 1) (list_any (lands_id id) facts) front)

pub earlier_posts : (old new : Core) → KeepsEarlier old new → KeepsPosts old new
earlier_posts old new keeps posts its = record {
  each = λ k d less. post_on old new (get_or posts k d) (λ held. keeps.held (get_or posts k d).asked held) (λ answered j low. keeps.answered 1 _ (answered j low)) (λ answered gone j low. keeps.asked 1 _ (told_of old.history.facts _ (answered j low)) ∙ gone j low) (its.each k d less);
  rise = its.rise;
}

pub same_posts : (old new : Core) → new ≡ old → KeepsPosts old new
same_posts old new same posts its = subst (λ (core : Core). ArePosted core.history.facts (Some core) posts) (sym same) its

-- ---- a range behind them

-- each of the posts was asked for before this one
abbrev pub BehindAll : Asked → List Post → Type 0
BehindAll asked posts = All (λ p. p.asked.first + p.asked.pieces ≤ asked.first) posts

-- a request of the table was asked for
table_told : (facts : List Fact) (os : List Open) (id : ℕ) → AllByRecursion (IsAsked facts) os → list_any (is_asked 1 id) os ≡ true → is_some (told facts id) ≡ true
table_told facts [] id all some = absurd (cc some)
table_told facts (o ∷ os) id all some = by (is_asked 1 id o) refl (table_told facts os id all.1) some
  where
    by : (b : Bool) → is_asked 1 id o ≡ b → (list_any (is_asked 1 id) os ≡ true → is_some (told facts id) ≡ true) → b || list_any (is_asked 1 id) os ≡ true → is_some (told facts id) ≡ true
    by true is rest some = subst (λ n. is_some (told facts n) ≡ true) (eqb-true o.request.id id (and_right (o.request.client == 1) (o.request.id == id) is)) (ap (λ (r : Option Request). is_some r) all.0.told)
    by false is rest some = rest some

-- so was each piece of a post
post_told : (core : Core) (p : Post) → AllByRecursion (IsAsked core.history.facts) core.requests → IsPosted core.history.facts (Some core) p → (k : ℕ) → k < p.asked.pieces → is_some (told core.history.facts (p.asked.first + k)) ≡ true
post_told core p tells its k less = by p.ended refl
  where
    by : (o : Option (ℕ × ℕ)) → p.ended ≡ o → is_some (told core.history.facts (p.asked.first + k)) ≡ true
    by None is = table_told core.history.facts core.requests (p.asked.first + k) tells (its.held is k less)
    by (Some votes) is = told_of core.history.facts (p.asked.first + k) (subst (λ (o : Option (ℕ × ℕ)). IfSome o (λ v. AreAnswered core.history.facts p.asked)) is its.answered k less)

pub asked_behind : (old : Core) (write : Option ℕ) (count : ℕ) (new : Core) (asked : Asked) (posts : List Post) → AllByRecursion (IsAsked old.history.facts) old.requests
    → ArePosted old.history.facts (Some old) posts → IsAskedFor write count old new asked → BehindAll asked posts
asked_behind old write count new asked posts tells its asks k d less =
    let p = get_or posts k d in
    let some = (its.each k d less).some in
    let last = asks.behind (p.asked.first + (p.asked.pieces - 1)) (post_told old p tells (its.each k d less) (p.asked.pieces - 1) (omega (arith, some))) in
    omega (arith, some, last)

module _ (core : Core) (posts : List Post) (asked : Asked) (its : ArePosted core.history.facts (Some core) posts) (behind : BehindAll asked posts) where
  -- it stands behind them as a post
  module _ (write : Option ℕ) (count : ℕ) (old : Core) (asks : IsAskedFor write count old core asked) where
    new_post : IsPosted core.history.facts (Some core) (post_of asked)
    new_post = record { laid = asks.laid; some = asks.some; held = λ kept. asks.held; answered = tt; gone = tt }

    pub posted_behind : ArePosted core.history.facts (Some core) (posts ++ post_of asked ∷ [])
    posted_behind = record { each = all_push posts its.each new_post; rise = pairs_push posts its.rise behind }
      where
        all_push : (ps : List Post) → All (IsPosted core.history.facts (Some core)) ps → IsPosted core.history.facts (Some core) (post_of asked) → All (IsPosted core.history.facts (Some core)) (ps ++ post_of asked ∷ [])
        all_push [] all last zero d less = last
        all_push [] all last (suc k) d less = absurd (omega (arith, less))
        all_push (p ∷ ps) all last zero d less = all 0 d (omega arith)
        all_push (p ∷ ps) all last (suc k) d less = all_push ps (λ j e low. all (suc j) e (omega (arith, low))) last k d (omega (arith, less))

        pairs_push : (ps : List Post) → AllPairs (λ a b. a.asked.first + a.asked.pieces ≤ b.asked.first) ps → BehindAll asked ps → AllPairs (λ a b. a.asked.first + a.asked.pieces ≤ b.asked.first) (ps ++ post_of asked ∷ [])
        pairs_push [] pairs all i zero d before less = absurd (omega (arith, before))
        pairs_push [] pairs all i (suc j) d before less = absurd (omega (arith, less))
        pairs_push (p ∷ ps) pairs all i zero d before less = absurd (omega (arith, before))
        pairs_push (p ∷ ps) pairs all zero (suc j) d before less = first_before ps j (λ k e low. pairs 0 (suc k) e (omega arith) (omega (arith, low))) (all 0 d (omega arith)) (omega (arith, less))
          where
            first_before : (qs : List Post) (k : ℕ) → All (λ q. p.asked.first + p.asked.pieces ≤ q.asked.first) qs → p.asked.first + p.asked.pieces ≤ asked.first → k < length (qs ++ post_of asked ∷ []) → p.asked.first + p.asked.pieces ≤ (get_or (qs ++ post_of asked ∷ []) k d).asked.first
            first_before [] zero each last low = last
            first_before [] (suc k) each last low = absurd (omega (arith, low))
            first_before (q ∷ qs) zero each last low = each 0 d (omega arith)
            first_before (q ∷ qs) (suc k) each last low = first_before qs k (λ m e lo. each (suc m) e (omega (arith, lo))) last (omega (arith, low))
        pairs_push (p ∷ ps) pairs all (suc i) (suc j) d before less =
            pairs_push ps (λ a b e lt low. pairs (suc a) (suc b) e (omega (arith, lt)) (omega (arith, low))) (λ k e low. all (suc k) e (omega (arith, low))) i j d (omega (arith, before)) (omega (arith, less))

  -- they stay what they are while its answers are taken
  pub others_posted : (new : Core) → KeepsOthers asked core new → ArePosted new.history.facts (Some new) posts
  others_posted new keeps = record {
    each = λ k d less. post_on core new (get_or posts k d) (λ held. keeps.held (get_or posts k d).asked (inr (behind k d less)) held) (λ answered. keeps.answered (get_or posts k d).asked (inr (behind k d less)) answered) (λ answered gone j low. keeps.none 1 _ (gone j low)) (its.each k d less);
    rise = its.rise;
  }

-- ---- a post whose answers are taken

-- the others stay what they are
pub rest_posted : (old new : Core) (p : Post) (posts : List Post) → LeavesOthers p.asked old new → ArePosted old.history.facts (Some old) (p ∷ posts) → ArePosted new.history.facts (Some new) posts
rest_posted old new p posts leaves its = record {
  each = λ k d less.
      let before = its.rise 0 (suc k) d (omega arith) (omega (arith, less)) in
      post_on old new (get_or posts k d) (leaves.held (get_or posts k d).asked (inl before)) (leaves.answered (get_or posts k d).asked (inl before)) (λ answered. leaves.gone (get_or posts k d).asked) (its.each (suc k) d (omega (arith, less)));
  rise = λ i j d before less. its.rise (suc i) (suc j) d (omega (arith, before)) (omega (arith, less));
}

-- and so they do where no session is on
pub rest_off : (old new : List Fact) (p : Post) (posts : List Post) → ((other : Asked) → AreApart p.asked other → AreAnswered old other → AreAnswered new other) → ArePosted old None (p ∷ posts) → ArePosted new None posts
rest_off old new p posts leaves its = record {
  each = λ k d less.
      let before = its.rise 0 (suc k) d (omega arith) (omega (arith, less)) in
      let q = its.each (suc k) d (omega (arith, less)) in
      record { laid = q.laid; some = q.some; held = λ kept. absurd (q.held kept); answered = answered_then (get_or posts k d) (inl before) q.answered; gone = gone_then (get_or posts k d).ended };
  rise = λ i j d before less. its.rise (suc i) (suc j) d (omega (arith, before)) (omega (arith, less));
}
  where
    answered_then : (q : Post) → AreApart p.asked q.asked → IfSome q.ended (λ votes. AreAnswered old q.asked) → IfSome q.ended (λ votes. AreAnswered new q.asked)
    answered_then q apart = by q.ended
      where
        by : (o : Option (ℕ × ℕ)) → IfSome o (λ votes. AreAnswered old q.asked) → IfSome o (λ votes. AreAnswered new q.asked)
        by None its = tt
        by (Some votes) its = leaves q.asked apart its

    gone_then : {X : Type 0} (o : Option X) → IfSome o (λ votes. Unit {0})
    gone_then None = tt
    gone_then (Some votes) = tt
