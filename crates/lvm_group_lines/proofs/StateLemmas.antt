-- Posts over what happens between two lines.
use Rattle.std.proofs.Common.{◌≡◌, ◌≤◌, ◌<◌, ◌+◌, ◌-◌, ◌*◌, ◌∷◌, ◌++◌, [], ℕ, suc, List, Bool, true, false, not, ◌&&◌, ◌||◌, ◌==◌, Option, Some, None, IfSome, is_some, inl, inr, cond, count_by, length, map, get_or, refl, sym, ◌∙◌, ap, subst, arith}
use Rattle.std.specs.Prelude.{All, AllPairs, IsSomeAnd}
use Rattle.std.specs.List.{list_any, AllByRecursion}
use Rattle.std.proofs.lemmas.Bool.{eq-eqb, eqb-true}
use Rattle.std.proofs.lemmas.List.{get_or-map, length-map}
use Rattle.std.proofs.lemmas.List.Sums.{sum_by-cons}
use Rattle.lvm_vol.specs.Facts.{Fact, Request, Making, Made, Split, Removing, Removed, Begun, Landed, Taken, Cut, On, IsInList, begun}
use Rattle.lvm_vol.specs.Legal.{begins_in}
use Rattle.lvm_vol.specs.Log.{asked, is_answered, lands_id, need, needed, request_of, takes_id}
use Rattle.lvm_vol.specs.Order.{Ordered}
use Rattle.lvm_vol.proofs.LogLemmas.{and_left, and_right, found_of}
use Rattle.lvm_vol.proofs.FactsLemmas.Order.{numbered, stands-at, stands_begun}
use Rattle.lvm_history.proofs.LogLemmas.Staying.{answered_stays}
use Rattle.lvm_history.proofs.LogLemmas.Counting.{three_needed}
use Rattle.lvm_session.specs.Calls.{is_asked}
use Rattle.lvm_session.specs.declared.open.Open.{Open}
use Rattle.lvm_session.specs.Sound.{IsAsked}
use Rattle.lvm_session.specs.State.{Core}
use Rattle.lvm_tie_commands.specs.passed.Handover.{AreGone}
use Rattle.lvm_tie_commands.specs.passed.Posts.{Asked, Post, AreAnswered, AreHeld, ended_with}
use Rattle.lvm_group_lines.specs.State.{ArePosted, IsPosted}
use Rattle.lvm_group_lines.proofs.FactsLemmas.{Bears}

-- ---- answers that aren't taken

-- an entry that takes none of them leaves them so
pub answered_on : (facts : List Fact) (f : Fact) (range : Asked) → ((id : ℕ) → takes_id id f ≡ false) → AreAnswered facts range → AreAnswered (facts ++ f ∷ []) range
answered_on facts f range none answered k less = answered_stays facts f 1 (range.first + k) (answered k less) (none (range.first + k))

pub answered_bears : (range : Asked) → Bears (λ facts. AreAnswered facts range)
answered_bears range = record {
  removed = λ facts disk answered. answered_on facts _ range (λ id. refl) answered;
  cut = λ facts answered. answered_on facts Cut range (λ id. refl) answered;
}

-- ---- posts

if_more : {X : Type 0} (o : Option X) (P Q : X → Type 0) → ((x : X) → P x → Q x) → IfSome o P → IfSome o Q
if_more None P Q more some = tt
if_more (Some x) P Q more some = more x some

-- what is entered leaves the answers of the posts
abbrev pub LeavesAnswers : List Fact → List Fact → Type 0
LeavesAnswers old new = (range : Asked) → AreAnswered old range → AreAnswered new range

module _ (old new : List Fact) (leaves : LeavesAnswers old new) where
  -- while no session is on
  off_post : (p : Post) → IsPosted old None p → IsPosted new None p
  off_post p its = record {
    laid = its.laid;
    some = its.some;
    held = λ kept. absurd (its.held kept);
    answered = if_more p.ended (λ votes. AreAnswered old p.asked) (λ votes. AreAnswered new p.asked) (λ votes. leaves p.asked) its.answered;
    gone = its.gone;
  }

  pub off_posts : (posts : List Post) → ArePosted old None posts → ArePosted new None posts
  off_posts posts its = record { each = λ k d less. off_post _ (its.each k d less); rise = its.rise }

  -- and one begins, which has no requests
  module _ (core : Core) (none : core.requests ≡ []) where
    on_post : (p : Post) → IsPosted old None p → IsPosted new (Some core) p
    on_post p its = record {
      laid = its.laid;
      some = its.some;
      held = λ kept. absurd (its.held kept);
      answered = (off_post p its).answered;
      gone = if_more p.ended (λ votes. Unit {0}) (λ votes. AreGone core p.asked) (λ votes any k less. ap (λ (os : List Open). list_any (is_asked 1 (p.asked.first + k)) os) none) (all_so p.ended);
    }
      where
        all_so : (o : Option (ℕ × ℕ)) → IfSome o (λ votes. Unit {0})
        all_so None = tt
        all_so (Some votes) = tt

    pub on_posts : (posts : List Post) → ArePosted old None posts → ArePosted new (Some core) posts
    on_posts posts its = record { each = λ k d less. on_post _ (its.each k d less); rise = its.rise }

  -- or one ends whose requests have all landed
  module _ (core : Core) (have total : ℕ) (held : (range : Asked) → 1 ≤ range.pieces → AreHeld core range → AreAnswered new range) where
    end_post : (p : Post) → IsPosted old (Some core) p → IsPosted new None (ended_with have total p)
    end_post p its = record { laid = its.laid; some = its.some; held = λ kept. cc (kept); answered = by p.ended refl; gone = tt }
      where
        by : (o : Option (ℕ × ℕ)) → p.ended ≡ o → AreAnswered new p.asked
        by None is = held p.asked its.some (its.held is)
        by (Some votes) is = leaves p.asked (subst (λ (o : Option (ℕ × ℕ)). IfSome o (λ votes. AreAnswered old p.asked)) is its.answered)

    pub end_posts : (posts : List Post) → ArePosted old (Some core) posts → ArePosted new None (map (ended_with have total) posts)
    end_posts posts its = record {
      each = λ k d less. let within : k < length posts = few k less in subst (IsPosted new None) (sym (get_or-map (ended_with have total) posts k d d within)) (end_post (get_or posts k d) (its.each k d within));
      rise = λ i j d before less. let within : j < length posts = few j less in
          subst (λ (a : Post). a.asked.first + a.asked.pieces ≤ (get_or (map (ended_with have total) posts) j d).asked.first) (sym (get_or-map (ended_with have total) posts i d d (omega (arith, before, within))))
          (subst (λ (b : Post). (get_or posts i d).asked.first + (get_or posts i d).asked.pieces ≤ b.asked.first) (sym (get_or-map (ended_with have total) posts j d d within)) (its.rise i j d before within));
    }
      where
        few : (k : ℕ) → k < length (map (ended_with have total) posts) → k < length posts
        few k less = let same = length-map posts (ended_with have total) in omega (arith, less, same)

-- nothing is held by a session without requests
pub none_held : (core : Core) (facts : List Fact) → core.requests ≡ [] → (range : Asked) → 1 ≤ range.pieces → AreHeld core range → AreAnswered facts range
none_held core facts none range some held = absurd (let e : true ≡ false = sym (held 0 some) ∙ ap (λ (os : List Open). list_any (is_asked 1 (range.first + 0)) os) none in cc e)

-- ---- how many there may be

-- the request of the table began
table_began : (facts : List Fact) (os : List Open) (id : ℕ) → AllByRecursion (IsAsked facts) os → list_any (is_asked 1 id) os ≡ true → is_some (asked facts id) ≡ true
table_began facts [] id all some = absurd (cc (some))
table_began facts (o ∷ os) id all some = by (is_asked 1 id o) refl (table_began facts os id all.1) some
  where
    by : (b : Bool) → is_asked 1 id o ≡ b → (list_any (is_asked 1 id) os ≡ true → is_some (asked facts id) ≡ true) → b || list_any (is_asked 1 id) os ≡ true → is_some (asked facts id) ≡ true
    by true is rest some = subst (λ (n : ℕ). is_some (asked facts n) ≡ true) (eqb-true o.request.id id (and_right (o.request.client == 1) (o.request.id == id) is)) (ap (λ (r : Option Request). is_some r) all.0.told)
    by false is rest some = rest some

-- a request that began has a number up to how many have
module _ (run : ℕ) (facts : List Fact) (ordered : Ordered run [] facts) where
  numbers : (id : ℕ) → is_some (asked facts id) ≡ true → (1 ≤ id) × (id ≤ length (begun facts))
  numbers id some =
      let its = found_of facts id some in
      let at = stands-at 1 (begun facts) (request_of facts id) (numbered run facts ordered).ids (stands_begun facts (request_of facts id) its.began) in
      let low = at.low in let high = at.high in let own = its.own in
      (omega (arith, low, own), omega (arith, high, own))

  -- what is answered began
  pub answered_began : (id : ℕ) → is_answered facts 1 id ≡ true → is_some (asked facts id) ≡ true
  answered_began id answered =
      let front = and_left (is_some (asked facts id) && (request_of facts id).client == 1 && list_any (lands_id id) facts) (not (list_any (takes_id id) facts)) answered in
      let front2 = and_left (is_some (asked facts id) && (request_of facts id).client == 1) (list_any (lands_id id) facts) front in
      and_left (is_some (asked facts id)) ((request_of facts id).client == 1) front2

  counted : (fs : List Fact) → ((r : Request) → IsInList r (begun fs) → r.run ≡ run) → length (begun fs) ≤ count_by (begins_in run) fs
  counted [] runs = omega arith
  counted (f ∷ fs) runs = by (counted fs) f runs
    where
      more : (g : Fact) (n : ℕ) → count_by (begins_in run) (g ∷ fs) ≡ cond (begins_in run g) 1 0 + count_by (begins_in run) fs → length (begun fs) ≤ count_by (begins_in run) fs → length (begun fs) ≤ count_by (begins_in run) (g ∷ fs)
      more g n all rest = omega (arith, all, rest)

      all : (g : Fact) → count_by (begins_in run) (g ∷ fs) ≡ cond (begins_in run g) 1 0 + count_by (begins_in run) fs
      all g = sum_by-cons (λ (x : Fact). cond (begins_in run x) 1 0) g fs

      by : (((r : Request) → IsInList r (begun fs) → r.run ≡ run) → length (begun fs) ≤ count_by (begins_in run) fs) → (g : Fact) → ((r : Request) → IsInList r (begun (g ∷ fs)) → r.run ≡ run) → length (begun (g ∷ fs)) ≤ count_by (begins_in run) (g ∷ fs)
      by rest_is (Begun r) runs =
          let one : ◌≡◌ {A = ℕ} (cond (r.run == run) 1 0) 1 = ap (λ (b : Bool). cond b 1 0) (eq-eqb r.run run (runs r (inl refl))) in
          let rest = rest_is (λ s there. runs s (inr there)) in
          let sum = all (Begun r) in
          omega (arith, one, rest, sum)
      by rest_is (Landed r how started got) runs = more (Landed r how started got) 0 (all (Landed r how started got)) (rest_is runs)
      by rest_is (Taken r) runs = more (Taken r) 0 (all (Taken r)) (rest_is runs)
      by rest_is (Making lv blocks m) runs = more (Making lv blocks m) 0 (all (Making lv blocks m)) (rest_is runs)
      by rest_is (Made lv) runs = more (Made lv) 0 (all (Made lv)) (rest_is runs)
      by rest_is (Split from lv) runs = more (Split from lv) 0 (all (Split from lv)) (rest_is runs)
      by rest_is (Removing vol) runs = more (Removing vol) 0 (all (Removing vol)) (rest_is runs)
      by rest_is (Removed vol) runs = more (Removed vol) 0 (all (Removed vol)) (rest_is runs)
      by rest_is Cut runs = more Cut 0 (all Cut) (rest_is runs)
      by rest_is (On moment) runs = more (On moment) 0 (all (On moment)) (rest_is runs)

  pub answered_numbers : (id : ℕ) → is_answered facts 1 id ≡ true → id ≤ count_by (begins_in run) facts
  answered_numbers id answered = let low = (numbers id (answered_began id answered)).1 in let all = counted facts (numbered run facts ordered).runs in omega (arith, low, all)

-- what the history tells of the requests of the session that is on
abbrev pub IsToldOf : List Fact → Option Core → Type 0
IsToldOf facts on = IfSome on (λ core. AllByRecursion (IsAsked facts) core.requests)

module _ (run : ℕ) (facts : List Fact) (on : Option Core) (ordered : Ordered run [] facts) (told : IsToldOf facts on) where
  pub began : (p : Post) → IsPosted facts on p → (k : ℕ) → k < p.asked.pieces → is_some (asked facts (p.asked.first + k)) ≡ true
  began p its k less = by p.ended refl
    where
      in_table : (o : Option Core) → IsToldOf facts o → IsSomeAnd o (λ core. AreHeld core p.asked) → is_some (asked facts (p.asked.first + k)) ≡ true
      in_table None tells held = absurd held
      in_table (Some core) tells held = table_began facts core.requests (p.asked.first + k) tells (held k less)

      by : (o : Option (ℕ × ℕ)) → p.ended ≡ o → is_some (asked facts (p.asked.first + k)) ≡ true
      by None is = in_table on told (its.held is)
      by (Some votes) is =
          answered_began run facts ordered (p.asked.first + k) (subst (λ (o : Option (ℕ × ℕ)). IfSome o (λ votes. AreAnswered facts p.asked)) is its.answered k less)

  starts : (p : Post) → IsPosted facts on p → 1 ≤ p.asked.first
  starts p its = let some = its.some in let e = (numbers run facts ordered (p.asked.first + 0) (began p its 0 (omega (arith, some)))).0 in omega (arith, e)

  ends : (p : Post) → IsPosted facts on p → p.asked.first + p.asked.pieces ≤ 1 + length (begun facts)
  ends p its = let some = its.some in let e = (numbers run facts ordered (p.asked.first + (p.asked.pieces - 1)) (began p its (p.asked.pieces - 1) (omega (arith, some)))).1 in omega (arith, e, some)

  pub posts_few : (posts : List Post) → ArePosted facts on posts → length posts ≤ length (begun facts)
  posts_few posts its = let e = count 1 (1 + length (begun facts)) posts (λ k d less. starts _ (its.each k d less)) (λ k d less. (its.each k d less).some) (λ k d less. ends _ (its.each k d less)) its.rise (omega arith) in omega (arith, e)
    where
      count : (low high : ℕ) (ps : List Post) → All (λ p. low ≤ p.asked.first) ps → All (λ p. 1 ≤ p.asked.pieces) ps → All (λ p. p.asked.first + p.asked.pieces ≤ high) ps
          → AllPairs (λ a b. a.asked.first + a.asked.pieces ≤ b.asked.first) ps → low ≤ high → low + length ps ≤ high
      count low high [] from some to rise le = omega (arith, le)
      count low high (p ∷ ps) from some to rise le =
          let a = from 0 p (omega arith) in
          let b = some 0 p (omega arith) in
          let rest = count (p.asked.first + p.asked.pieces) high ps (λ k d less. rise 0 (suc k) d (omega arith) (omega (arith, less))) (λ k d less. some (suc k) d (omega (arith, less))) (λ k d less. to (suc k) d (omega (arith, less)))
          (λ i j d lt less. rise (suc i) (suc j) d (omega (arith, lt)) (omega (arith, less))) (to 0 p (omega arith)) in
          omega (arith, a, b, rest)

-- so the entries that are needed have room for as many posts
pub posts_need : (run : ℕ) (facts : List Fact) (on : Option Core) (posts : List Post) → Ordered run [] facts → IsToldOf facts on → ArePosted facts on posts → 3 * length posts ≤ needed facts
posts_need run facts on posts ordered told its = let few = posts_few run facts on ordered told posts its in let need = three_needed facts in omega (arith, few, need)
