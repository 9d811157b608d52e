-- The answers of posts, one after the other.
use Rattle.std.proofs.Common.{◌≡◌, inl, inr, ◌≤◌, ◌<◌, ◌+◌, ◌-◌, ◌^◌, ◌++◌, ℕ, zero, suc, true, false, List, [], ◌∷◌, Option, Some, None, IfSome, length, take, drop, get_or, refl, sym, ◌∙◌, ap, subst, append_assoc, arith}
use Rattle.std.specs.List.{list_any}
use Rattle.std.proofs.lemmas.Bool.{ne_eqb}
use Rattle.std.proofs.lemmas.List.{append-nil, length-append}
use Rattle.lvm_vol.specs.Facts.{Fact}
use Rattle.lvm_vol.specs.Legal.{IsLater}
use Rattle.lvm_vol.specs.Log.{Log, is_answered, request_of, taken_fact}
use Rattle.lvm_vol.proofs.LogLemmas.{follows_taken}
use Rattle.lvm_history.proofs.LogLemmas.Staying.{answered_stays}
use Rattle.lvm_steps.proofs.LawsLemmas.Clock.{later_joins}
use Rattle.lvm_session.specs.State.{Core, State, state}
use Rattle.lvm_posts.specs.declared.asked.Asked.{Asked}
use Rattle.lvm_posts.specs.declared.posts.Post.{Post}
use Rattle.lvm_posts.specs.Posts.{AreAnswered, takings}
use Rattle.lvm_group_lines.specs.passed.Ranges.{AreApart, KeepsOthers, HavePiecesLanded}
use Rattle.lvm_group_lines.specs.passed.Handover.{AreGone, with_taken}
use Rattle.lvm_group_lines.proofs.passed.Handover.{open_with}
use Rattle.lvm_group_lines.specs.State.{ArePosted, IsPosted}
use Rattle.lvm_disk.specs.Device.{Device}
use Rattle.lvm_kept.specs.Moments.{Moment}
use Rattle.lvm_steps.specs.Moments.{Keeps}
use Rattle.lvm_steps.specs.Requests.{at}
use Rattle.lvm_session.specs.declared.open.Open.{Open}
use Rattle.lvm_session.specs.declared.open.Power.TheVariants as power
use Rattle.lvm_session.specs.Calls.{is_asked}
use Rattle.lvm_group_lines.specs.passed.Tie.{RunsOn}
use Rattle.lvm_group_lines.proofs.passed.Tie.{runs_both, runs_none}
use Rattle.lvm_posts.specs.Deciding.{RangeEnds}
use Rattle.lvm_range_lines.specs.declared.answers.Answers.{Answers}
use Rattle.lvm_range_lines.specs.Answers.{Gathers}
use Rattle.lvm_range_lines.specs.Refusals.{Ending}
use Rattle.lvm_range_lines.specs.Taking.{Enters, GathersGone, GathersPosts, KeepsLater, LeavesOthers, StaysKept, with_entries}
use Rattle.lvm_range_lines.specs.Waiting.{AllHaveLanded, NoGone, NoPost, OneGone, OnePost, TakesGone, TakesPost, TakesPosts}
use Rattle.lvm_range_lines.proofs.LeavingLemmas.Posting.{rest_off, rest_posted}
use Rattle.lvm_range_lines.proofs.RefusalsLemmas.{refusals_most}

-- ---- lists

take_zero : {A : Type 0} (xs : List A) → take 0 xs ≡ []
take_zero [] = refl
take_zero (x ∷ xs) = refl

drop_zero : {A : Type 0} (xs : List A) → drop 0 xs ≡ xs
drop_zero [] = refl
drop_zero (x ∷ xs) = refl

pub take_more : {A : Type 0} (xs : List A) (i : ℕ) (d : A) → i < length xs → take (suc i) xs ≡ take i xs ++ get_or xs i d ∷ []
take_more [] i d less = absurd (omega (arith, less))
take_more (x ∷ xs) zero d less = ap (λ (ys : List _). x ∷ ys) (take_zero xs)
take_more (x ∷ xs) (suc i) d less = ap (λ (ys : List _). x ∷ ys) (take_more xs i d (omega (arith, less)))

pub drop_more : {A : Type 0} (xs : List A) (i : ℕ) (d : A) → i < length xs → drop i xs ≡ get_or xs i d ∷ drop (suc i) xs
drop_more [] i d less = absurd (omega (arith, less))
drop_more (x ∷ xs) zero d less = ap (λ (ys : List _). x ∷ ys) (sym (drop_zero xs))
drop_more (x ∷ xs) (suc i) d less = drop_more xs i d (omega (arith, less))

pub take_whole : {A : Type 0} (xs : List A) (i : ℕ) → length xs ≤ i → take i xs ≡ xs
take_whole [] zero over = refl
take_whole [] (suc i) over = refl
take_whole (x ∷ xs) zero over = absurd (omega (arith, over))
take_whole (x ∷ xs) (suc i) over = ap (λ (ys : List _). x ∷ ys) (take_whole xs i (omega (arith, over)))

-- ---- entries by which answers are taken

takings_later : (facts : List Fact) (first n moment : ℕ) → IsLater (takings facts first n) moment
takings_later facts first zero moment = tt
takings_later facts first (suc n) moment = later_joins moment (takings facts first n) (taken_fact facts (first + n) ∷ []) (takings_later facts first n moment) tt

pub taken_later : (facts : List Fact) (range : Asked) → KeepsLater facts (facts ++ takings facts range.first range.pieces)
taken_later facts range = record {
  opens = λ id. open_with facts range.first range.pieces id;
  later = λ moment later. later_joins moment facts (takings facts range.first range.pieces) later (takings_later facts range.first range.pieces moment);
}

pub later_then : (a b c : List Fact) → KeepsLater a b → KeepsLater b c → KeepsLater a c
later_then a b c one two = record { opens = λ id. two.opens id ∙ one.opens id; later = λ moment later. two.later moment (one.later moment later) }

-- another range's answers stay
module _ (facts : List Fact) (range other : Asked) (its : AreAnswered facts range) (apart : AreApart range other) (answered : AreAnswered facts other) where
  differ : (n k : ℕ) → n < range.pieces → k < other.pieces → (request_of facts (range.first + n)).id ≡ other.first + k → ⊥
  differ n k less low same = by apart
    where
      own : (request_of facts (range.first + n)).id ≡ range.first + n
      own = (follows_taken facts 0 1 (range.first + n) (its n less)).2

      by : AreApart range other → ⊥
      by (inl before) = absurd (omega (arith, before, own, same, less))
      by (inr behind) = absurd (omega (arith, behind, own, same, low))

  so_far : (n : ℕ) → n ≤ range.pieces → AreAnswered (facts ++ takings facts range.first n) other
  so_far zero low k less = subst (λ (fs : List Fact). is_answered fs 1 (other.first + k) ≡ true) (sym (append-nil facts)) (answered k less)
  so_far (suc n) low k less =
      subst (λ (fs : List Fact). is_answered fs 1 (other.first + k) ≡ true) (append_assoc facts (takings facts range.first n) (taken_fact facts (range.first + n) ∷ []))
      (answered_stays (facts ++ takings facts range.first n) (taken_fact facts (range.first + n)) 1 (other.first + k) (so_far n (omega (arith, low)) k less)
      (ne_eqb (request_of facts (range.first + n)).id (other.first + k) (differ n k (omega (arith, low)) less)))

  pub beside_answered : AreAnswered (facts ++ takings facts range.first range.pieces) other
  beside_answered = so_far range.pieces (omega arith)

-- ---- what is entered

pub enters_none : (s : State) → Enters s s
enters_none s = record { is = refl; keeps = λ began device span. span; later = record { opens = λ id. refl; later = λ moment later. later } }

pub enters_then : (a b c : State) → Enters a b → Enters b c → Enters a c
enters_then a b c one two = record {
  is = two.is ∙ ap (λ (s : State). state s.device (with_entries s.core c.core.history.facts)) one.is;
  keeps = λ began device span. subst (λ n. Keeps n began (at device c.core.history.facts)) run_is (two.keeps began device (subst (λ n. Keeps n began (at device b.core.history.facts)) (sym run_is) (one.keeps began device span)));
  later = later_then a.core.history.facts b.core.history.facts c.core.history.facts one.later two.later;
}
  where
    run_is : b.core.history.run ≡ a.core.history.run
    run_is = ap (λ (s : State). s.core.history.run) one.is

pub enters_taken : (old new : State) (range : Asked) → new ≡ state old.device (with_taken range old.core) → StaysKept old.core.history new.core.history → Enters old new
enters_taken old new range is kept = record {
  is = is ∙ ap (λ (fs : List Fact). state old.device (with_entries old.core fs)) (sym facts_are);
  keeps = kept;
  later = subst (KeepsLater old.core.history.facts) (sym facts_are) (taken_later old.core.history.facts range);
}
  where
    facts_are : new.core.history.facts ≡ old.core.history.facts ++ takings old.core.history.facts range.first range.pieces
    facts_are = ap (λ (s : State). s.core.history.facts) is

-- ---- what a post's answers leave of others

pub earlier_leaves : (core : Core) (range : Asked) → AreAnswered core.history.facts range → LeavesOthers range core (with_taken range core)
earlier_leaves core range its = record {
  held = λ other apart held. held;
  answered = λ other apart answered. beside_answered core.history.facts range other its apart answered;
  gone = λ other gone. gone;
  landed = λ id landed. open_with core.history.facts range.first range.pieces id ∙ landed;
}

pub others_leave : (range : Asked) (old new : Core) → KeepsOthers range old new → LeavesOthers range old new
others_leave range old new keeps = record {
  held = keeps.held;
  answered = keeps.answered;
  gone = λ other gone k less. keeps.none 1 (other.first + k) (gone k less);
  landed = keeps.requests.landed;
}

-- ---- a post of a session that is gone

-- its votes, and its answers
pub record IsOfGone (facts : List Fact) (p : Post) : Type 0 where
  pub votes : ℕ × ℕ
  pub ended : p.ended ≡ Some votes
  pub answered : AreAnswered facts p.asked

pub gone_off : (facts : List Fact) (p : Post) → IsPosted facts None p → IsOfGone facts p
gone_off facts p its = by p.ended refl
  where
    by : (o : Option (ℕ × ℕ)) → p.ended ≡ o → IsOfGone facts p
    by None is = absurd (its.held is)
    by (Some votes) is = record { votes = votes; ended = is; answered = subst (λ (o : Option (ℕ × ℕ)). IfSome o (λ v. AreAnswered facts p.asked)) is its.answered }

pub answered_of : (facts : List Fact) (on : Option Core) (p : Post) (votes : ℕ × ℕ) → p.ended ≡ Some votes → IsPosted facts on p → AreAnswered facts p.asked
answered_of facts on p votes is its = subst (λ (o : Option (ℕ × ℕ)). IfSome o (λ v. AreAnswered facts p.asked)) is its.answered

pub gone_of : (core : Core) (p : Post) (votes : ℕ × ℕ) → p.ended ≡ Some votes → IsPosted core.history.facts (Some core) p → AreGone core p.asked
gone_of core p votes is its = subst (λ (o : Option (ℕ × ℕ)). IfSome o (λ v. AreGone core p.asked)) is its.gone

-- where a session has no request each post is of one that is gone
pub gone_rest : (core : Core) (p : Post) → core.requests ≡ [] → IsPosted core.history.facts (Some core) p → IsOfGone core.history.facts p
gone_rest core p none its = by p.ended refl
  where
    by : (o : Option (ℕ × ℕ)) → p.ended ≡ o → IsOfGone core.history.facts p
    by None is =
        let some = its.some in
        absurd (let e : true ≡ false = sym (its.held is 0 (omega (arith, some))) ∙ ap (λ (os : List Open). list_any (is_asked 1 (p.asked.first + 0)) os) none in cc e)
    by (Some votes) is = record { votes = votes; ended = is; answered = answered_of core.history.facts (Some core) p votes is its }

-- so none has to land
pub none_own : (core : Core) (posts : List Post) (s : State) → core.requests ≡ [] → ArePosted core.history.facts (Some core) posts → AllHaveLanded posts s
none_own core posts s none its post among own =
    let p : IsPosted core.history.facts (Some core) post = subst (IsPosted core.history.facts (Some core)) among.2 (its.each among.0 post among.1) in
    let gone = gone_rest core post none p in
    absurd (let e : Some gone.votes ≡ None = sym gone.ended ∙ own in cc e)

-- ---- while they are gathered

pub few_refused : (endings : List Ending) (a : Answers) (i most : ℕ) → Gathers endings a → length endings ≡ i → i < most → most < 2 ^ 32 → a.refused < 2 ^ 32 - 1
few_refused endings a i most gathers long less few = let same = gathers.refused in let low = refusals_most endings in omega (arith, same, low, long, less, few)

-- so far, while a session is on
pub record TakenOn (first now : State) (posts : List Post) (i : ℕ) (a : Answers) : Type 0 where
  pub endings : List Ending
  pub takes : TakesPosts first (take i posts) now endings
  pub gathers : Gathers endings a
  pub long : length endings ≡ i
  pub left : ArePosted now.core.history.facts (Some now.core) (drop i posts)
  pub landed : AllHaveLanded (drop i posts) now
  pub runs : RunsOn first now
  pub on : now.core.power ≡ power.On

pub on_first : (first : State) (posts : List Post) (a : Answers) → Gathers [] a → ArePosted first.core.history.facts (Some first.core) posts → AllHaveLanded posts first → first.core.power ≡ power.On → TakenOn first first posts 0 a
on_first first posts a gathers posted landed on = record {
  endings = [];
  takes = subst (λ (ps : List Post). TakesPosts first ps first []) (sym (take_zero posts)) NoPost;
  gathers = gathers;
  long = refl;
  left = subst (λ (ps : List Post). ArePosted first.core.history.facts (Some first.core) ps) (sym (drop_zero posts)) posted;
  landed = subst (λ (ps : List Post). AllHaveLanded ps first) (sym (drop_zero posts)) landed;
  runs = runs_none first;
  on = on;
}

module _ (first old : State) (posts : List Post) (i : ℕ) (a : Answers) (d : Post) (within : i < length posts) (so_far : TakenOn first old posts i a) where
  abbrev post : Post
  post = get_or posts i d

  rest_is : drop i posts ≡ post ∷ drop (suc i) posts
  rest_is = drop_more posts i d within

  all_left : ArePosted old.core.history.facts (Some old.core) (post ∷ drop (suc i) posts)
  all_left = subst (λ (ps : List Post). ArePosted old.core.history.facts (Some old.core) ps) rest_is so_far.left

  all_landed : AllHaveLanded (post ∷ drop (suc i) posts) old
  all_landed = subst (λ (ps : List Post). AllHaveLanded ps old) rest_is so_far.landed

  pub posted_next : IsPosted old.core.history.facts (Some old.core) post
  posted_next = all_left.each 0 d (omega arith)

  pub landed_next : post.ended ≡ None → HavePiecesLanded post.asked old
  landed_next own = all_landed post (0, omega arith, refl) own

  pub on_more : (new : State) (answer : Ending) (b : Answers) → TakesPost post old new answer → LeavesOthers post.asked old.core new.core → RunsOn old new → new.core.power ≡ power.On
      → ((endings : List Ending) → Gathers endings a → Gathers (endings ++ answer ∷ []) b) → TakenOn first new posts (i + 1) b
  on_more new answer b takes leaves runs on gathers = subst (λ n. TakenOn first new posts n b) next (record {
    endings = so_far.endings ++ answer ∷ [];
    takes = subst (λ (ps : List Post). TakesPosts first ps new (so_far.endings ++ answer ∷ [])) (sym (take_more posts i d within)) (OnePost so_far.takes post new answer takes);
    gathers = gathers so_far.endings so_far.gathers;
    long = let was = so_far.long in let more = length-append so_far.endings (answer ∷ []) in omega (arith, was, more);
    left = rest_posted old.core new.core post (drop (suc i) posts) leaves all_left;
    landed = λ p among own j less. leaves.landed (p.asked.first + j) (all_landed p (suc among.0, (let low = among.1 in omega (arith, low)), among.2) own j less);
    runs = runs_both first old new so_far.runs runs;
    on = on;
  })
    where
      next : suc i ≡ i + 1
      next = omega arith

pub on_all : (first now : State) (posts : List Post) (i : ℕ) (a : Answers) → length posts ≤ i → TakenOn first now posts i a → GathersPosts first posts now a
on_all first now posts i a over so_far = record {
  endings = so_far.endings;
  takes = subst (λ (ps : List Post). TakesPosts first ps now so_far.endings) (take_whole posts i over) so_far.takes;
  gathers = so_far.gathers;
}

-- so far, while none is on
pub record TakenOff (first now : Log) (posts : List Post) (i : ℕ) (a : Answers) : Type 0 where
  pub endings : List Ending
  pub takes : TakesGone first.facts (take i posts) now.facts endings
  pub gathers : Gathers endings a
  pub long : length endings ≡ i
  pub left : ArePosted now.facts None (drop i posts)
  pub is : now ≡ record first { facts = now.facts }
  pub keeps : (began : Moment) (device : Device) → Keeps first.run began (at device first.facts) → Keeps first.run began (at device now.facts)
  pub later : KeepsLater first.facts now.facts

pub off_first : (first : Log) (posts : List Post) (a : Answers) → Gathers [] a → ArePosted first.facts None posts → TakenOff first first posts 0 a
off_first first posts a gathers posted = record {
  endings = [];
  takes = subst (λ (ps : List Post). TakesGone first.facts ps first.facts []) (sym (take_zero posts)) NoGone;
  gathers = gathers;
  long = refl;
  left = subst (λ (ps : List Post). ArePosted first.facts None ps) (sym (drop_zero posts)) posted;
  is = refl;
  keeps = λ began device span. span;
  later = record { opens = λ id. refl; later = λ moment later. later };
}

module _ (first old : Log) (posts : List Post) (i : ℕ) (a : Answers) (d : Post) (within : i < length posts) (so_far : TakenOff first old posts i a) where
  off_left : ArePosted old.facts None (get_or posts i d ∷ drop (suc i) posts)
  off_left = subst (λ (ps : List Post). ArePosted old.facts None ps) (drop_more posts i d within) so_far.left

  pub off_posted : IsPosted old.facts None (get_or posts i d)
  off_posted = off_left.each 0 d (omega arith)

  pub off_gone : IsOfGone old.facts (get_or posts i d)
  off_gone = gone_off old.facts (get_or posts i d) off_posted

  pub off_more : (new : Log) (votes : ℕ × ℕ) (answer : Ending) (b : Answers) → (get_or posts i d).ended ≡ Some votes
      → new ≡ record old { facts = old.facts ++ takings old.facts (get_or posts i d).asked.first (get_or posts i d).asked.pieces } → RangeEnds new.facts (get_or posts i d).asked votes.0 votes.1 answer
      → ((began : Moment) (device : Device) → Keeps old.run began (at device old.facts) → Keeps old.run began (at device new.facts))
      → ((endings : List Ending) → Gathers endings a → Gathers (endings ++ answer ∷ []) b) → TakenOff first new posts (i + 1) b
  off_more new votes answer b ended entered ends keeps gathers = subst (λ n. TakenOff first new posts n b) next (subst (λ (log : Log). TakenOff first log posts (suc i) b) (sym entered) (record {
    endings = so_far.endings ++ answer ∷ [];
    takes = subst (λ (ps : List Post). TakesGone first.facts ps more (so_far.endings ++ answer ∷ [])) (sym (take_more posts i d within))
        (OneGone so_far.takes (get_or posts i d) votes.0 votes.1 answer ended (subst (λ (log : Log). RangeEnds log.facts (get_or posts i d).asked votes.0 votes.1 answer) entered ends));
    gathers = gathers so_far.endings so_far.gathers;
    long = let was = so_far.long in let one = length-append so_far.endings (answer ∷ []) in omega (arith, was, one);
    left = rest_off old.facts more (get_or posts i d) (drop (suc i) posts) (λ other apart answered. beside_answered old.facts (get_or posts i d).asked other off_gone.answered apart answered) off_left;
    is = ap (λ (log : Log). record log { facts = more }) so_far.is;
    keeps = λ began device span. subst (λ (log : Log). Keeps first.run began (at device log.facts)) entered
        (subst (λ n. Keeps n began (at device new.facts)) run_is (keeps began device (subst (λ n. Keeps n began (at device old.facts)) (sym run_is) (so_far.keeps began device span))));
    later = later_then first.facts old.facts more so_far.later (taken_later old.facts (get_or posts i d).asked);
  }))
    where
      more : List Fact
      more = old.facts ++ takings old.facts (get_or posts i d).asked.first (get_or posts i d).asked.pieces

      run_is : old.run ≡ first.run
      run_is = ap (λ (log : Log). log.run) so_far.is

      next : suc i ≡ i + 1
      next = omega arith

pub off_all : (first now : Log) (posts : List Post) (i : ℕ) (a : Answers) → length posts ≤ i → TakenOff first now posts i a → GathersGone first.facts posts now.facts a
off_all first now posts i a over so_far = record {
  endings = so_far.endings;
  takes = subst (λ (ps : List Post). TakesGone first.facts ps now.facts so_far.endings) (take_whole posts i over) so_far.takes;
  gathers = so_far.gathers;
}
