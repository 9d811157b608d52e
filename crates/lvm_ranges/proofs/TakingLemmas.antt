-- The answers of a range, taken one after the other.
use Rattle.std.proofs.Common.{◌≡◌, ◌≢◌, inl, inr, ◌≤◌, ◌<◌, ◌+◌, ◌==◌, ◌&&◌, ◌||◌, ℕ, zero, suc, Bool, true, false, List, [], ◌∷◌, ◌++◌, Option, Some, None, length, position, slice_get, slice_index_or, refl, sym, ◌∙◌, ap, subst, arith, if◌then◌else◌}
use Rattle.std.specs.Prelude.{IfSome, MatchOption, Result, find, is_none, unwrap_or}
use Rattle.std.specs.List.{AllByRecursion, list_any, remove}
use Rattle.std.specs.Option.{option_or}
use Rattle.std.proofs.lemmas.Bool.{eq-eqb, eqb-true, ne_eqb}
use Rattle.std.proofs.lemmas.List.Edits.{length-remove}
use Rattle.std.proofs.lemmas.List.Quantifiers.{position-Some}
use Rattle.std.proofs.lemmas.Option.{slice_get_within}
use Rattle.lvm_num.specs.Votes.{total_votes}
use Rattle.lvm_num.proofs.Booleans.{not_so}
use Rattle.lvm_num.proofs.Lists.{all_at}
use Rattle.lvm_vol.specs.declared.entry.Outcome.{Outcome}
use Rattle.lvm_vol.specs.declared.entry.Outcome.TheVariants as outcome
use Rattle.lvm_vol.specs.Facts.{Fact, Request, begun}
use Rattle.lvm_vol.specs.Log.{is_answered, is_open, no_request, request_of, taken_fact, takes_id}
use Rattle.lvm_vol.proofs.LogLemmas.{find_stands}
use Rattle.lvm_path.specs.Asks.{count_of}
use Rattle.lvm_session.specs.declared.answers.Taken.{Taken}
use Rattle.lvm_session.specs.declared.answers.Taken.TheVariants as answered
use Rattle.lvm_session.specs.declared.open.Open.{Open}
use Rattle.lvm_session.specs.Calls.{TakeAt, TakeGives, TakesLanded, after_take, is_asked, taken_as}
use Rattle.lvm_session.specs.Causes.{IsAnswered, IsLandedFor}
use Rattle.lvm_session.specs.Judging.{is_waiting}
use Rattle.lvm_session.specs.Sound.{IsAsked, IsSound, outcome_in, waits}
use Rattle.lvm_session.specs.State.{Core, State, votes_there}
use Rattle.lvm_keeps.proofs.Lists.{any_removed}
use Rattle.lvm_keeps.proofs.Small.{both}
use Rattle.lvm_keeps.proofs.SoundLemmas.Telling.{answered_still, open_still, outcome_still}
use Rattle.lvm_driver.proofs.passed.KeepsEvents.{some_position}
use Rattle.lvm_driver.proofs.passed.Going.{runs_both, runs_none}
use Rattle.lvm_driver.specs.passed.Going.{RunsOn}
use Rattle.lvm_driver.specs.Answers.{IsCausedFor}
use Rattle.lvm_posts.specs.declared.asked.Asked.{Asked}
use Rattle.lvm_posts.specs.declared.fault.RangeFault.{RangeFault}
use Rattle.lvm_posts.specs.Posts.{AreHeld}
use Rattle.lvm_ranges.specs.Keeping.{AreApart, KeepsOthers}
use Rattle.lvm_ranges.specs.Finishing.{HasLandedSo, TakesRange}
use Rattle.lvm_ranges.specs.Landing.{HavePiecesLanded}
use Rattle.lvm_posts.specs.Pieces.{piece_lp}
use Rattle.lvm_posts.specs.Deciding.{EndsWith, RangeEnds, fault_by}
use Rattle.lvm_posts.proofs.DecidingLemmas.{DecidesSoFar, decides_more, none_yet}
use Rattle.lvm_ranges.specs.Taking.{NoTake, OneTake, TakesAnswers, fault_taken, is_landed}
use Rattle.lvm_ranges.proofs.KeepingLemmas.Growing.{Grows, grows_quiet, keeps_both, keeps_none, keeps_requests}

-- ---- one answer is taken

-- it had landed so, and goes
pub record TookOne (core new : Core) (id : ℕ) (answer : Taken) : Type 0 where
  pub how : Outcome
  pub outcome : outcome_in core.history.facts id ≡ Some how
  pub place : ℕ
  pub row : Open
  pub there : slice_get core.requests place ≡ Some row
  pub client : row.request.client ≡ 1
  pub own : row.request.id ≡ id
  pub answer_is : answer ≡ taken_as how row.place (count_of row.request.ask)
  pub is : new ≡ after_take core place row.request.id

module _ (s : State) (new : Core) (id : ℕ) (answer : Taken) (sound : IsSound s) (held : list_any (is_asked 1 id) s.core.requests ≡ true) (landed : is_open s.core.history.facts id ≡ false) where
  waits_so : (os : List Open) (k : ℕ) (o : Open) → slice_get os k ≡ Some o → is_waiting o ≡ true → o.request.id ≡ id → waits os id ≡ true
  waits_so [] k o there waiting own = absurd (cc there)
  waits_so (x ∷ os) zero o there waiting own =
      let same : x ≡ o = cc there in
      let both_so : (is_waiting x && x.request.id == id) ≡ true = ap (λ (y : Open). is_waiting y && y.request.id == id) same ∙ ap (λ b. b && o.request.id == id) waiting ∙ eq-eqb o.request.id id own in
      ap (λ b. b || waits os id) both_so
  waits_so (x ∷ os) (suc k) o there waiting own = ap (λ b. (is_waiting x && x.request.id == id) || b) (waits_so os k o there waiting own) ∙ or_true (is_waiting x && x.request.id == id)
    where
      or_true : (a : Bool) → a || true ≡ true
      or_true true = refl
      or_true false = refl

  at_place : (place : ℕ) → position (is_asked 1 id) s.core.requests ≡ Some place → TakeAt s.core new place answer → TookOne s.core new id answer
  at_place place found gives = by gives.0.landed refl gives.2
    where
      o : Open
      o = gives.0

      it : (place < length s.core.requests) × (is_asked 1 id (slice_index_or s.core.requests place o) ≡ true)
      it = let all = position-Some (is_asked 1 id) s.core.requests place o found in (all.0, all.1)

      same : slice_index_or s.core.requests place o ≡ o
      same = found_at s.core.requests place o gives.1
        where
          found_at : (os : List Open) (k : ℕ) (x : Open) → slice_get os k ≡ Some x → slice_index_or os k x ≡ x
          found_at [] k x there = absurd (cc there)
          found_at (y ∷ os) zero x there = cc there
          found_at (y ∷ os) (suc k) x there = found_at os k x there

      keys : (o.request.client == 1 ≡ true) × (o.request.id == id ≡ true)
      keys = both (o.request.client == 1) (o.request.id == id) (sym (ap (is_asked 1 id) same) ∙ it.1)

      own : o.request.id ≡ id
      own = eqb-true o.request.id id keys.1

      asked : IsAsked s.core.history.facts o
      asked = all_at (IsAsked s.core.history.facts) s.core.requests place o sound.told.requests gives.1

      by : (m : Option Outcome) → o.landed ≡ m → TakesLanded s.core new place o answer m → TookOne s.core new id answer
      by None is takes = not_so (sym landed ∙ sound.told.each id ∙ waits_so s.core.requests place o gives.1 (ap is_none is) own)
      by (Some how) is takes = record {
        how = how;
        outcome = ap (outcome_in s.core.history.facts) (sym own) ∙ sym asked.outcome ∙ is;
        place = place;
        row = o;
        there = gives.1;
        client = eqb-true o.request.client 1 keys.0;
        own = own;
        answer_is = takes.0;
        is = takes.1;
      }

  pub took : TakeGives s.core new 1 id answer → TookOne s.core new id answer
  took gives = by (position (is_asked 1 id) s.core.requests) refl gives
    where
      by : (m : Option ℕ) → position (is_asked 1 id) s.core.requests ≡ m → MatchOption m ((answer ≡ answered.Unknown) × (new ≡ s.core)) (λ (place : ℕ). TakeAt s.core new place answer) → TookOne s.core new id answer
      by None is gives = absurd (some_position (is_asked 1 id) s.core.requests held is)
      by (Some place) is gives = at_place place is gives

-- its fault is that of how it landed
fault_so : (lp have total : ℕ) (how : Outcome) (place count : ℕ) → fault_taken lp have total (taken_as how place count) ≡ fault_by lp have total how
fault_so lp have total outcome.Done place count = refl
fault_so lp have total outcome.Got place count = refl
fault_so lp have total outcome.Lost place count = refl
fault_so lp have total outcome.ReadFailed place count = refl
fault_so lp have total outcome.NoFresh place count = refl
fault_so lp have total outcome.Off place count = refl
fault_so lp have total outcome.Dark place count = refl

landed_so : (how : Outcome) (place count : ℕ) → is_landed (taken_as how place count) ≡ true
landed_so outcome.Done place count = refl
landed_so outcome.Got place count = refl
landed_so outcome.Lost place count = refl
landed_so outcome.ReadFailed place count = refl
landed_so outcome.NoFresh place count = refl
landed_so outcome.Off place count = refl
landed_so outcome.Dark place count = refl

-- ---- one answer more

-- So many answers are taken, and the first that isn't well decides; the other requests of the table stay as they were.
pub record TakingSoFar (first now : State) (asked : Asked) (have total n : ℕ) (fault : Option RangeFault) : Type 0 where
  pub shelf : now.device ≡ first.device
  pub takes : TakesAnswers asked.first first.core n now.core
  pub decides : DecidesSoFar now.core.history.facts asked have total n fault
  pub held : (k : ℕ) → n ≤ k → k < asked.pieces → list_any (is_asked 1 (asked.first + k)) now.core.requests ≡ true
  pub landed : HavePiecesLanded asked now
  pub fewer : length now.core.requests + n ≡ length first.core.requests
  pub others : KeepsOthers asked first.core now.core
  pub power_is : now.core.power ≡ first.core.power
  pub outcomes : (id : ℕ) → outcome_in now.core.history.facts id ≡ outcome_in first.core.history.facts id
  pub runs : RunsOn first now

pub takes_none : (first : State) (asked : Asked) (have total : ℕ) → AreHeld first.core asked → HavePiecesLanded asked first → TakingSoFar first first asked have total 0 None
takes_none first asked have total held landed = record {
  shelf = refl;
  takes = NoTake;
  decides = none_yet first.core.history.facts asked have total;
  held = λ k low less. held k less;
  landed = landed;
  fewer = omega arith;
  others = record { held = λ other apart has. has; answered = λ other apart are. are; none = λ client id is. is; requests = keeps_none first.core };
  power_is = refl;
  outcomes = λ id. refl;
  runs = runs_none first;
}

module _ (first old new : State) (asked : Asked) (have total n lp : ℕ) (fault : Option RangeFault) (answer : Taken) (within : n < asked.pieces) (sound : IsSound old) (so_far : TakingSoFar first old asked have total n fault)
    (shelf : new.device ≡ old.device) (gives : TakeGives old.core new.core 1 (asked.first + n) answer) (lp_is : lp ≡ piece_lp asked n) where
  one : TookOne old.core new.core (asked.first + n) answer
  one = took old new.core (asked.first + n) answer sound (so_far.held n (omega arith) within) (so_far.landed n within) gives

  abbrev entry : Fact
  entry = taken_fact old.core.history.facts one.row.request.id

  facts_are : new.core.history.facts ≡ old.core.history.facts ++ entry ∷ []
  facts_are = ap (λ (c : Core). c.history.facts) one.is

  requests_are : new.core.requests ≡ remove old.core.requests one.place
  requests_are = ap (λ (c : Core). c.requests) one.is

  and_false : (a : Bool) → a && false ≡ false
  and_false true = refl
  and_false false = refl

  -- a request of another number stays in the table
  stays : (id : ℕ) → asked.first + n ≢ id → list_any (is_asked 1 id) old.core.requests ≡ true → list_any (is_asked 1 id) new.core.requests ≡ true
  stays id other has =
      let own = one.own in
      let no : one.row.request.id == id ≡ false = ne_eqb one.row.request.id id (λ e. other (sym own ∙ e)) in
      let none : is_asked 1 id one.row ≡ false = ap (λ b. (one.row.request.client == 1) && b) no ∙ and_false (one.row.request.client == 1) in
      ap (list_any (is_asked 1 id)) requests_are ∙ any_removed (is_asked 1 id) old.core.requests one.place one.row one.there none ∙ has

  ends : EndsWith old.core.history.facts asked have total n (fault_taken lp have total answer)
  ends = record {
    how = one.how;
    landed = one.outcome;
    fault = sym (ap (fault_taken lp have total) one.answer_is ∙ fault_so lp have total one.how one.row.place (count_of one.row.request.ask) ∙ ap (λ l. fault_by l have total one.how) lp_is);
  }

  -- the answer of a request of another number isn't taken
  answered_stays : (id : ℕ) → asked.first + n ≢ id → is_answered old.core.history.facts 1 id ≡ true → is_answered new.core.history.facts 1 id ≡ true
  answered_stays id other is =
      let facts : List Fact = old.core.history.facts in
      let its : IsAsked facts one.row = all_at (IsAsked facts) old.core.requests one.place one.row sound.told.requests one.there in
      let own : (request_of facts one.row.request.id).id ≡ one.row.request.id = ap (λ (m : Option Request). (unwrap_or m no_request).id) its.told ∙ (find_stands one.row.request.id (begun facts) its.request its.told).1 in
      let untaken : takes_id id entry ≡ false = ne_eqb (request_of facts one.row.request.id).id id (λ e. other (sym (own ∙ one.own) ∙ e)) in
      ap (λ (l : List Fact). is_answered l 1 id) facts_are ∙ answered_still facts entry refl 1 id refl untaken ∙ is

  -- and no request comes into the table
  none_left : (client id : ℕ) → list_any (is_asked client id) old.core.requests ≡ false → list_any (is_asked client id) new.core.requests ≡ false
  none_left client id is =
      ap (list_any (is_asked client id)) requests_are ∙ any_removed (is_asked client id) old.core.requests one.place one.row one.there (none_at (is_asked client id) old.core.requests one.place one.row is one.there) ∙ is
    where
      none_at : (t : Open → Bool) (os : List Open) (k : ℕ) (o : Open) → list_any t os ≡ false → slice_get os k ≡ Some o → t o ≡ false
      none_at t [] k o none there = absurd (no_one k there)
        where
          no_one : (j : ℕ) → slice_get [] j ≡ Some o → ⊥
          no_one zero e = absurd (cc e)
          no_one (suc j) e = absurd (cc e)
      none_at t (x ∷ os) zero o none there = let same : x ≡ o = cc there in ap t (sym same) ∙ left (t x) (list_any t os) none
        where
          left : (a b : Bool) → a || b ≡ false → a ≡ false
          left true b e = e
          left false b e = refl
      none_at t (x ∷ os) (suc k) o none there = none_at t os k o (right (t x) (list_any t os) none) there
        where
          right : (a b : Bool) → a || b ≡ false → b ≡ false
          right true b e = not_so (sym e)
          right false b e = e

  grows : Grows old.core.history.facts new.core.history.facts
  grows = subst (λ (l : List Fact). Grows old.core.history.facts l) (sym facts_are) (grows_quiet old.core.history.facts entry refl (λ id. refl))

  pub takes_one : RunsOn old new → TakingSoFar first new asked have total (n + 1) (option_or fault (fault_taken lp have total answer))
  takes_one runs = record {
    shelf = shelf ∙ so_far.shelf;
    takes = OneTake so_far.takes answer gives (ap is_landed one.answer_is ∙ landed_so one.how one.row.place (count_of one.row.request.ask));
    decides = subst (λ (l : List Fact). DecidesSoFar l asked have total (n + 1) (option_or fault (fault_taken lp have total answer))) (sym facts_are)
        (decides_more old.core.history.facts entry asked have total n fault (fault_taken lp have total answer) (λ id. refl) so_far.decides ends);
    held = λ k low less. stays (asked.first + k) (omega (arith, low)) (so_far.held k (omega (arith, low)) less);
    landed = λ k less. ap (λ (l : List Fact). is_open l (asked.first + k)) facts_are ∙ open_still old.core.history.facts entry refl (asked.first + k) refl ∙ so_far.landed k less;
    fewer =
        let was = so_far.fewer in
        let long = ap length requests_are in
        let less = length-remove old.core.requests one.place (slice_get_within old.core.requests one.place one.row one.there) in
        omega (arith, was, long, less);
    others = record {
      held = λ other apart has k less. stays (other.first + k) (beside other apart k less) (so_far.others.held other apart has k less);
      answered = λ other apart are k less. answered_stays (other.first + k) (beside other apart k less) (so_far.others.answered other apart are k less);
      none = λ client id is. none_left client id (so_far.others.none client id is);
      requests = keeps_both first.core old.core new.core so_far.others.requests (keeps_requests old.core new.core sound.told.ordered grows);
    };
    power_is = ap (λ (c : Core). c.power) one.is ∙ so_far.power_is;
    outcomes = λ id. ap (λ (l : List Fact). outcome_in l id) facts_are ∙ outcome_still old.core.history.facts entry id refl ∙ so_far.outcomes id;
    runs = runs_both first old new so_far.runs runs;
  }
    where
      beside : (other : Asked) → AreApart asked other → (k : ℕ) → k < other.pieces → asked.first + n ≢ other.first + k
      beside other (inl before) k less = omega (arith, before, within)
      beside other (inr behind) k less = omega (arith, behind, less)

-- ---- why they landed so

-- what holds of each in the table holds of the one that is found
pub found_holds : (P : Open → Type 0) (t : Open → Bool) (os : List Open) → AllByRecursion P os → IfSome (find t os) P
found_holds P t [] all = tt
found_holds P t (o ∷ os) all = by (t o) (found_holds P t os all.1)
  where
    by : (b : Bool) → IfSome (find t os) P → IfSome (if b then Some o else find t os) P
    by true rest = all.0
    by false rest = rest

pub answered_for : (s : State) (client id : ℕ) → IsSound s → IsCausedFor s client id
answered_for s client id sound = found_holds (IsAnswered s) (is_asked client id) s.core.requests sound.answered

-- one that is in the table is found in it
found_one : {X : Type 0} (t : X → Bool) (xs : List X) → list_any t xs ≡ true → (x : X) × (find t xs ≡ Some x) × (t x ≡ true)
found_one t [] some = not_so some
found_one {X} t (x ∷ xs) some = by (t x) refl (found_one t xs) some
  where
    by : (b : Bool) → t x ≡ b → (list_any t xs ≡ true → (y : X) × (find t xs ≡ Some y) × (t y ≡ true)) → b || list_any t xs ≡ true → (y : X) × ((if b then Some x else find t xs) ≡ Some y) × (t y ≡ true)
    by true is rest e = (x, refl, is)
    by false is rest e = rest e

-- it has landed as the history tells
landed_for : (s : State) (id : ℕ) (how : Outcome) → IsSound s → list_any (is_asked 1 id) s.core.requests ≡ true → outcome_in s.core.history.facts id ≡ Some how → HasLandedSo s id how
landed_for s id how sound held told = record { request = o; found = one.1; landed = landed; cause = subst (λ (m : Option Outcome). IfSome m (IsLandedFor s o)) landed answered }
  where
    one : (o : Open) × (find (is_asked 1 id) s.core.requests ≡ Some o) × (is_asked 1 id o ≡ true)
    one = found_one (is_asked 1 id) s.core.requests held

    o : Open
    o = one.0

    asked : IsAsked s.core.history.facts o
    asked = subst (λ (m : Option Open). IfSome m (IsAsked s.core.history.facts)) one.1 (found_holds (IsAsked s.core.history.facts) (is_asked 1 id) s.core.requests sound.told.requests)

    answered : IsAnswered s o
    answered = subst (λ (m : Option Open). IfSome m (IsAnswered s)) one.1 (answered_for s 1 id sound)

    own : o.request.id ≡ id
    own = eqb-true o.request.id id (both (o.request.client == 1) (o.request.id == id) one.2).1

    landed : o.landed ≡ Some how
    landed = asked.outcome ∙ ap (outcome_in s.core.history.facts) own ∙ told

-- ---- all of them

pub takes_all : (first now : State) (asked : Asked) (have total n : ℕ) (fault : Option RangeFault) (answer : Result (Unit {0}) RangeFault) → IsSound first → AreHeld first.core asked → HavePiecesLanded asked first → have ≡ votes_there first.core → total ≡ total_votes first.core.descriptor
    → n ≡ asked.pieces → TakingSoFar first now asked have total n fault → RangeEnds now.core.history.facts asked have total answer → TakesRange asked first now answer
takes_all first now asked have total n fault answer sound held landed have_is total_is last so_far ends = record {
  landed = landed;
  shelf = so_far.shelf;
  takes = subst (λ m. TakesAnswers asked.first first.core m now.core) last so_far.takes;
  fewer = subst (λ m. length now.core.requests + m ≡ length first.core.requests) last so_far.fewer;
  power_is = so_far.power_is;
  ends = subst (λ t. RangeEnds now.core.history.facts asked (votes_there first.core) t answer) total_is (subst (λ h. RangeEnds now.core.history.facts asked h total answer) have_is ends);
  caused = λ k how less told. landed_for first (asked.first + k) how sound (held k less) (sym (so_far.outcomes (asked.first + k)) ∙ told);
}
