-- The answers of a range whose session is gone.
use Rattle.std.proofs.Common.{◌≡◌, ◌≤◌, ◌<◌, ◌+◌, ◌==◌, ◌&&◌, ◌||◌, ℕ, zero, suc, Bool, true, false, List, [], ◌∷◌, ◌++◌, Option, Some, None, drop, length, map, slice_get, slice_set, take, refl, sym, ◌∙◌, ap, subst, append_assoc, arith, if◌then◌else◌}
use Rattle.std.specs.Prelude.{count_by, is_some, slice_index_or, unwrap_or}
use Rattle.std.specs.List.{list_any, AllByRecursion}
use Rattle.std.specs.Option.{option_or}
use Rattle.std.proofs.lemmas.Bool.{eqb-true, ne_eqb}
use Rattle.std.proofs.lemmas.List.{append-nil}
use Rattle.lvm_num.proofs.Booleans.{not_so}
use Rattle.lvm_disk.specs.Device.{Device}
use Rattle.lvm_kept.specs.Moments.{Moment}
use Rattle.lvm_steps.specs.Moments.{Keeps}
use Rattle.lvm_steps.specs.Requests.{at}
use Rattle.lvm_steps.proofs.EnteringLemmas.{quiet_goes_on}
use Rattle.lvm_vol.specs.declared.entry.Entry.{Entry}
use Rattle.lvm_vol.specs.declared.entry.Outcome.{Outcome}
use Rattle.lvm_vol.specs.Facts.{Request, Fact, Making, Made, Split, Removing, Removed, Begun, Landed, Taken, Cut, On}
use Rattle.lvm_vol.specs.Legal.{begins_in, lands}
use Rattle.lvm_vol.specs.Order.{Ordered}
use Rattle.lvm_vol.proofs.LawsLemmas.Legality.{fits_taken, legal_prefix}
use Rattle.lvm_vol.specs.Log.{Log, asked, entries_from, entry_at, is_answered, lands_id, no_request, place_after, request_of, taken_fact, with_fact}
use Rattle.lvm_vol.proofs.LogLemmas.{and_left, and_right, found_of}
use Rattle.lvm_vol.proofs.LegalLemmas.{unjoined}
use Rattle.lvm_history.proofs.LogLemmas.Staying.{answered_stays, request_stays}
use Rattle.lvm_session.specs.declared.open.Open.{Open}
use Rattle.lvm_session.specs.Calls.{is_asked}
use Rattle.lvm_session.specs.Requests.{IsLanded}
use Rattle.lvm_session.specs.Sound.{IsAsked, outcome_by, outcome_in}
use Rattle.lvm_keeps.proofs.Small.{both}
use Rattle.lvm_posts.specs.declared.asked.Asked.{Asked}
use Rattle.lvm_posts.specs.declared.fault.RangeFault.{RangeFault}
use Rattle.lvm_posts.specs.Posts.{AreAnswered, OverSessionsHaveAnswered, landing_by, takings}
use Rattle.lvm_posts.specs.Deciding.{EndsWith}
use Rattle.lvm_posts.proofs.DecidingLemmas.{DecidesSoFar, decides_more}

-- ---- how a request has landed

drop_none : (facts : List Fact) → drop 0 facts ≡ facts
drop_none [] = refl
drop_none (f ∷ facts) = refl

one_tells : (place : ℕ) (f : Fact) (rest : Option Outcome) (id : ℕ) → (if lands_id id f then outcome_by f else rest) ≡ option_or (landing_by id (entry_at place f)) rest
one_tells place (Landed r how started got) rest id = by (r.id == id)
  where
    by : (b : Bool) → (if b then Some how else rest) ≡ option_or (if b then Some how else None) rest
    by true = refl
    by false = refl
one_tells place (Making lv blocks m) rest id = refl
one_tells place (Made lv) rest id = refl
one_tells place (Split from lv) rest id = refl
one_tells place (Removing vol) rest id = refl
one_tells place (Removed vol) rest id = refl
one_tells place (Begun r) rest id = refl
one_tells place (Taken r) rest id = refl
one_tells place Cut rest id = refl
one_tells place (On moment) rest id = refl

tells_from : (place : ℕ) (facts : List Fact) (k id : ℕ) (e : Entry) → slice_get (entries_from place facts) k ≡ Some e → outcome_in (drop k facts) id ≡ option_or (landing_by id e) (outcome_in (drop (suc k) facts) id)
tells_from place [] k id e there = absurd (cc there)
tells_from place (f ∷ facts) zero id e there =
    let same : entry_at place f ≡ e = cc there in
    one_tells place f (outcome_in facts id) id ∙ ap (λ (x : Entry). option_or (landing_by id x) (outcome_in facts id)) same ∙ ap (λ (l : List Fact). option_or (landing_by id e) (outcome_in l id)) (sym (drop_none facts))
tells_from place (f ∷ facts) (suc k) id e there = tells_from (place_after place f) facts k id e there

pub tells : (facts : List Fact) (k id : ℕ) (e : Entry) (how : Option Outcome) → slice_get (entries_from 0 facts) k ≡ Some e → how ≡ landing_by id e → outcome_in (drop k facts) id ≡ option_or how (outcome_in (drop (k + 1) facts) id)
tells facts k id e how there is = tells_from 0 facts k id e there ∙ ap (λ m. option_or m (outcome_in (drop (suc k) facts) id)) (sym is) ∙ (let more : suc k ≡ k + 1 = omega arith in ap (λ n. option_or how (outcome_in (drop n facts) id)) more)

pub tells_first : (facts : List Fact) (id : ℕ) → outcome_in facts id ≡ outcome_in (drop 0 facts) id
tells_first facts id = ap (λ (l : List Fact). outcome_in l id) (sym (drop_none facts))

-- the entry tells it, or the later ones do
module _ (facts : List Fact) (k id : ℕ) (e : Entry) (so_far : outcome_in facts id ≡ outcome_in (drop k facts) id) (there : slice_get (entries_from 0 facts) k ≡ Some e) where
  pub told_here : (how : Outcome) → Some how ≡ landing_by id e → Some how ≡ outcome_in facts id
  told_here how is = sym (so_far ∙ tells facts k id e (Some how) there is)

  pub told_later : None ≡ landing_by id e → outcome_in facts id ≡ outcome_in (drop (k + 1) facts) id
  told_later is = so_far ∙ tells facts k id e None there is

-- ---- one that is answered has landed

some_outcome : (facts : List Fact) (id : ℕ) → list_any (lands_id id) facts ≡ true → outcome_in facts id ≡ None → ⊥
some_outcome [] id lands none = not_so lands
some_outcome (f ∷ facts) id lands none = by f (some_outcome facts id) lands none
  where
    landed : (b : Bool) (how : Outcome) → (list_any (lands_id id) facts ≡ true → outcome_in facts id ≡ None → ⊥) → b || list_any (lands_id id) facts ≡ true → (if b then Some how else outcome_in facts id) ≡ None → ⊥
    landed true how rest lands none = absurd (cc none)
    landed false how rest lands none = rest lands none

    by : (f : Fact) → (list_any (lands_id id) facts ≡ true → outcome_in facts id ≡ None → ⊥) → list_any (lands_id id) (f ∷ facts) ≡ true → outcome_in (f ∷ facts) id ≡ None → ⊥
    by (Landed r how started got) rest lands none = landed (r.id == id) how rest lands none
    by (Making lv blocks m) rest lands none = rest lands none
    by (Made lv) rest lands none = rest lands none
    by (Split from lv) rest lands none = rest lands none
    by (Removing vol) rest lands none = rest lands none
    by (Removed vol) rest lands none = rest lands none
    by (Begun r) rest lands none = rest lands none
    by (Taken r) rest lands none = rest lands none
    by Cut rest lands none = rest lands none
    by (On moment) rest lands none = rest lands none

pub has_outcome : (facts : List Fact) (client id : ℕ) → is_answered facts client id ≡ true → outcome_in facts id ≡ None → ⊥
has_outcome facts client id answered none =
    let front = and_left (is_some (asked facts id) && (request_of facts id).client == client && list_any (lands_id id) facts) _ answered in
    some_outcome facts id (and_right (is_some (asked facts id) && (request_of facts id).client == client) (list_any (lands_id id) facts) front) none

pub no_outcome : {X : Type 0} (facts : List Fact) (id first n : ℕ) → id ≡ first + n → is_answered facts 1 (first + n) ≡ true → None ≡ outcome_in facts id → X
no_outcome facts id first n same answered none = absurd (has_outcome facts 1 (first + n) answered (sym (none ∙ ap (outcome_in facts) same)))

-- ---- so far

-- The answers of so many pieces are taken, by what the history told of them; the others are still to be.
pub record TakenSoFar (first now : Log) (range : Asked) (have total n : ℕ) (fault : Option RangeFault) : Type 0 where
  pub is : now ≡ record first { facts = first.facts ++ takings first.facts range.first n }
  pub decides : DecidesSoFar now.facts range have total n fault
  pub answered : (k : ℕ) → n ≤ k → k < range.pieces → is_answered now.facts 1 (range.first + k) ≡ true
  pub keeps : (began : Moment) (device : Device) → Keeps first.run began (at device first.facts) → Keeps first.run began (at device now.facts)

own_number : (facts : List Fact) (id : ℕ) → is_answered facts 1 id ≡ true → (r : Request) × (asked facts id ≡ Some r) × (r.id ≡ id)
own_number facts id answered =
    let front = and_left (is_some (asked facts id) && (request_of facts id).client == 1 && list_any (lands_id id) facts) _ answered in
    let front2 = and_left (is_some (asked facts id) && (request_of facts id).client == 1) (list_any (lands_id id) facts) front in
    let it = found_of facts id (and_left (is_some (asked facts id)) ((request_of facts id).client == 1) front2) in
    (request_of facts id, it.found, it.own)

pub takes_more : (first now new : Log) (range : Asked) (have total n : ℕ) (fault failed : Option RangeFault) → AreAnswered first.facts range → n < range.pieces → Ordered now.run [] now.facts → TakenSoFar first now range have total n fault
    → EndsWith now.facts range have total n failed → new ≡ with_fact now (taken_fact now.facts (range.first + n)) → TakenSoFar first new range have total (n + 1) (option_or fault failed)
takes_more first now new range have total n fault failed all within ordered so_far ends is = record {
  is = is ∙ ap (λ (l : Log). with_fact l (taken_fact l.facts (range.first + n))) so_far.is ∙ ap (λ (l : List Fact). record first { facts = l }) same;
  decides = subst (λ (l : Log). DecidesSoFar l.facts range have total (n + 1) (option_or fault failed)) (sym is) (decides_more now.facts (taken_fact now.facts (range.first + n)) range have total n fault failed (λ id. refl) so_far.decides ends);
  answered = λ k low less. subst (λ (l : Log). is_answered l.facts 1 (range.first + k) ≡ true) (sym is) (answered_stays now.facts (taken_fact now.facts (range.first + n)) 1 (range.first + k) (so_far.answered k (omega (arith, low)) less) (other k low));
  keeps = λ began device span. subst (λ (l : Log). Keeps first.run began (at device l.facts)) (sym is)
      (quiet_goes_on first.run began device now.facts (taken_fact now.facts (range.first + n)) (so_far.keeps began device span) tt (λ past begins holds.
      unjoined past now.facts (request_of now.facts (range.first + n))
      (fits_taken past now 1 (range.first + n) (legal_prefix past now.facts holds.legal) (ap (λ (l : Log). count_by (begins_in l.run) past) so_far.is ∙ begins.own) ordered (so_far.answered n (omega arith) within))));
}
  where
    its : (r : Request) × (asked first.facts (range.first + n) ≡ Some r) × (r.id ≡ range.first + n)
    its = own_number first.facts (range.first + n) (all n within)

    now_its : (r : Request) × (asked now.facts (range.first + n) ≡ Some r) × (r.id ≡ range.first + n)
    now_its = own_number now.facts (range.first + n) (so_far.answered n (omega arith) within)

    same_entry : taken_fact (first.facts ++ takings first.facts range.first n) (range.first + n) ≡ taken_fact first.facts (range.first + n)
    same_entry = ap Taken (request_stays first.facts (takings first.facts range.first n) (range.first + n) its.0 its.1 ∙ sym (ap (λ (o : Option Request). unwrap_or o no_request) its.1))

    same : (first.facts ++ takings first.facts range.first n) ++ taken_fact (first.facts ++ takings first.facts range.first n) (range.first + n) ∷ [] ≡ first.facts ++ takings first.facts range.first (n + 1)
    same =
        append_assoc first.facts (takings first.facts range.first n) _
        ∙ ap (λ (f : Fact). first.facts ++ (takings first.facts range.first n ++ f ∷ [])) same_entry
        ∙ (let more : suc n ≡ n + 1 = omega arith in ap (λ m. first.facts ++ takings first.facts range.first m) more)

    other : (k : ℕ) → n + 1 ≤ k → (request_of now.facts (range.first + n)).id == range.first + k ≡ false
    other k low = ap (λ (o : Option Request). (unwrap_or o no_request).id == range.first + k) now_its.1 ∙ ne_eqb now_its.0.id (range.first + k) (λ e. let own = now_its.2 in absurd (omega (arith, own, e, low)))

pub taken_first : (log : Log) (range : Asked) (have total : ℕ) → AreAnswered log.facts range → DecidesSoFar log.facts range have total 0 None → TakenSoFar log log range have total 0 None
taken_first log range have total all none = record {
  is = ap (λ (l : List Fact). record log { facts = l }) (sym (append-nil log.facts));
  decides = none;
  answered = λ k low less. all k less;
  keeps = λ began device span. span;
}

-- ---- posts whose session has ended

-- one more is made into another
pub mapped_more : {A : Type 0} (f : A → A) (xs : List A) (i : ℕ) (d : A) → i < length xs → slice_set (map f (take i xs) ++ drop i xs) i (f (slice_index_or (map f (take i xs) ++ drop i xs) i d)) ≡ map f (take (suc i) xs) ++ drop (suc i) xs
mapped_more f [] i d within = absurd (omega (arith, within))
mapped_more f (x ∷ xs) zero d within = first xs
  where
    first : (ys : List _) → f x ∷ ys ≡ f x ∷ (map f (take 0 ys) ++ drop 0 ys)
    first [] = refl
    first (y ∷ ys) = refl
mapped_more f (x ∷ xs) (suc i) d within = ap (λ (l : List _). f x ∷ l) (mapped_more f xs i d (omega (arith, within)))

pub mapped_none : {A : Type 0} (f : A → A) (xs : List A) → xs ≡ map f (take 0 xs) ++ drop 0 xs
mapped_none f [] = refl
mapped_none f (x ∷ xs) = refl

pub mapped_all : {A : Type 0} (f : A → A) (xs : List A) (i : ℕ) → length xs ≤ i → map f (take i xs) ++ drop i xs ≡ map f xs
mapped_all f [] zero over = refl
mapped_all f [] (suc i) over = refl
mapped_all f (x ∷ xs) zero over = absurd (omega (arith, over))
mapped_all f (x ∷ xs) (suc i) over = ap (λ (l : List _). f x ∷ l) (mapped_all f xs i (omega (arith, over)))

-- ---- what an ended session leaves

held_answered : (facts : List Fact) (id : ℕ) (os : List Open) → AllByRecursion (IsAsked facts) os → AllByRecursion IsLanded os → list_any (is_asked 1 id) os ≡ true → is_answered facts 1 id ≡ true
held_answered facts id [] asks landed some = not_so some
held_answered facts id (o ∷ os) asks landed some = by (is_asked 1 id o) refl (held_answered facts id os asks.1 landed.1) some
  where
    by : (b : Bool) → is_asked 1 id o ≡ b → (list_any (is_asked 1 id) os ≡ true → is_answered facts 1 id ≡ true) → b || list_any (is_asked 1 id) os ≡ true → is_answered facts 1 id ≡ true
    by true is rest some =
        let keys = both (o.request.client == 1) (o.request.id == id) is in
        subst (λ n. is_answered facts 1 n ≡ true) (eqb-true o.request.id id keys.1) (subst (λ c. is_answered facts c o.request.id ≡ true) (eqb-true o.request.client 1 keys.0) (asks.0.answered landed.0.landed))
    by false is rest some = rest some

pub over_answered : OverSessionsHaveAnswered
over_answered s range sound over held k less = held_answered s.core.history.facts (range.first + k) s.core.requests sound.told.requests (sound.over over).landed (held k less)
