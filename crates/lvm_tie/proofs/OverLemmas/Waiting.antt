-- The requests that wait are those of the state that are open.
use Rattle.std.proofs.Common.{◌≡◌, inl, inr, ℕ, zero, suc, ◌*◌, ◌<◌, Bool, true, false, ◌&&◌, ◌||◌, not, if◌then◌else◌, List, [], ◌∷◌, ◌++◌, Option, Some, slice_get, refl, sym, ap, subst, ◌∙◌, arith}
use Rattle.std.specs.Prelude.{IsFalse}
use Rattle.std.specs.List.{list_any, list_all, AllByRecursion}
use Rattle.std.specs.Option.{option_map_or}
use Rattle.lvm_num.proofs.Lists.{all_at}
use Rattle.lvm_vol.specs.declared.entry.Outcome.{Outcome}
use Rattle.lvm_vol.specs.Facts.{Request as Asked, Fact, Landed as HasLanded, IsInList}
use Rattle.lvm_vol.specs.Log.{request_of, landed_fact, is_got, got_without_bytes, blocks_begun_with}
use Rattle.lvm_sched.specs.declared.writes.TargetState.{TargetState}
use Rattle.lvm_sched.specs.declared.writes.TargetState.TheVariants as target
use Rattle.lvm_sched.specs.Writes.{is_waiting as is_unstarted}
use Rattle.lvm_path.specs.declared.request.Phase.{Phase}
use Rattle.lvm_path.specs.declared.request.Phase.TheVariants as phase
use Rattle.lvm_path.specs.declared.target.Target.{Target}
use Rattle.lvm_path.specs.Targets.{is_begun, is_over}
use Rattle.lvm_session.specs.declared.open.Open.{Open}
use Rattle.lvm_session.specs.State.{Core}
use Rattle.lvm_session.specs.Judging.{is_waiting, place_of}
use Rattle.lvm_session.specs.Dark.{IsAscending, landings as all_landings}
use Rattle.lvm_session.specs.Requests.{IsPhase, IsShaped}
use Rattle.lvm_invariant.specs.State.{Queued, ModelState, has_landed}
use Rattle.lvm_invariant.specs.Over.{IsDistinct, AreOpen, is_going, landings}
use Rattle.lvm_tie.specs.Seen.{phase_seen, SeesRequest, IsRequestAt}

-- ---- their places

-- the places of those that haven't landed
abbrev pub places : List Open → List ℕ
places [] = []
places (o ∷ os) = if is_waiting o then place_of o.request.id ∷ places os else places os

-- one that waits has this place
pub record WaitsAt (os : List Open) (i : ℕ) : Type 0 where
  pub number : ℕ
  pub request : Open
  pub there : slice_get os number ≡ Some request
  pub waiting : is_waiting request ≡ true
  pub its : place_of request.request.id ≡ i

pub waits_at : (os : List Open) (i : ℕ) → IsInList i (places os) → WaitsAt os i
waits_at [] i h = absurd h
waits_at (o ∷ os) i h = by (is_waiting o) refl h (waits_at os i)
  where
    later : WaitsAt os i → WaitsAt (o ∷ os) i
    later r = record { number = suc r.number; request = r.request; there = r.there; waiting = r.waiting; its = r.its }

    by : (b : Bool) → is_waiting o ≡ b → IsInList i (if b then place_of o.request.id ∷ places os else places os) → (IsInList i (places os) → WaitsAt os i) → WaitsAt (o ∷ os) i
    by true is (inl here) rest = record { number = 0; request = o; there = refl; waiting = is; its = here }
    by true is (inr there) rest = later (rest there)
    by false is there rest = later (rest there)

pub stands_at : (os : List Open) (k : ℕ) (o : Open) → slice_get os k ≡ Some o → is_waiting o ≡ true → IsInList (place_of o.request.id) (places os)
stands_at [] k o there is = absurd (cc there)
stands_at (x ∷ os) zero o there is = by (is_waiting x) (ap is_waiting same ∙ is)
  where
    same : x ≡ o
    same = cc there

    by : (b : Bool) → b ≡ true → IsInList (place_of o.request.id) (if b then place_of x.request.id ∷ places os else places os)
    by true e = inl (ap (λ (y : Open). place_of y.request.id) same)
    by false e = absurd (cc e)
stands_at (x ∷ os) (suc k) o there is = by (is_waiting x) (stands_at os k o there is)
  where
    by : (b : Bool) → IsInList (place_of o.request.id) (places os) → IsInList (place_of o.request.id) (if b then place_of x.request.id ∷ places os else places os)
    by true rest = inr rest
    by false rest = rest

distinct : (os : List Open) → IsAscending os → IsDistinct (places os)
distinct [] rises = tt
distinct (o ∷ os) rises = by (is_waiting o) (distinct os rises.1)
  where
    apart : IsInList (place_of o.request.id) (places os) → ⊥
    apart again =
        let r = waits_at os (place_of o.request.id) again in
        let less = all_at (λ (later : Open). o.request.id < later.request.id) os r.number r.request rises.0 r.there in
        let e : 2 * r.request.request.id ≡ 2 * o.request.id = r.its in
        omega (arith, less, e)

    by : (b : Bool) → IsDistinct (places os) → IsDistinct (if b then place_of o.request.id ∷ places os else places os)
    by true rest = (apart, rest)
    by false rest = rest

pub places_append : (xs ys : List Open) → places (xs ++ ys) ≡ places xs ++ places ys
places_append [] ys = refl
places_append (o ∷ xs) ys = by (is_waiting o) (places_append xs ys)
  where
    by : (b : Bool) → places (xs ++ ys) ≡ places xs ++ places ys
        → (if b then place_of o.request.id ∷ places (xs ++ ys) else places (xs ++ ys)) ≡ (if b then place_of o.request.id ∷ places xs else places xs) ++ places ys
    by true rest = ap (λ (l : List ℕ). place_of o.request.id ∷ l) rest
    by false rest = rest

-- ---- their landings

-- the history and the targets say of it what the state says
pub record IsNamed (base : List Fact) (name : ℕ → Asked) (started : ℕ → Bool) (o : Open) : Type 0 where
  pub name_is : name (place_of o.request.id) ≡ request_of base o.request.id
  pub started_is : started (place_of o.request.id) ≡ is_begun o.request.targets.items

abbrev pub AreNamed : List Fact → (ℕ → Asked) → (ℕ → Bool) → List Open → Type 0
AreNamed base name started os = AllByRecursion (λ (o : Open). is_waiting o ≡ true → IsNamed base name started o) os

pub named_first : (base : List Fact) (name : ℕ → Asked) (started : ℕ → Bool) (xs ys : List Open) → AreNamed base name started (xs ++ ys) → AreNamed base name started xs
named_first base name started [] ys named = tt
named_first base name started (x ∷ xs) ys named = (named.0, named_first base name started xs ys named.1)

pub same_landings : (how : Outcome) → is_got how ≡ false → (base : List Fact) (name : ℕ → Asked) (started : ℕ → Bool) (os : List Open) → AreNamed base name started os
    → all_landings how base os ≡ landings how name started (places os)
same_landings how none base name started [] named = refl
same_landings how none base name started (o ∷ os) named = by (is_waiting o) refl (same_landings how none base name started os named.1)
  where
    gets : got_without_bytes (request_of base o.request.id) how ≡ []
    gets = ap (λ b. if b then blocks_begun_with (request_of base o.request.id) else []) none

    fact : IsNamed base name started o → landed_fact base o.request.id how (is_begun o.request.targets.items) ≡ HasLanded (name (place_of o.request.id)) how (started (place_of o.request.id)) []
    fact named = let a = sym named.name_is in let b = sym named.started_is in λ t. HasLanded (a t) how (b t) (gets t)

    by : (b : Bool) → is_waiting o ≡ b → all_landings how base os ≡ landings how name started (places os)
        → (if b then landed_fact base o.request.id how (is_begun o.request.targets.items) ∷ all_landings how base os else all_landings how base os)
        ≡ landings how name started (if b then place_of o.request.id ∷ places os else places os)
    by true is rest = let f = fact (named.0 is) in λ t. f t ∷ rest t
    by false is rest = rest

-- ---- what the state says of them

unlanded_seen : (p : Phase) (begun : Bool) (o : Open) → IsPhase p o → has_landed (phase_seen p begun) ≡ false
unlanded_seen phase.Held begun o its = refl
unlanded_seen phase.WantEntry begun o its = refl
unlanded_seen phase.WantRecord begun o its = refl
unlanded_seen phase.Data true o its = refl
unlanded_seen phase.Data false o its = refl
unlanded_seen phase.WantStatus begun o its = refl
unlanded_seen phase.Landed begun o its = absurd its

over_started : (state : TargetState) → is_over state ≡ true → not (is_unstarted state) ≡ true
over_started target.Waiting is = absurd (cc is)
over_started target.Flying is = absurd (cc is)
over_started target.Done is = refl
over_started target.Failed is = refl

some_started : (ts : List Target) (test : Target → Bool) → list_any test ts ≡ true → list_all (λ (t : Target). is_over t.state) ts ≡ true → is_begun ts ≡ true
some_started [] test some all = absurd (cc some)
some_started (t ∷ ts) test some all = by (is_over t.state) refl all
  where
    by : (b : Bool) → is_over t.state ≡ b → b && list_all (λ (u : Target). is_over u.state) ts ≡ true → is_begun (t ∷ ts) ≡ true
    by true is all = ap (λ c. c || is_begun ts) (over_started t.state is)
    by false is all = absurd (cc all)

going_seen : (p : Phase) (core : Core) (o : Open) → o.request.phase ≡ p → IsShaped core o → IsPhase p o → is_going (phase_seen p (is_begun o.request.targets.items)) ≡ is_begun o.request.targets.items
going_seen phase.Held core o is shape its = ap is_begun (sym its.0)
going_seen phase.WantEntry core o is shape its = sym its.0
going_seen phase.WantRecord core o is shape its = sym its.0
going_seen phase.Data core o is shape its = by (is_begun o.request.targets.items)
  where
    by : (b : Bool) → is_going (phase_seen phase.Data b) ≡ b
    by true = refl
    by false = refl
going_seen phase.WantStatus core o is shape its = sym (some_started o.request.targets.items (λ (t : Target). t.usable) (shape.usable (ap Rattle.lvm_session.specs.Requests.is_past_held is)) its.1)
going_seen phase.Landed core o is shape its = absurd its

-- a state whose requests are those of the table
module _ (core : Core) (w : ModelState) (rises : IsAscending core.requests)
    (sees : (k : ℕ) (o : Open) → slice_get core.requests k ≡ Some o → (q : Queued) × (w.queue (place_of o.request.id) ≡ Some q) × SeesRequest o q)
    (only : (i : ℕ) (q : Queued) → w.queue i ≡ Some q → IsFalse q.step → IsRequestAt core i)
    (shaped : (k : ℕ) (o : Open) → slice_get core.requests k ≡ Some o → is_waiting o ≡ true → IsShaped core o)
    (over : (k : ℕ) (o : Open) → slice_get core.requests k ≡ Some o → is_waiting o ≡ false → o.request.phase ≡ phase.Landed) where
  -- a request has started whose row says so
  abbrev pub started : ℕ → Bool
  started i = option_map_or (λ (q : Queued). is_going q.phase) (w.queue i) false

  same_row : (a b : Queued) → Some a ≡ Some b → a ≡ b
  same_row a b e = cc

  pub unlanded_one : (k : ℕ) (o : Open) (there : slice_get core.requests k ≡ Some o) → is_waiting o ≡ true → has_landed (sees k o there).0.phase ≡ false
  unlanded_one k o there waits = let s = sees k o there in ap has_landed s.2.phase ∙ unlanded_seen o.request.phase (is_begun o.request.targets.items) o (shaped k o there waits).phase_is

  pub started_one : (k : ℕ) (o : Open) → slice_get core.requests k ≡ Some o → is_waiting o ≡ true → started (place_of o.request.id) ≡ is_begun o.request.targets.items
  started_one k o there waits =
      let s = sees k o there in
      let shape = shaped k o there waits in
      ap (λ (m : Option Queued). option_map_or (λ (q : Queued). is_going q.phase) m false) s.1 ∙ ap is_going s.2.phase ∙ going_seen o.request.phase core o refl shape shape.phase_is

  all_open : (i : ℕ) (r : Queued) → w.queue i ≡ Some r → IsFalse r.step → IsFalse (has_landed r.phase) → IsInList i (places core.requests)
  all_open i r there request unlanded = by (is_waiting at.request) refl
    where
      at : IsRequestAt core i
      at = only i r there request

      by : (b : Bool) → is_waiting at.request ≡ b → IsInList i (places core.requests)
      by true waits = subst (λ k. IsInList k (places core.requests)) at.its (stands_at core.requests at.place at.request at.there waits)
      by false landed =
          let s = sees at.place at.request at.there in
          let same : s.0 ≡ r = same_row s.0 r (sym s.1 ∙ ap w.queue at.its ∙ there) in
          let has : has_landed r.phase ≡ true = ap (λ (q : Queued). has_landed q.phase) (sym same) ∙ ap has_landed s.2.phase
          ∙ ap (λ (p : Phase). has_landed (phase_seen p (is_begun at.request.request.targets.items))) (over at.place at.request at.there landed) in
          absurd (let e : ◌≡◌ {A = Bool} true false = sym has ∙ unlanded in cc)

  pub are_open : AreOpen w (places core.requests) started
  are_open = record {
    once = distinct core.requests rises;
    each = λ i h. let r = waits_at core.requests i h in let s = sees r.number r.request r.there in
        record { req = s.0; there = ap w.queue (sym r.its) ∙ s.1; request = s.2.step; unlanded = unlanded_one r.number r.request r.there r.waiting };
    all = all_open;
    begun_data = λ i r there write. ap (λ (m : Option Queued). option_map_or (λ (q : Queued). is_going q.phase) m false) there;
  }

  named_from : (base : List Fact) → ((k : ℕ) (o : Open) → slice_get core.requests k ≡ Some o → w.name (place_of o.request.id) ≡ request_of base o.request.id)
      → (os : List Open) → ((k : ℕ) (o : Open) → slice_get os k ≡ Some o → (j : ℕ) × (slice_get core.requests j ≡ Some o)) → AreNamed base w.name started os
  named_from base names [] at = tt
  named_from base names (o ∷ os) at = (
    λ waits. let j = at 0 o refl in record { name_is = names j.0 o j.1; started_is = started_one j.0 o j.1 waits },
    named_from base names os (λ k x there. at (suc k) x there),
  )

  pub are_named : (base : List Fact) → ((k : ℕ) (o : Open) → slice_get core.requests k ≡ Some o → w.name (place_of o.request.id) ≡ request_of base o.request.id) → AreNamed base w.name started core.requests
  are_named base names = named_from base names core.requests (λ k o there. (k, there))
