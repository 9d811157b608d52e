-- While one request lands, all others wait.
use Rattle.std.proofs.Common.{◌≡◌, ◌≤◌, ◌<◌, ◌+◌, ◌-◌, ◌==◌, ◌&&◌, ◌||◌, ◌++◌, ℕ, zero, suc, Bool, true, false, cond, not, List, [], ◌∷◌, length, Option, Some, None, slice_get, refl, sym, ap, ◌∙◌, subst, arith}
use Rattle.std.specs.Prelude.{MatchOption, is_none, nat_lt, position, unwrap_or}
use Rattle.std.specs.List.{AllByRecursion, find, list_any, position_or_len}
use Rattle.std.specs.Option.{option_map_or}
use Rattle.std.proofs.lemmas.Bool.{and_left, and_parts, and_right, eqb-false, eqb-true, lt-ltb, ltb-true, ne_eqb}
use Rattle.std.proofs.lemmas.Option.{cond_some, same_Some}
use Rattle.lvm_num.proofs.Lists.{all_at}
use Rattle.lvm_vol.specs.declared.entry.Entry.{Entry}
use Rattle.lvm_vol.specs.declared.entry.Entry.TheVariants as entry
use Rattle.lvm_vol.specs.declared.entry.Outcome.{Outcome}
use Rattle.lvm_vol.specs.Facts.{Fact, Landed, Request, begun}
use Rattle.lvm_vol.specs.Log.{entries_from, entries_of, has_id, no_request, place_after, request_of}
use Rattle.lvm_path.specs.Asks.{count_of}
use Rattle.lvm_path.specs.Targets.{is_begun}
use Rattle.lvm_session.specs.declared.answers.Taken.TheVariants as taken
use Rattle.lvm_session.specs.declared.answers.Turned.{Turned}
use Rattle.lvm_session.specs.declared.open.Open.{Open}
use Rattle.lvm_session.specs.Calls.{TakeAt, TakeGives, TakesLanded, is_asked}
use Rattle.lvm_session.specs.Dark.{IsAscending}
use Rattle.lvm_session.specs.Events.{Lands, got_blocks, landed_as}
use Rattle.lvm_session.specs.Judging.{is_waiting}
use Rattle.lvm_session.specs.Sound.{IsAsked, IsSound}
use Rattle.lvm_session.specs.State.{Core, State}
use Rattle.lvm_session.specs.Turns.{TurnMakes}
use Rattle.lvm_keeps.proofs.Lists.{any_set}
use Rattle.lvm_keeps_events.specs.Turning.{is_last}
use Rattle.lvm_load.specs.declared.client.Client.{Client}
use Rattle.lvm_load.specs.Waiting.{AreWaiting, AreWaitingBut, OthersWait, landed_by, waits_for}
use Rattle.lvm_load.specs.Weaving.{NextClient, NoneOpen, TakesEach, TakesFor, Waits, open_of}
use Rattle.lvm_load.proofs.WaitingLemmas.Waiting.{Goes, LeftBy, One, Still, left_by, turn_goes}

-- ---- a request that waits isn't answered yet

-- the first request that a client has asked for under a number, which waits
record IsFirst (client id : ℕ) (os : List Open) : Type 0 where
  pub place : ℕ
  pub one : Open
  pub at : position (is_asked client id) os ≡ Some place
  pub there : slice_get os place ≡ Some one
  pub waits : is_waiting one ≡ true

another : (client id : ℕ) (o : Open) → (o.request.id == id) ≡ false → waits_for client id o ≡ false
another client id o other = and_left (is_asked client id o) (is_waiting o) (and_right (o.request.client == client) (o.request.id == id) other)

none_behind : (client id : ℕ) (os : List Open) → AllByRecursion (λ (later : Open). id < later.request.id) os → list_any (waits_for client id) os ≡ false
none_behind client id [] all = refl
none_behind client id (o ∷ os) all =
    let other : waits_for client id o ≡ false = another client id o (ne_eqb o.request.id id (λ e. absurd (omega (arith, all.0, e)))) in
    ap (λ b. b || list_any (waits_for client id) os) other ∙ none_behind client id os all.1

position_here : (p : Open → Bool) (o : Open) (os : List Open) → p o ≡ true → position p (o ∷ os) ≡ Some 0
position_here p o os is =
    let first : position_or_len p (o ∷ os) ≡ 0 = rw is refl in
    ap (λ (n : ℕ). cond (nat_lt n (suc (length os))) (Some n) None) first ∙ ap (λ (b : Bool). cond b (Some 0) None) (lt-ltb 0 (suc (length os)) (omega arith))

position_past : (p : Open → Bool) (o : Open) (os : List Open) (k : ℕ) → p o ≡ false → position p os ≡ Some k → position p (o ∷ os) ≡ Some (suc k)
position_past p o os k other at =
    let m = position_or_len p os in
    let first : position_or_len p (o ∷ os) ≡ 1 + m = rw other refl in
    let parts = cond_some (nat_lt m (length os)) m k at in
    let within : m < length os = ltb-true m (length os) parts.0 in
    let next : 1 + m ≡ suc k = omega (arith, parts.1) in
    ap (λ (n : ℕ). cond (nat_lt n (suc (length os))) (Some n) None) first ∙ ap (λ (b : Bool). cond b (Some (1 + m)) None) (lt-ltb (1 + m) (suc (length os)) (omega arith)) ∙ ap Some next

-- numbers rise, so it is the only one of its number
first_waits : (client id : ℕ) (os : List Open) → IsAscending os → list_any (waits_for client id) os ≡ true → IsFirst client id os
first_waits client id [] order any = absurd (cc any)
first_waits client id (o ∷ os) order any = by (is_asked client id o) refl (λ more. first_waits client id os order.1 more)
  where
    own : (w : Bool) → (w || list_any (waits_for client id) os) ≡ true → list_any (waits_for client id) os ≡ false → w ≡ true
    own true so none = refl
    own false so none = sym none ∙ so

    by : (b : Bool) → is_asked client id o ≡ b → (list_any (waits_for client id) os ≡ true → IsFirst client id os) → IsFirst client id (o ∷ os)
    by true asks next =
        let number : o.request.id ≡ id = eqb-true o.request.id id (and_parts (o.request.client == client) (o.request.id == id) asks).1 in
        let none = none_behind client id os (subst (λ n. AllByRecursion (λ (later : Open). n < later.request.id) os) number order.0) in
        record {
          place = 0;
          one = o;
          at = position_here (is_asked client id) o os asks;
          there = refl;
          waits = own (is_waiting o) (ap (λ b. (b && is_waiting o) || list_any (waits_for client id) os) (sym asks) ∙ any) none;
        }
    by false not next =
        let rest = next (ap (λ b. (b && is_waiting o) || list_any (waits_for client id) os) (sym not) ∙ any) in
        record { place = suc rest.place; one = rest.one; at = position_past (is_asked client id) o os rest.place not rest.at; there = rest.there; waits = rest.waits }

none_landed : (l : Option Outcome) → is_none l ≡ true → l ≡ None
none_landed None is = refl
none_landed (Some how) is = absurd (cc is)

not_yet : (core : Core) (client id : ℕ) → IsAscending core.requests → list_any (waits_for client id) core.requests ≡ true → TakeGives core core client id taken.NotYet
not_yet core client id order any =
    let first = first_waits client id core.requests order any in
    let lands_not = subst (λ (l : Option Outcome). TakesLanded core core first.place first.one taken.NotYet l) (sym (none_landed first.one.landed first.waits)) (refl, refl) in
    subst (λ (m : Option ℕ). MatchOption m ((taken.NotYet ≡ taken.Unknown) × (core ≡ core)) (λ (place : ℕ). TakeAt core core place taken.NotYet)) (sym first.at) (first.one, first.there, lands_not)

-- a client has another request open, or none
pub not_its : (o : Option ℕ) (id : ℕ) → option_map_or (λ (n : ℕ). n == id) o false ≡ false → o ≡ Some id → ⊥
not_its None id is at = cc
not_its (Some n) id is at = eqb-false n id is (same_Some n id at)

-- so its answer isn't taken
pub still_waits : (k id : ℕ) (s : State) (clients : List Client) → IsSound s → AreWaitingBut id s.core clients → (open_of clients k ≡ Some id → ⊥) → TakesFor k s s clients clients
still_waits k id s clients sound waiting not = by (open_of clients k) refl
  where
    by : (o : Option ℕ) → open_of clients k ≡ o → TakesFor k s s clients clients
    by None is = NoneOpen is refl refl
    by (Some other) is =
        let waits = waiting k other is (λ same. not (is ∙ ap (λ (n : ℕ). Some n) same)) in
        Waits other is (not_yet s.core (k + 1) other sound.told.table.ascending waits) refl refl

-- so is none of those from one on, up to another
pub others_on : (clients : List Client) (from k id : ℕ) → ((j : ℕ) → from ≤ j → j < k → open_of clients j ≡ Some id → ⊥) → (open_of clients k ≡ Some id → ⊥)
    → (j : ℕ) → from ≤ j → j < k + 1 → open_of clients j ≡ Some id → ⊥
others_on clients from k id before not j low high has = by (k == j) refl
  where
    by : (b : Bool) → (k == j) ≡ b → ⊥
    by true is = not (ap (open_of clients) (eqb-true k j is) ∙ has)
    by false is = before j low (let apart = eqb-false k j is in omega (arith, high, apart)) has

module _ (first s : State) (clients now : List Client) (id : ℕ) (sound : IsSound s) (waiting : AreWaitingBut id s.core now) where
  so_many : (n from : ℕ) → ((k : ℕ) → from ≤ k → k < from + n → open_of now k ≡ Some id → ⊥) → TakesEach first clients from s now → TakesEach first clients (from + n) s now
  so_many zero from others each = let same : from ≡ from + 0 = omega arith in subst (λ (m : ℕ). TakesEach first clients m s now) same each
  so_many (suc n) from others each =
      let one : TakesEach first clients (from + 1) s now = NextClient each (still_waits from id s now sound waiting (others from (omega arith) (omega arith))) in
      let same : from + 1 + n ≡ from + suc n = omega arith in
      subst (λ (m : ℕ). TakesEach first clients m s now) same (so_many n (from + 1) (λ k low high. others k (omega (arith, low)) (omega (arith, high))) one)

  -- those between wait
  pub all_wait : (from to : ℕ) → from ≤ to → ((k : ℕ) → from ≤ k → k < to → open_of now k ≡ Some id → ⊥) → TakesEach first clients from s now → TakesEach first clients to s now
  all_wait from to le others each =
      let same : from + (to - from) ≡ to = omega (arith, le) in
      subst (λ (m : ℕ). TakesEach first clients m s now) same (so_many (to - from) from (λ k low high. others k low (omega (arith, high, le))) each)

-- all others wait when it is
pub others_left : (k id : ℕ) (old new : State) (clients after : List Client) → AreWaitingBut id old.core clients → TakesFor k old new clients after → AreWaitingBut id new.core after
others_left k id old new clients after waiting takes j other has differs = by (j == k) refl
  where
    left : LeftBy k old new clients after
    left = left_by k old new clients after takes

    by : (b : Bool) → (j == k) ≡ b → list_any (waits_for (j + 1) other) new.core.requests ≡ true
    by true is =
        let same : k ≡ j = sym (eqb-true j k is) in
        subst (λ n. open_of after n ≡ Some other → list_any (waits_for (n + 1) other) new.core.requests ≡ true) same (left.own other) has
    by false is =
        let beside : j ≡ k → ⊥ = eqb-false j k is in
        left.waiting j other beside ∙ waiting j other (sym (left.others j beside) ∙ has) differs

-- ---- a turn

-- the entry of a landing stands behind those that there were
entry_behind : (place : ℕ) (facts : List Fact) (r : Request) (how : Outcome) (started : Bool) (got : List (List ℕ)) → slice_get (entries_from place (facts ++ Landed r how started got ∷ [])) (length facts) ≡ Some (entry.Landed r.id how started)
entry_behind place [] r how started got = refl
entry_behind place (f ∷ facts) r how started got = entry_behind (place_after place f) facts r how started got

passes : (id : ℕ) (rs : List Request) (r : Request) → find (has_id id) rs ≡ Some r → has_id id r ≡ true
passes id [] r is = absurd (cc is)
passes id (q ∷ rs) r is = by_test (has_id id q) refl is (λ found. passes id rs r found)
  where
    by_test : (b : Bool) → has_id id q ≡ b → cond b (Some q) (find (has_id id) rs) ≡ Some r → (find (has_id id) rs ≡ Some r → has_id id r ≡ true) → has_id id r ≡ true
    by_test true own so next = subst (λ (p : Request). has_id id p ≡ true) (same_Some q r so) own
    by_test false own so next = next so

-- the history's request of a number has it
own_number : (facts : List Fact) (o : Open) → IsAsked facts o → (request_of facts o.request.id).id ≡ o.request.id
own_number facts o it = ap (λ (a : Option Request). (unwrap_or a no_request).id) it.told ∙ eqb-true it.request.id o.request.id (passes o.request.id (begun facts) it.request it.told)

module _ (old new : State) (clients : List Client) (sound : IsSound old) (waiting : AreWaiting old.core clients) (place : ℕ) (how : Outcome) (lands : Lands old new place how) where
  abbrev o : Open
  o = lands.request

  abbrev facts : List Fact
  facts = old.core.history.facts

  abbrev fact : Entry
  fact = entry.Landed (request_of facts o.request.id).id how (is_begun o.request.targets.items)

  told : slice_get (entries_of new.core.history.facts) (length facts) ≡ Some fact
  told = ap (λ (s : State). slice_get (entries_of s.core.history.facts) (length facts)) lands.is ∙ entry_behind 0 facts (request_of facts o.request.id) how (is_begun o.request.targets.items) (got_blocks (count_of o.request.ask) o.got)

  number : (e : Entry) (id : ℕ) → slice_get (entries_of new.core.history.facts) (length facts) ≡ Some e → landed_by e ≡ Some id → o.request.id ≡ id
  number e id at its =
      let same : e ≡ fact = same_Some e fact (sym at ∙ told) in
      let own : (request_of facts o.request.id).id ≡ id = same_Some (request_of facts o.request.id).id id (sym (ap landed_by same) ∙ its) in
      sym (own_number facts o (all_at (IsAsked facts) old.core.requests place o sound.told.requests lands.there)) ∙ own

  same_test : (id client other : ℕ) → o.request.id ≡ id → (other ≡ id → ⊥) → (b : Bool) → (o.request.id == other) ≡ b → waits_for client other (landed_as how o) ≡ waits_for client other o
  same_test id client other is differs true at = absurd (differs (sym (eqb-true o.request.id other at) ∙ is))
  same_test id client other is differs false at = another client other (landed_as how o) at ∙ sym (another client other o at)

  others_of_landed : OthersWait (length facts) new.core clients
  others_of_landed e id at its k other has differs =
      ap (λ (s : State). list_any (waits_for (k + 1) other) s.core.requests) lands.is
      ∙ any_set (waits_for (k + 1) other) old.core.requests place o (landed_as how o) lands.there (same_test id (k + 1) other (number e id at its) differs (o.request.id == other) refl) ∙ waiting k other has

-- where the session goes on, all wait but the one that has landed in a turn
pub others_wait : (old new : State) (clients : List Client) → IsSound old → AreWaiting old.core clients → (answer : Turned) → TurnMakes old new answer → is_last answer ≡ false → OthersWait (length old.core.history.facts) new.core clients
others_wait old new clients sound waiting answer made goes = by (turn_goes old new answer made goes)
  where
    by : Goes old new → OthersWait (length old.core.history.facts) new.core clients
    by (Still same) e id at its k other has differs = same (k + 1) other ∙ waiting k other has
    by (One place how lands) e id at its k other has differs = others_of_landed old new clients sound waiting place how lands e id at its k other has differs
