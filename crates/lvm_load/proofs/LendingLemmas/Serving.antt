-- A session that is lent goes on serving, whatever one client asks of it.
use Rattle.std.proofs.Common.{◌≡◌, ◌≤◌, ◌⊎◌, inl, inr, ◌*◌, ◌&&◌, ◌||◌, ◌==◌, ℕ, zero, suc, Bool, true, false, cond, List, [], ◌∷◌, ◌++◌, Option, Some, None, refl, sym, ap, ◌∙◌, subst, append_assoc, eq-eqb, ne_eqb}
use Rattle.std.specs.Prelude.{Result, Ok, Err, MatchOption, is_none, is_some, position, slice_get, unwrap_or}
use Rattle.std.specs.List.{find, list_any, remove}
use Rattle.lvm_disk.specs.Counts.{Rose}
use Rattle.lvm_num.proofs.Booleans.{not_so}
use Rattle.std.proofs.lemmas.List.{append-nil}
use Rattle.std.proofs.lemmas.List.Folds.{list_any-append}
use Rattle.std.proofs.lemmas.Bool.{eqb-true, or_right}
use mathlib.Core.Logic.{dite}
use native.Mathlib.Decide.{ℕ_discrete}
use Rattle.lvm_num.specs.Buffer.{Sector}
use Rattle.lvm_num.proofs.Lists.{all_at}
use Rattle.lvm_vol.specs.declared.entry.Outcome.{Outcome}
use Rattle.lvm_vol.specs.declared.entry.Vol.TheVariants.{Lv}
use Rattle.lvm_vol.specs.Facts.{Request, Fact, Making, Made, Split, Removing, Removed, Begun, Landed, Taken, Cut, On, begun}
use Rattle.lvm_vol.specs.Fronts.{own}
use Rattle.lvm_vol.specs.Log.{asked as asked_in, blocks_begun, blocks_given, has_id, next_id, next_request, no_request, request_of}
use Rattle.lvm_vol.proofs.FrontsLemmas.{own-append}
use Rattle.lvm_path.specs.declared.ask.Ask.{Ask}
use Rattle.lvm_path.specs.Asks.{at_of, count_of, lv_of}
use Rattle.lvm_session.specs.declared.answers.AskFault.{AskFault}
use Rattle.lvm_session.specs.declared.answers.Taken.{Taken as Answer}
use Rattle.lvm_session.specs.declared.answers.Taken.TheVariants as answer
use Rattle.lvm_session.specs.declared.answers.Turned.{Turned}
use Rattle.lvm_session.specs.declared.answers.Turned.TheVariants as turned
use Rattle.lvm_session.specs.declared.open.Open.{Open}
use Rattle.lvm_session.specs.Calls.{SubmitGives, TakeAt, TakeGives, TakesLanded, ask_fault, is_asked, new_open, submitted}
use Rattle.lvm_session.specs.Judging.{is_waiting}
use Rattle.lvm_session.specs.Sound.{IsAsked, IsSound}
use Rattle.lvm_session.specs.State.{Core, State}
use Rattle.lvm_session.specs.Turns.{Finds, FindsNothing, TurnMakes}
use Rattle.lvm_keeps_events.specs.Telling.{CannotGoOn, TurnTells}
use Rattle.lvm_keeps.proofs.Lists.{any_removed}
use Rattle.lvm_keeps.proofs.Small.{both}
use Rattle.lvm_keeps_events.proofs.TurnCallsLemmas.{some_position, turn_leaves_table}
use Rattle.lvm_driver.specs.passed.Going.{RunsOn, is_moving}
use Rattle.lvm_driver.proofs.StandingLemmas.{none_waits_still}
use Rattle.lvm_driver.proofs.passed.Going.{path_shape}
use Rattle.lvm_workers.specs.Counting.{AreOfClients}
use Rattle.lvm_load.specs.Lending.{ByLook, ByTake, HoldsOpen, IsDrawnAs, IsNotTaken, IsServing, KeepsServing, LooksOn, Plan, drawn_ask, drawn_bytes, refused_as, seen_behind, shaped, told_in}
use Rattle.lvm_load.specs.Requests.{ask_of, bytes_of, word_of}
use Rattle.lvm_load.specs.Waits.{waits_in}
use Rattle.lvm_load.proofs.LendingLemmas.Keeping.{keeps_both, keeps_runs, same_run, unstuck_still}
use Rattle.lvm_load.proofs.LendingLemmas.Telling.{counts_rise, fixed_stays}
use Rattle.lvm_workers.specs.declared.service.Asked.{Asked}
use Rattle.lvm_workers.specs.declared.service.Asked.TheVariants as asked
use Rattle.lvm_workers.specs.declared.service.Seen.{Seen}
use Rattle.lvm_workers.specs.declared.service.Seen.TheVariants as seen
use Rattle.lvm_workers.specs.declared.words.Draw.{Draw}
use Rattle.lvm_workers.specs.Serving.{AskGives, Awaits, Grows, HasBegun, IsNotYet, IsTaken, LookGives, WasRefused}
use Rattle.lvm_load.proofs.WaitingLemmas.Waiting.{found, never_yet}
use Rattle.lvm_load.proofs.LendingLemmas.Owning.{AddsNone, none_same, of_both, others_begun, others_taken, own_begun, own_taken, turn_adds}

-- ---- the last entry

abbrev last_of : Fact → List Fact → Fact
last_of d [] = d
last_of d (f ∷ fs) = last_of f fs

last_is : (d f : Fact) (fs : List Fact) → last_of d (fs ++ f ∷ []) ≡ f
last_is d f [] = refl
last_is d f (g ∷ fs) = last_is g f fs

same_last : (xs ys : List Fact) (x y : Fact) → xs ++ x ∷ [] ≡ ys ++ y ∷ [] → x ≡ y
same_last xs ys x y same = sym (last_is Cut x xs) ∙ ap (last_of Cut) same ∙ last_is Cut y ys

abbrev begun_in : Fact → Request → Request
begun_in (Begun r) d = r
begun_in (Making lv blocks m) d = d
begun_in (Made lv) d = d
begun_in (Split from lv) d = d
begun_in (Removing vol) d = d
begun_in (Removed vol) d = d
begun_in (Landed r how started got) d = d
begun_in (Taken r) d = d
begun_in Cut d = d
begun_in (On moment) d = d

same_request : (r s : Request) → Begun r ≡ Begun s → r ≡ s
same_request r s same = ap (λ f. begun_in f r) same

-- ---- what was added

-- what a call adds: nothing of another client's own, and no request but of the clients
pub record Adds (n client : ℕ) (old new : List Fact) : Type 0 where
  pub more : List Fact
  pub is : new ≡ old ++ more
  pub others : (c : ℕ) → (c ≡ client → ⊥) → own c more ≡ []
  pub clients : AreOfClients n more

pub adds_none : (n client : ℕ) (old new : List Fact) → AddsNone old new → Adds n client old new
adds_none n client old new adds = record { more = adds.more; is = adds.is; others = λ c apart. adds.nobodys c; clients = adds.clients n }

module _ (plan : Plan) (client : ℕ) (old new : State) (was : IsServing plan old) where
  -- the session serves on
  pub serves_on : IsSound new → KeepsServing plan.sync old new → Adds plan.clients client old.core.history.facts new.core.history.facts → HoldsOpen new.core → IsServing plan new
  serves_on sound keeps adds holds = record {
    sound = sound;
    keeps = keeps_both plan.sync plan.first old new was.keeps keeps;
    unstuck = unstuck_still old new keeps.leaves was.unstuck;
    unmoved = (path_shape keeps.leaves).moves was.unmoved;
    since = was.since ++ adds.more;
    is = adds.is ∙ ap (λ (l : List Fact). l ++ adds.more) was.is ∙ append_assoc plan.first.core.history.facts was.since adds.more;
    clients = of_both plan.clients was.since adds.more was.clients adds.clients;
    holds = holds;
  }

-- ---- what is given to a worker

module _ {V : Type 0} (plan : Plan) (s_of : V → State) (always : V → Type 0) (past : V → Option (List (List Sector))) (pasts : (x y : V) → past x ≡ past y) (x y : V) where
  -- a value whose session has run on, and which always holds
  pub grows : (more : List Fact) → (s_of y).core.history.facts ≡ (s_of x).core.history.facts ++ more → KeepsServing plan.sync (s_of x) (s_of y) → always y → Grows (λ v. told_in (s_of v)) past always x more y
  grows more is keeps holds = record {
    entries_are = is;
    fixed_same = λ i. record { numbers = fixed_stays (s_of x) (s_of y) (path_shape keeps.leaves) keeps.orders i; past = pasts y x i };
    none_fell = counts_rise (s_of x) (s_of y) (path_shape keeps.leaves);
    always_holds = holds;
  }

-- ---- a turn

pub turn_holds : (old new : State) (said : Turned) → TurnMakes old new said → HoldsOpen old.core → HoldsOpen new.core
turn_holds old new said made holds c before r ends =
    let adds = turn_adds old new said made in
    let same : own c new.core.history.facts ≡ own c old.core.history.facts =
    ap (own c) adds.is ∙ own-append c old.core.history.facts adds.more ∙ ap (λ (l : List Fact). own c old.core.history.facts ++ l) (adds.nobodys c) ∙ append-nil (own c old.core.history.facts) in
    (turn_leaves_table old new said made).asked c r.id ∙ holds c before r (sym same ∙ ends)

-- ---- a request that is submitted

module _ (old : Core) (client : ℕ) (ask : Ask) (bytes : Option (List ℕ)) where
  abbrev pub its_request : Request
  its_request = next_request old.history client (Lv (lv_of ask)) (at_of ask) (count_of ask) bytes

  submit_adds : (n : ℕ) → 1 ≤ client → client ≤ n → Adds n client old.history.facts (submitted old client ask bytes).history.facts
  submit_adds n some few = record {
    more = Begun its_request ∷ [];
    is = refl;
    others = λ c apart. others_begun c its_request (λ same. apart (sym same));
    clients = ((some, few), tt);
  }

  submit_holds : HoldsOpen old → HoldsOpen (submitted old client ask bytes)
  submit_holds holds c before r ends = dite (ℕ_discrete client c)
      (λ (same : client ≡ c).
      let grown : own c old.history.facts ++ Begun its_request ∷ [] ≡ before ++ Begun r ∷ [] =
      ap (λ (l : List Fact). own c old.history.facts ++ l) (sym (own_begun c its_request same)) ∙ sym (own-append c old.history.facts (Begun its_request ∷ [])) ∙ ends in
      let is : its_request ≡ r = same_request its_request r (same_last (own c old.history.facts) before (Begun its_request) (Begun r) grown) in
      let number : next_id old.history ≡ r.id = ap (λ (q : Request). q.id) is in
      let there : is_asked c r.id (new_open (next_id old.history) client ask (blocks_begun old.history.facts)) ≡ true = (λ i. eq-eqb client c same i && eq-eqb (next_id old.history) r.id number i) in
      list_any-append (is_asked c r.id) old.requests _ ∙ or_right (list_any (is_asked c r.id) old.requests) _ (ap (λ b. b || false) there))
      (λ apart.
      let grown : own c old.history.facts ≡ before ++ Begun r ∷ [] =
      sym (append-nil (own c old.history.facts)) ∙ ap (λ (l : List Fact). own c old.history.facts ++ l) (sym (others_begun c its_request apart)) ∙ sym (own-append c old.history.facts (Begun its_request ∷ [])) ∙ ends in
      list_any-append (is_asked c r.id) old.requests _ ∙ ap (λ b. b || list_any (is_asked c r.id) (new_open (next_id old.history) client ask (blocks_begun old.history.facts) ∷ [])) (holds c before r grown))

-- what is submitted, or isn't
pub data Submits (n client : ℕ) (old new : Core) (ask : Ask) (bytes : Option (List ℕ)) (said : Result ℕ AskFault) : Type 0 where
  Took : said ≡ Ok (next_id old.history) → new ≡ submitted old client ask bytes → Submits n client old new ask bytes said
  TookNot : (why : AskFault) → ask_fault old ask ≡ Some why → said ≡ Err why → new ≡ old → Submits n client old new ask bytes said

pub submits : (n client : ℕ) (old new : Core) (ask : Ask) (bytes : Option (List ℕ)) (said : Result ℕ AskFault) → SubmitGives old new client ask bytes said → Submits n client old new ask bytes said
submits n client old new ask bytes said gives = by (ask_fault old ask) refl gives
  where
    by : (m : Option AskFault) → ask_fault old ask ≡ m → MatchOption m ((said ≡ Ok (next_id old.history)) × (new ≡ submitted old client ask bytes)) (λ (why : AskFault). (said ≡ Err why) × (new ≡ old)) → Submits n client old new ask bytes said
    by None is took = Took took.0 took.1
    by (Some why) is not = TookNot why is not.0 not.1

-- ---- an answer that is taken

-- the request in the table by which an answer is taken, and as the history tells of it
pub record Answers (client id : ℕ) (old new : Core) (said : Answer) : Type 0 where
  pub request : Request
  pub client_is : request.client ≡ client
  pub number : request.id ≡ id
  pub facts : new.history.facts ≡ old.history.facts ++ Taken request ∷ []
  pub holds : HoldsOpen old → HoldsOpen new

pub data Takes (client id : ℕ) (old new : Core) (said : Answer) : Type 0 where
  TakesOne : (said ≡ answer.NotYet → ⊥) → Answers client id old new said → Takes client id old new said
  TakesNone : said ≡ answer.NotYet → new ≡ old → list_any is_waiting old.requests ≡ true → Takes client id old new said

any_there : {X : Type 0} (t : X → Bool) (xs : List X) (k : ℕ) (x : X) → slice_get xs k ≡ Some x → t x ≡ true → list_any t xs ≡ true
any_there t [] k x there so = absurd (cc there)
any_there t (y ∷ xs) zero x there so = let e : y ≡ x = cc there in ap (λ b. b || list_any t xs) (ap t e ∙ so)
any_there t (y ∷ xs) (suc k) x there so = or_right (t y) (list_any t xs) (any_there t xs k x there so)

find_has : (id : ℕ) (r : Request) (rs : List Request) → find (has_id id) rs ≡ Some r → r.id ≡ id
find_has id r [] none = absurd (cc none)
find_has id r (q ∷ rs) some = by (has_id id q) refl (find_has id r rs) some
  where
    by : (b : Bool) → has_id id q ≡ b → (find (has_id id) rs ≡ Some r → r.id ≡ id) → cond b (Some q) (find (has_id id) rs) ≡ Some r → r.id ≡ id
    by true its rest same = let e : q ≡ r = cc same in sym (ap (λ (x : Request). x.id) e) ∙ eqb-true q.id id its
    by false its rest none = rest none

asked_number : (facts : List Fact) (id : ℕ) (r : Request) → asked_in facts id ≡ Some r → r.id ≡ id
asked_number facts id r is = find_has id r (begun facts) is

take_holds : (old new : Core) (client place : ℕ) (o : Open) (t : Request) → slice_get old.requests place ≡ Some o → o.request.client ≡ client → t.client ≡ client → new.requests ≡ remove old.requests place
    → new.history.facts ≡ old.history.facts ++ Taken t ∷ [] → HoldsOpen old → HoldsOpen new
take_holds old new client place o t its is_its mine left grew holds c before r ends = dite (ℕ_discrete client c)
    (λ (same : client ≡ c).
    let grown : own c old.history.facts ++ Taken t ∷ [] ≡ before ++ Begun r ∷ [] =
    ap (λ (l : List Fact). own c old.history.facts ++ l) (sym (own_taken c t (mine ∙ same))) ∙ sym (own-append c old.history.facts (Taken t ∷ [])) ∙ sym (ap (own c) grew) ∙ ends in
    absurd (let e : Taken t ≡ Begun r = same_last (own c old.history.facts) before (Taken t) (Begun r) grown in cc e))
    (λ apart.
    let grown : own c old.history.facts ≡ before ++ Begun r ∷ [] =
    sym (append-nil (own c old.history.facts)) ∙ ap (λ (l : List Fact). own c old.history.facts ++ l) (sym (others_taken c t (λ same. apart (sym mine ∙ same)))) ∙ sym (own-append c old.history.facts (Taken t ∷ [])) ∙ sym (ap (own c) grew) ∙ ends in
    let not_its : is_asked c r.id o ≡ false = ap (λ b. b && (o.request.id == r.id)) (ne_eqb o.request.client c (λ same. apart (sym is_its ∙ same))) in
    ap (list_any (is_asked c r.id)) left ∙ any_removed (is_asked c r.id) old.requests place o its not_its ∙ holds c before r grown)

module _ (s : State) (sound : IsSound s) (new : Core) (client id : ℕ) (said : Answer) (there : list_any (is_asked client id) s.core.requests ≡ true) where
  pub takes : TakeGives s.core new client id said → Takes client id s.core new said
  takes gives = by (position (is_asked client id) s.core.requests) refl gives
    where
      landed : (place : ℕ) (o : Open) → position (is_asked client id) s.core.requests ≡ Some place → slice_get s.core.requests place ≡ Some o → (l : Option Outcome) → o.landed ≡ l → TakesLanded s.core new place o said l → Takes client id s.core new said
      landed place o at its None is took = TakesNone took.0 took.1 (any_there is_waiting s.core.requests place o its (ap (λ (m : Option Outcome). is_none m) is))
      landed place o at its (Some how) is took =
          let told : IsAsked s.core.history.facts o = all_at (IsAsked s.core.history.facts) s.core.requests place o sound.told.requests its in
          let is_its : is_asked client id o ≡ true = found client id s.core.requests place o at its in
          let request : request_of s.core.history.facts o.request.id ≡ told.request = ap (λ (m : Option Request). unwrap_or m no_request) told.told in
          TakesOne (λ not. never_yet how o.place (count_of o.request.ask) (sym not ∙ took.0)) record {
            request = told.request;
            client_is = told.client ∙ eqb-true o.request.client client (both (o.request.client == client) (o.request.id == id) is_its).0;
            number = asked_number s.core.history.facts o.request.id told.request told.told ∙ eqb-true o.request.id id (both (o.request.client == client) (o.request.id == id) is_its).1;
            facts = ap (λ (c : Core). c.history.facts) took.1 ∙ ap (λ (r : Request). s.core.history.facts ++ Taken r ∷ []) request;
            holds = λ holds. take_holds s.core new client place o told.request its (eqb-true o.request.client client (both (o.request.client == client) (o.request.id == id) is_its).0)
                (told.client ∙ eqb-true o.request.client client (both (o.request.client == client) (o.request.id == id) is_its).0)
                (ap (λ (c : Core). c.requests) took.1) (ap (λ (c : Core). c.history.facts) took.1 ∙ ap (λ (r : Request). s.core.history.facts ++ Taken r ∷ []) request) holds;
          }

      by : (p : Option ℕ) → position (is_asked client id) s.core.requests ≡ p → MatchOption p ((said ≡ answer.Unknown) × (new ≡ s.core)) (λ (place : ℕ). TakeAt s.core new place said) → Takes client id s.core new said
      by None at none = absurd (some_position (is_asked client id) s.core.requests there at)
      by (Some place) at it = landed place it.0 at it.1 it.0.landed refl it.2

-- ---- what a worker is given

module _ {V : Type 0} (plan : Plan) (s_of : V → State) (always : V → Type 0) (past : V → Option (List (List Sector))) (pasts : (v w : V) → past v ≡ past w) (x y : V) (client : ℕ) (was : IsServing plan (s_of x)) where
  -- ---- a request that it asks for

  module _ (number : ℕ) (d : Draw) where
    abbrev the_ask : Ask
    the_ask = drawn_ask plan client d

    abbrev the_bytes : Option (List ℕ)
    the_bytes = drawn_bytes plan client number d

    abbrev Gives : Asked → Type 0
    Gives answer = AskGives (λ v. told_in (s_of v)) past always (IsDrawnAs plan client number d) (λ v said. IsNotTaken plan (s_of v) client d said) client x answer y

    pub asks_serves : (said : Result ℕ AskFault) → SubmitGives (s_of x).core (s_of y).core client the_ask the_bytes said → RunsOn (s_of x) (s_of y) → IsSound (s_of y) → 1 ≤ client → client ≤ plan.clients → IsServing plan (s_of y)
    asks_serves said gives runs sound some few = by (submits plan.clients client (s_of x).core (s_of y).core the_ask the_bytes said gives)
      where
        by : Submits plan.clients client (s_of x).core (s_of y).core the_ask the_bytes said → IsServing plan (s_of y)
        by (Took is grown) =
            serves_on plan client (s_of x) (s_of y) was sound (keeps_runs plan.sync (s_of x) (s_of y) runs)
            (subst (λ (c : Core). Adds plan.clients client (s_of x).core.history.facts c.history.facts) (sym grown) (submit_adds (s_of x).core client the_ask the_bytes plan.clients some few))
            (subst HoldsOpen (sym grown) (submit_holds (s_of x).core client the_ask the_bytes was.holds))
        by (TookNot why fault is same) =
            serves_on plan client (s_of x) (s_of y) was sound (keeps_runs plan.sync (s_of x) (s_of y) runs)
            (adds_none plan.clients client (s_of x).core.history.facts (s_of y).core.history.facts (none_same (s_of x).core.history.facts (s_of y).core.history.facts (ap (λ (c : Core). c.history.facts) same)))
            (subst HoldsOpen (sym same) was.holds)

    drawn_as : (id : ℕ) → next_id (s_of x).core.history ≡ id → IsDrawnAs plan client number d (its_request (s_of x).core client the_ask the_bytes)
    drawn_as id is =
        let run : (s_of x).core.history.run ≡ plan.first.core.history.run = same_run plan.first (s_of x) was.keeps.leaves in
        λ i. record {
          run = run i;
          id = next_id (s_of x).core.history;
          client = client;
          vol = Lv (lv_of the_ask);
          at = at_of the_ask;
          count = count_of the_ask;
          write = is_some the_bytes;
          blocks = blocks_given (count_of the_ask) the_bytes;
        }

    pub begun_gives : (id : ℕ) → SubmitGives (s_of x).core (s_of y).core client the_ask the_bytes (Ok id) → RunsOn (s_of x) (s_of y) → always y → Gives (asked.Begun id)
    begun_gives id gives runs holds = by (submits plan.clients client (s_of x).core (s_of y).core the_ask the_bytes (Ok id) gives)
      where
        by : Submits plan.clients client (s_of x).core (s_of y).core the_ask the_bytes (Ok id) → Gives (asked.Begun id)
        by (Took is grown) =
            let same : id ≡ next_id (s_of x).core.history = cc is in
            let r = its_request (s_of x).core client the_ask the_bytes in
            record {
              more = Begun r ∷ [];
              grows = grows plan s_of always past pasts x y (Begun r ∷ []) (ap (λ (c : Core). c.history.facts) grown) (keeps_runs plan.sync (s_of x) (s_of y) runs) holds;
              others = λ c apart. others_begun c r (λ e. apart (sym e));
              enters = HasBegun r (drawn_as id (sym same)) refl (ap asked.Begun same) refl;
            }
        by (TookNot why fault is same) = absurd (cc is)

    pub refused_gives : (why : AskFault) (answer : Asked) → ((id : ℕ) → answer ≡ asked.Begun id → ⊥) → answer ≡ refused_as why → SubmitGives (s_of x).core (s_of y).core client the_ask the_bytes (Err why) → RunsOn (s_of x) (s_of y) → always y → Gives answer
    refused_gives why answer not says gives runs holds = by (submits plan.clients client (s_of x).core (s_of y).core the_ask the_bytes (Err why) gives)
      where
        by : Submits plan.clients client (s_of x).core (s_of y).core the_ask the_bytes (Err why) → Gives answer
        by (Took is grown) = absurd (cc is)
        by (TookNot fault is_fault is same) = record {
          more = [];
          grows = grows plan s_of always past pasts x y [] (ap (λ (c : Core). c.history.facts) same ∙ sym (append-nil (s_of x).core.history.facts)) (keeps_runs plan.sync (s_of x) (s_of y) runs) holds;
          others = λ c apart. refl;
          enters = WasRefused (fault, is_fault, says ∙ ap refused_as (let same_fault : why ≡ fault = cc is in same_fault)) not refl;
        }

  -- ---- an answer that it looks for

  module _ (id : ℕ) where
    abbrev Looks : Seen → Type 0
    Looks answer = LookGives (λ v. told_in (s_of v)) past always waits_in (λ v said w. LooksOn client id (s_of v) (s_of w) said) client id x answer y

    pub its_there : Awaits client id (s_of x).core.history.facts → list_any (is_asked client id) (s_of x).core.requests ≡ true
    its_there awaits = subst (λ n. list_any (is_asked client n) (s_of x).core.requests ≡ true) awaits.number (was.holds client awaits.before awaits.request awaits.last)

    answer_adds : (said : Answer) → Answers client id (s_of x).core (s_of y).core said → Adds plan.clients client (s_of x).core.history.facts (s_of y).core.history.facts
    answer_adds said it = record { more = Taken it.request ∷ []; is = it.facts; others = λ c apart. others_taken c it.request (λ same. apart (sym same ∙ it.client_is)); clients = (tt, tt) }

    -- it is taken
    pub takes_serves : (said : Answer) → Answers client id (s_of x).core (s_of y).core said → RunsOn (s_of x) (s_of y) → IsSound (s_of y) → IsServing plan (s_of y)
    takes_serves said it runs sound = serves_on plan client (s_of x) (s_of y) was sound (keeps_runs plan.sync (s_of x) (s_of y) runs) (answer_adds said it) (it.holds was.holds)

    pub takes_looks : (said : Answer) → (said ≡ answer.NotYet → ⊥) → TakeGives (s_of x).core (s_of y).core client id said → Answers client id (s_of x).core (s_of y).core said → RunsOn (s_of x) (s_of y) → always y → Looks seen.Taken
    takes_looks said not gives it runs holds = record {
      more = Taken it.request ∷ [];
      grows = grows plan s_of always past pasts x y (Taken it.request ∷ []) it.facts (keeps_runs plan.sync (s_of x) (s_of y) runs) holds;
      others = λ c apart. others_taken c it.request (λ same. apart (sym same ∙ it.client_is));
      enters = IsTaken it.request it.number refl (own_taken client it.request it.client_is);
      idle = λ e. absurd (cc e);
      makes = ByTake said not gives refl;
    }

    -- it isn't there yet, and a turn is made
    pub turn_serves : (said : Turned) → TurnMakes (s_of x) (s_of y) said → RunsOn (s_of x) (s_of y) → IsSound (s_of y) → IsServing plan (s_of y)
    turn_serves said made runs sound =
        serves_on plan client (s_of x) (s_of y) was sound (keeps_runs plan.sync (s_of x) (s_of y) runs) (adds_none plan.clients client (s_of x).core.history.facts (s_of y).core.history.facts (turn_adds (s_of x) (s_of y) said made))
        (turn_holds (s_of x) (s_of y) said made was.holds)

    rose_so : is_moving (s_of x).core ≡ false → list_any is_waiting (s_of x).core.requests ≡ true → TurnTells (s_of x) (s_of y) turned.Idle → Rose (s_of x).device.counts.waits (s_of y).device.counts.waits
    rose_so unmoved some tells = by (tells.idle.0 refl) (tells.idle.0 refl).still
      where
        by : CannotGoOn (s_of x) (s_of y) → Finds (s_of x) (s_of y) ⊎ FindsNothing (s_of x) (s_of y) → Rose (s_of x).device.counts.waits (s_of y).device.counts.waits
        by still (inl finds) = finds.waits.waits
        by still (inr nothing) = not_so (sym (none_waits_still (s_of x) was.sound unmoved still.on nothing.votes still.none nothing.idle) ∙ some)

    pub turn_looks : (said : Turned) (it : Seen) → (it ≡ seen.Taken → ⊥) → (it ≡ seen.Idle → said ≡ turned.Idle) → it ≡ seen_behind said → TakeGives (s_of x).core (s_of x).core client id answer.NotYet → is_moving (s_of x).core ≡ false → list_any is_waiting (s_of x).core.requests ≡ true → TurnMakes (s_of x) (s_of y) said → TurnTells (s_of x) (s_of y) said
        → RunsOn (s_of x) (s_of y) → always y → Looks it
    turn_looks said it not idle says gives unmoved some made tells runs holds =
        let adds = turn_adds (s_of x) (s_of y) said made in
        record {
          more = adds.more;
          grows = grows plan s_of always past pasts x y adds.more adds.is (keeps_runs plan.sync (s_of x) (s_of y) runs) holds;
          others = λ c apart. adds.nobodys c;
          enters = IsNotYet not (adds.nobodys client);
          idle = λ e. rose_so unmoved some (subst (λ (t : Turned). TurnTells (s_of x) (s_of y) t) (idle e) tells);
          makes = ByLook gives said made says;
        }

-- what was submitted is what the plan says
pub asked_as : (plan : Plan) (client number : ℕ) (d d1 : Draw) (lv blocks word : ℕ) (old new : Core) (said : Result ℕ AskFault) → lv ≡ plan.lv → blocks ≡ plan.blocks → d1 ≡ shaped plan client d → word ≡ word_of client (8 * number)
    → SubmitGives old new client (ask_of lv blocks d1) (bytes_of word blocks d1) said → SubmitGives old new client (drawn_ask plan client d) (drawn_bytes plan client number d) said
asked_as plan client number d d1 lv blocks word old new said lv_is blocks_is drawn_is word_is gives =
    subst (λ (n : ℕ). SubmitGives old new client (ask_of n plan.blocks (shaped plan client d)) (drawn_bytes plan client number d) said) lv_is
    (subst (λ (n : ℕ). SubmitGives old new client (ask_of lv n (shaped plan client d)) (bytes_of (word_of client (8 * number)) n (shaped plan client d)) said) blocks_is
    (subst (λ (e : Draw). SubmitGives old new client (ask_of lv blocks e) (bytes_of (word_of client (8 * number)) blocks e) said) drawn_is
    (subst (λ (w : ℕ). SubmitGives old new client (ask_of lv blocks d1) (bytes_of w blocks d1) said) word_is gives)))

-- behind a turn that found something to do
pub moved_behind : (said : Turned) → (said ≡ turned.Idle → ⊥) → seen.Moved ≡ seen_behind said
moved_behind turned.Moved not = refl
moved_behind turned.Idle not = absurd (not refl)
moved_behind turned.Dark not = refl
moved_behind turned.Off not = refl

-- an answer that isn't there yet, and one that is
pub not_yet : (client id : ℕ) (old new : Core) → Takes client id old new answer.NotYet → (new ≡ old) × (list_any is_waiting old.requests ≡ true)
not_yet client id old new (TakesOne not it) = absurd (not refl)
not_yet client id old new (TakesNone is same some) = (same, some)

pub it_is : (client id : ℕ) (old new : Core) (said : Answer) → (said ≡ answer.NotYet → ⊥) → Takes client id old new said → Answers client id old new said
it_is client id old new said not (TakesOne never it) = it
it_is client id old new said not (TakesNone is same some) = absurd (not is)
