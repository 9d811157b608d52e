-- A workload leaves a request in the table for each client that has one open.
use Rattle.std.proofs.Common.{◌≡◌, ◌≤◌, ◌+◌, ◌||◌, ℕ, zero, suc, Bool, true, false, List, [], ◌∷◌, length, Option, Some, None, Result, Ok, Err, position, slice_get, refl, sym, ◌∙◌, ap, subst, arith}
use Rattle.std.specs.Prelude.{MatchOption, count_by, is_some, set}
use Rattle.std.specs.List.{list_any, remove}
use Rattle.std.specs.Option.{option_map_or}
use Rattle.std.proofs.lemmas.Bool.{or_right}
use Rattle.std.proofs.lemmas.List.{length-append}
use Rattle.std.proofs.lemmas.List.Edits.{length-remove}
use Rattle.std.proofs.lemmas.Option.{slice_get_within}
use Rattle.lvm_num.proofs.Booleans.{not_so}
use Rattle.rand_pcg.specs.Lcg.{Lcg}
use Rattle.lvm_vol.specs.declared.entry.Outcome.{Outcome}
use Rattle.lvm_vol.specs.Log.{next_id}
use Rattle.lvm_workers.specs.Draws.{draw_at}
use Rattle.lvm_path.specs.Asks.{count_of}
use Rattle.lvm_session.specs.declared.answers.AskFault.{AskFault}
use Rattle.lvm_session.specs.declared.answers.Taken.{Taken}
use Rattle.lvm_session.specs.declared.answers.Taken.TheVariants as taken
use Rattle.lvm_session.specs.declared.open.Open.{Open}
use Rattle.lvm_session.specs.Calls.{TakeAt, TakeGives, TakesLanded, fault_by, fault_on, is_asked, submitted}
use Rattle.lvm_session.specs.Judging.{is_waiting}
use Rattle.lvm_session.specs.Sound.{count_if}
use Rattle.lvm_session.specs.State.{Core, State}
use Rattle.lvm_keeps.proofs.Lists.{any_removed, count_cons, count_set}
use Rattle.lvm_keeps.proofs.Small.{both}
use Rattle.lvm_keeps_events.proofs.TurnCallsLemmas.{SameTable, some_position, turn_leaves_table}
use Rattle.lvm_load.specs.declared.client.Client.{Client}
use Rattle.lvm_load.specs.Leaving.{WorkloadsLeaveOpen}
use Rattle.lvm_load.specs.Requests.{ask_of, bytes_of, word_of}
use Rattle.lvm_load.specs.Waiting.{AreWaiting, waits_for}
use Rattle.lvm_load.specs.Weaving.{AsksDrawn, Draws, FinishesBy, Names, NextClient, NoClient, NoTurn, NoWord, NoneDrawn, NoneOpen, OneDrawn, OneTurn, OneWord, PassesOn, Takes, TakesEach, TakesFor, TakesWhere, Turns, Unheard, Waits, Weaving, drew, first_weaving, fresh_client, fresh_clients, has_open, might_have_landed, open_of, opened_by}
use Rattle.lvm_load.proofs.WaitingLemmas.Waiting.{asks_wait, found, fresh_wait, named_free, never_yet, none_before, not_its, open_beside, turn_waits}

-- ---- what is counted

-- the table has as many requests as this, and one for each client that has one open
abbrev HasOpen : ℕ → Core → List Client → Type 0
HasOpen base core clients = length core.requests ≡ base + count_by has_open clients

any_weaker : (t u : Open → Bool) → ((o : Open) → t o ≡ true → u o ≡ true) → (os : List Open) → list_any t os ≡ true → list_any u os ≡ true
any_weaker t u weaker [] some = not_so some
any_weaker t u weaker (o ∷ os) some = by (t o) refl (any_weaker t u weaker os) some
  where
    by : (b : Bool) → t o ≡ b → (list_any t os ≡ true → list_any u os ≡ true) → b || list_any t os ≡ true → u o || list_any u os ≡ true
    by true is rest e = ap (λ b. b || list_any u os) (weaker o is)
    by false is rest e = or_right (u o) (list_any u os) (rest e)

-- the request that a client waits for is there
is_there : (core : Core) (clients : List Client) → AreWaiting core clients → (k id : ℕ) → open_of clients k ≡ Some id → list_any (is_asked (k + 1) id) core.requests ≡ true
is_there core clients waiting k id has = any_weaker (waits_for (k + 1) id) (is_asked (k + 1) id) (λ o is. (both (is_asked (k + 1) id o) (is_waiting o) is).0) core.requests (waiting k id has)

none_counted : (cs : List Client) → list_any has_open cs ≡ false → count_by has_open cs ≡ 0
none_counted [] none = refl
none_counted (c ∷ cs) none = by (has_open c) refl (none_counted cs) none
  where
    by : (b : Bool) → has_open c ≡ b → (list_any has_open cs ≡ false → count_by has_open cs ≡ 0) → b || list_any has_open cs ≡ false → count_by has_open (c ∷ cs) ≡ 0
    by true is rest e = absurd (cc e)
    by false is rest e =
        let here : count_if (has_open c) ≡ 0 = ap count_if is in
        let others = rest e in
        let all = count_cons has_open c cs in
        omega (arith, here, others, all)

fresh_counted : (n : ℕ) → count_by has_open (fresh_clients n) ≡ 0
fresh_counted zero = refl
fresh_counted (suc n) = let rest = fresh_counted n in let all : count_by has_open (fresh_clients (suc n)) ≡ 0 + count_by has_open (fresh_clients n) = count_cons has_open fresh_client (fresh_clients n) in omega (arith, rest, all)

-- ---- answers that are taken

-- once those of the first n clients are, the others' requests are still there
record LeavesOpen (base n : ℕ) (core : Core) (clients : List Client) : Type 0 where
  pub there : (k id : ℕ) → n ≤ k → open_of clients k ≡ Some id → list_any (is_asked (k + 1) id) core.requests ≡ true
  pub long : HasOpen base core clients

module _ (base k : ℕ) (old new : State) (clients after : List Client) (left : LeavesOpen base k old.core clients) where
  still : new.core ≡ old.core → after ≡ clients → LeavesOpen base (k + 1) new.core after
  still same kept = record {
    there = λ j id past has. ap (λ (c : Core). list_any (is_asked (j + 1) id) c.requests) same ∙ left.there j id (omega (arith, past)) (ap (λ (cs : List Client). open_of cs j) (sym kept) ∙ has);
    long = ap (λ (c : Core). length c.requests) same ∙ left.long ∙ ap (λ (cs : List Client). base + count_by has_open cs) (sym kept);
  }

  not_yet : (id : ℕ) → TakeGives old.core new.core (k + 1) id taken.NotYet → after ≡ clients → LeavesOpen base (k + 1) new.core after
  not_yet id gives kept = by (position (is_asked (k + 1) id) old.core.requests) gives
    where
      at_place : (place : ℕ) (o : Open) (l : Option Outcome) → TakesLanded old.core new.core place o taken.NotYet l → LeavesOpen base (k + 1) new.core after
      at_place place o None takes = still takes.1 kept
      at_place place o (Some how) takes = absurd (never_yet how o.place (count_of o.request.ask) takes.0)

      by : (p : Option ℕ) → MatchOption p ((taken.NotYet ≡ taken.Unknown) × (new.core ≡ old.core)) (λ (place : ℕ). TakeAt old.core new.core place taken.NotYet) → LeavesOpen base (k + 1) new.core after
      by None none = absurd (let e = none.0 in cc e)
      by (Some place) it = at_place place it.0 it.0.landed it.2

  goes : (c : Client) (id : ℕ) (how : Taken) → slice_get clients k ≡ Some c → c.request ≡ Some id → TakeGives old.core new.core (k + 1) id how → (how ≡ taken.NotYet → ⊥) → after ≡ set clients k (record c { request = None })
      → LeavesOpen base (k + 1) new.core after
  goes c id how there is gives other put = by (position (is_asked (k + 1) id) old.core.requests) refl gives
    where
      unmoved : (j : ℕ) → (j ≡ k → ⊥) → open_of after j ≡ open_of clients j
      unmoved j apart = ap (λ (cs : List Client). open_of cs j) put ∙ open_beside clients k j (record c { request = None }) apart

      fewer : count_by has_open after + 1 ≡ count_by has_open clients
      fewer =
          let sets : count_by has_open (set clients k (record c { request = None })) + count_if (has_open c) ≡ count_by has_open clients + 0 = count_set has_open clients k c (record c { request = None }) there in
          let was : count_if (has_open c) ≡ 1 = ap (λ (m : Option ℕ). count_if (is_some m)) is in
          let now : count_by has_open after ≡ count_by has_open (set clients k (record c { request = None })) = ap (count_by has_open) put in
          omega (arith, sets, was, now)

      at_place : (place : ℕ) (o : Open) → position (is_asked (k + 1) id) old.core.requests ≡ Some place → slice_get old.core.requests place ≡ Some o → (l : Option Outcome) → TakesLanded old.core new.core place o how l → LeavesOpen base (k + 1) new.core after
      at_place place o at its None takes = absurd (other takes.0)
      at_place place o at its (Some so) takes =
          let apart : (j : ℕ) → k + 1 ≤ j → j ≡ k → ⊥ = λ j past same. omega (arith, past, same) in
          record {
            there = λ j id1 past has.
                ap (λ (c : Core). list_any (is_asked (j + 1) id1) c.requests) takes.1
                ∙ any_removed (is_asked (j + 1) id1) old.core.requests place o its (not_its k id o j id1 (apart j past) (found (k + 1) id old.core.requests place o at its))
                ∙ left.there j id1 (omega (arith, past)) (sym (unmoved j (apart j past)) ∙ has);
            long =
                let now : length new.core.requests ≡ length (remove old.core.requests place) = ap (λ (c : Core). length c.requests) takes.1 in
                let less = length-remove old.core.requests place (slice_get_within old.core.requests place o its) in
                let was = left.long in
                let clients_less = fewer in
                omega (arith, now, less, was, clients_less);
          }

      by : (p : Option ℕ) → position (is_asked (k + 1) id) old.core.requests ≡ p → MatchOption p ((how ≡ taken.Unknown) × (new.core ≡ old.core)) (λ (place : ℕ). TakeAt old.core new.core place how) → LeavesOpen base (k + 1) new.core after
      by None at none =
          absurd (some_position (is_asked (k + 1) id) old.core.requests (left.there k id (omega arith) (ap (λ (m : Option Client). option_map_or (λ (x : Client). x.request) m None) there ∙ is)) at)
      by (Some place) at it = at_place place it.0 at it.1 it.0.landed it.2

  takes_leave : TakesFor k old new clients after → LeavesOpen base (k + 1) new.core after
  takes_leave (NoneOpen none same kept) = still (ap (λ (s : State). s.core) same) kept
  takes_leave (Waits id is gives shelf kept) = not_yet id gives kept
  takes_leave (Takes c id how there is gives other shelf put) = goes c id how there is gives other put

each_leaves : (base : ℕ) (first : State) (clients : List Client) (n : ℕ) (new : State) (after : List Client) → TakesEach first clients n new after → LeavesOpen base 0 first.core clients → LeavesOpen base n new.core after
each_leaves base first clients n new after NoClient left = left
each_leaves base first clients n new after (NextClient {k = k} {old = old} {before = before} so_far takes) left = takes_leave base k old new before after (each_leaves base first clients k old before so_far left) takes

-- ---- turns

turn_leaves : (base : ℕ) (old new : State) (clients after : List Client) (idle idle1 : ℕ) → AreWaiting old.core clients → HasOpen base old.core clients → Turns old new clients after idle idle1 → HasOpen base new.core after
turn_leaves base old new clients after idle idle1 waiting long turns = behind (might_have_landed old turns.mid turns.answer) turns.takes
  where
    table : SameTable old.core turns.mid.core
    table = turn_leaves_table old turns.mid turns.answer turns.made

    behind : (b : Bool) → TakesWhere b turns.mid new clients after → HasOpen base new.core after
    behind true takes =
        (each_leaves base turns.mid clients (length clients) new after takes
        (record { there = λ k id past has. table.asked (k + 1) id ∙ is_there old.core clients waiting k id has; long = table.long ∙ long })).long
    behind false kept = ap (λ (s : State). length s.core.requests) kept.0 ∙ table.long ∙ long ∙ ap (λ (cs : List Client). base + count_by has_open cs) (sym kept.1)

-- ---- requests that are drawn

-- each client that has a request open waits for it, and the table has no other but so many
record Stands (base : ℕ) (w : Weaving) : Type 0 where
  pub waiting : AreWaiting w.session.core w.clients
  pub long : HasOpen base w.session.core w.clients

passes : (base : ℕ) (first new : Weaving) → PassesOn first new → Stands base first → Stands base new
passes base first new NoWord stands = stands
passes base first new (OneWord {old = old} so_far busy) stands =
    let was = passes base first old so_far stands in
    record {
      waiting = turn_waits old.session new.session old.clients new.clients old.idle new.idle was.waiting busy.turns;
      long = turn_leaves base old.session new.session old.clients new.clients old.idle new.idle was.waiting was.long busy.turns;
    }

names : (base : ℕ) (first new : Weaving) (k : ℕ) → Names first new k → Stands base first → Stands base new
names base first new k it stands =
    let was = passes base first it.mid it.passes stands in
    subst (Stands base) (sym it.is) (record { waiting = was.waiting; long = was.long })

module _ (base lv blocks k : ℕ) (g : Lcg) (old new : State) (clients after : List Client) (more : Bool) (long : HasOpen base old.core clients) (free : open_of clients k ≡ None) (asks : AsksDrawn lv blocks k g old new clients after more) where
  counted : count_by has_open after ≡ count_by has_open clients + count_if (is_some (opened_by None asks.answer))
  counted =
      let none = none_before lv blocks k g old new clients after more free asks in
      let sets : count_by has_open (set clients k (drew asks.client (opened_by asks.client.request asks.answer))) + count_if (has_open asks.client) ≡ count_by has_open clients + count_if (is_some (opened_by asks.client.request asks.answer))
      = count_set has_open clients k asks.client (drew asks.client (opened_by asks.client.request asks.answer)) asks.client_is in
      let before : count_if (has_open asks.client) ≡ 0 = ap (λ (m : Option ℕ). count_if (is_some m)) none in
      let now : count_by has_open after ≡ count_by has_open (set clients k (drew asks.client (opened_by asks.client.request asks.answer))) = ap (count_by has_open) asks.after_is in
      let opened : count_if (is_some (opened_by asks.client.request asks.answer)) ≡ count_if (is_some (opened_by None asks.answer)) = ap (λ (m : Option ℕ). count_if (is_some (opened_by m asks.answer))) none in
      omega (arith, sets, before, now, opened)

  asks_leave : HasOpen base new.core after
  asks_leave = by (fault_by old.core.power (fault_on old.core (ask_of lv blocks (draw_at g)))) asks.submits
    where
      by : (m : Option AskFault) → MatchOption m ((asks.answer ≡ Ok (next_id old.core.history)) × (new.core ≡ submitted old.core (k + 1) (ask_of lv blocks (draw_at g)) (bytes_of (word_of (k + 1) asks.client.offset) blocks (draw_at g)))) (λ (why : AskFault). (asks.answer ≡ Err why) × (new.core ≡ old.core))
          → HasOpen base new.core after
      by None took =
          let one : count_if (is_some (opened_by None asks.answer)) ≡ 1 = ap (λ (r : Result ℕ AskFault). count_if (is_some (opened_by None r))) took.0 in
          let longer : length new.core.requests ≡ length old.core.requests + 1 = ap (λ (c : Core). length c.requests) took.1 ∙ length-append old.core.requests _ in
          let all = counted in
          omega (arith, one, longer, all, long)
      by (Some why) not =
          let none : count_if (is_some (opened_by None asks.answer)) ≡ 0 = ap (λ (r : Result ℕ AskFault). count_if (is_some (opened_by None r))) not.0 in
          let same : length new.core.requests ≡ length old.core.requests = ap (λ (c : Core). length c.requests) not.1 in
          let all = counted in
          omega (arith, none, same, all, long)

draws : (base lv blocks : ℕ) (first : Weaving) (n : ℕ) (more : Bool) (new : Weaving) → Draws lv blocks first n more new → Stands base first → Stands base new
draws base lv blocks first n more new NoneDrawn stands = stands
draws base lv blocks first n more new (OneDrawn {n = m} {old = old} before named k goes it asks rng idle) stands =
    let was = names base old named k it (draws base lv blocks first m true old before stands) in
    let free = named_free old named k it in
    record {
      waiting = asks_wait lv blocks k named.rng named.session new.session named.clients new.clients more was.waiting free asks;
      long = asks_leave base lv blocks k named.rng named.session new.session named.clients new.clients more was.long free asks;
    }
draws base lv blocks first n more new (Unheard {n = m} {old = old} before words unheard) stands = passes base old new words (draws base lv blocks first m true old before stands)

-- ---- all of it

finishes : (base : ℕ) (first : State) (clients : List Client) (idle : ℕ) (new : State) (after : List Client) (idle1 : ℕ) → FinishesBy first clients idle new after idle1 → AreWaiting first.core clients × HasOpen base first.core clients
    → AreWaiting new.core after × HasOpen base new.core after
finishes base first clients idle new after idle1 NoTurn stands = stands
finishes base first clients idle new after idle1 (OneTurn {old = old} {before = before} {n = n} so_far any patient made) stands =
    let was = finishes base first clients idle old before n so_far stands in
    (turn_waits old new before after n idle1 was.0 made, turn_leaves base old new before after n idle1 was.0 was.1 made)

pub workloads_leave_open : WorkloadsLeaveOpen
workloads_leave_open lv blocks requests clients seed first last waits it = (left, λ none. let no = none_counted it.after (sym it.waits_is ∙ none) in let all = left in omega (arith, no, all))
  where
    begins : HasOpen (length first.core.requests) first.core (fresh_clients clients)
    begins = let none = fresh_counted clients in omega (arith, none)

    drawn : Stands (length first.core.requests) it.mid
    drawn = draws (length first.core.requests) lv blocks (first_weaving first clients seed) it.draws.drawn it.draws.more it.mid it.draws.draws (record { waiting = fresh_wait first.core clients; long = begins })

    left : HasOpen (length first.core.requests) last.core it.after
    left = (finishes (length first.core.requests) it.mid.session it.mid.clients it.mid.idle last it.after it.idle it.finishes.turns (drawn.waiting, drawn.long)).1
