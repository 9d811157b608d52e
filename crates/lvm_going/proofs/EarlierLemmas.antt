-- The answer of a request of an earlier session leaves a session sound.
use Rattle.std.proofs.Common.{◌≡◌, ◌==◌, ◌&&◌, ◌||◌, ℕ, Bool, true, false, List, [], ◌∷◌, Some, slice_get, refl, sym, ◌∙◌, ap, arith}
use Rattle.std.specs.Prelude.{count_by, unwrap_or}
use Rattle.std.specs.List.{list_any, AllByRecursion}
use Rattle.std.proofs.lemmas.Bool.{eq-eqb, ne_eqb}
use Rattle.lvm_disk.specs.Device.{Flight}
use Rattle.lvm_disk.proofs.passed.Num.{all_weaker, all_at}
use Rattle.lvm_vol.specs.Facts.{Fact}
use Rattle.lvm_vol.specs.Legal.{begins_in}
use Rattle.lvm_vol.specs.Log.{is_answered, is_open, no_request, request_of, taken_fact, with_fact}
use Rattle.lvm_vol.specs.Order.{Follows}
use Rattle.lvm_vol.proofs.LogLemmas.{follows_taken}
use Rattle.lvm_vol.proofs.FactsLemmas.Order.{ordered-push}
use Rattle.lvm_session.specs.declared.bringing.OpenCopy.{OpenCopy}
use Rattle.lvm_session.specs.declared.flown.Owner.TheVariants as owner
use Rattle.lvm_session.specs.declared.open.Open.{Open}
use Rattle.lvm_session.specs.declared.open.Power.TheVariants as power
use Rattle.lvm_session.specs.State.{Core, State}
use Rattle.lvm_session.specs.Judging.{copies_in, is_waiting}
use Rattle.lvm_session.specs.Calls.{is_asked}
use Rattle.lvm_session.specs.Owners.{AreOwned, IsDataOf, flies}
use Rattle.lvm_session.specs.Requests.{IsOpenOne}
use Rattle.lvm_session.specs.Causes.{AreCaused, AreCounted, IsAnswered, IsCaused, IsCausedAmong, IsCounted, IsLandedFor}
use Rattle.lvm_session.specs.Sound.{IsAsked, IsCopy, IsFitting, IsGoing, IsOn, IsSound, IsTold}
use Rattle.lvm_keeps.proofs.SoundLemmas.Fitting.{still_fits}
use Rattle.lvm_keeps.proofs.OwnersLemmas.Rows.{all_fly, rows_on}
use Rattle.lvm_keeps.proofs.RequestsLemmas.{moved, open_on, bring_on, landed_on, counted_on, origin_on, copy_on, if_on}
use Rattle.lvm_keeps.proofs.SoundLemmas.Telling.{answered_still, asked_still, count_still, open_still, outcome_still, place_still}

-- no request of the table is one of this number
none_of : (id : ℕ) (os : List Open) → list_any (is_asked 1 id) os ≡ false → AllByRecursion (λ (o : Open). is_asked 1 id o ≡ false) os
none_of id [] none = tt
none_of id (o ∷ os) none = by (is_asked 1 id o) refl (none_of id os) none
  where
    by : (b : Bool) → is_asked 1 id o ≡ b → (list_any (is_asked 1 id) os ≡ false → AllByRecursion (λ (x : Open). is_asked 1 id x ≡ false) os) → b || list_any (is_asked 1 id) os ≡ false → AllByRecursion (λ (x : Open). is_asked 1 id x ≡ false) (o ∷ os)
    by true is rest none = absurd (cc none)
    by false is rest none = (is, rest none)

module _ (s : State) (sound : IsSound s) (id : ℕ) (its : is_answered s.core.history.facts 1 id ≡ true) (gone : list_any (is_asked 1 id) s.core.requests ≡ false) where
  abbrev core : Core
  core = s.core

  abbrev fact : Fact
  fact = taken_fact core.history.facts id

  abbrev pub now : State
  now = moved s (with_fact core.history fact) core.requests core.queue core.copy core.pool core.flying core.cache.entries core.last

  follows : Follows core.history.run core.history.facts fact × ((request_of core.history.facts id).client ≡ 1) × ((request_of core.history.facts id).id ≡ id)
  follows = follows_taken core.history.facts core.history.run 1 id its

  apart : (x : Open) → is_asked 1 id x ≡ false → IsAsked core.history.facts x → x.request.id ≡ id → ⊥
  apart x other a same =
      let told : request_of core.history.facts id ≡ a.request = ap (λ n. request_of core.history.facts n) (sym same) ∙ ap (λ r. unwrap_or r no_request) a.told in
      let client : x.request.client ≡ 1 = sym a.client ∙ sym (ap (λ r. r.client) told) ∙ follows.1 in
      let yes : is_asked 1 id x ≡ true = ap (λ b. b && x.request.id == id) (eq-eqb x.request.client 1 client) ∙ eq-eqb x.request.id id same in
      absurd (let e : ◌≡◌ {A = Bool} true false = sym yes ∙ other in cc e)

  pub apart_at : (k : ℕ) (x : Open) → slice_get core.requests k ≡ Some x → x.request.id ≡ id → ⊥
  apart_at k x there = apart x (all_at (λ (o : Open). is_asked 1 id o ≡ false) core.requests k x (none_of id core.requests gone) there) (all_at (IsAsked core.history.facts) core.requests k x sound.told.requests there)

  fitting : IsFitting now.core
  fitting = let f = sound.fitting in still_fits core now.core f refl f.entries (λ disk. refl) f.table refl f.room

  asked_on : (x : Open) → is_asked 1 id x ≡ false → IsAsked core.history.facts x → IsAsked now.core.history.facts x
  asked_on x other a = record {
    request = a.request;
    told = asked_still core.history.facts fact refl x.request.id ∙ a.told;
    client = a.client;
    vol = a.vol;
    at = a.at;
    count = a.count;
    write = a.write;
    length = a.length;
    place = a.place ∙ sym (place_still core.history.facts fact refl x.request.id);
    outcome = a.outcome ∙ sym (outcome_still core.history.facts fact x.request.id refl);
    answered = λ ended. answered_still core.history.facts fact refl x.request.client x.request.id refl
        (ne_eqb (request_of core.history.facts id).id x.request.id (λ e. apart x other a (sym e ∙ follows.2))) ∙ a.answered ended;
  }

  all_asked : (xs : List Open) → AllByRecursion (λ (x : Open). is_asked 1 id x ≡ false) xs → AllByRecursion (IsAsked core.history.facts) xs → AllByRecursion (IsAsked now.core.history.facts) xs
  all_asked [] none all = tt
  all_asked (x ∷ xs) none all = (asked_on x none.0 all.0, all_asked xs none.1 all.1)

  told : IsTold now.core
  told = let t = sound.told in record {
    ordered = ordered-push core.history.run [] core.history.facts fact t.ordered follows.0;
    table = record {
      ascending = t.table.ascending;
      still = all_weaker (λ (x : Open). is_waiting x ≡ true → is_open core.history.facts x.request.id ≡ true) (λ (x : Open). is_waiting x ≡ true → is_open now.core.history.facts x.request.id ≡ true)
          (λ x is waiting. open_still core.history.facts fact refl x.request.id refl ∙ is waiting) core.requests t.table.still;
    };
    each = λ n. open_still core.history.facts fact refl n refl ∙ t.each n;
    requests = all_asked core.requests (none_of id core.requests gone) t.requests;
  }

  -- ---- while it is on

  module _ (on : s.core.power ≡ power.On) where
    going : IsGoing core
    going = (sound.on on).going

    owned : AreOwned now.core
    owned (owner.Data n target) = going.owned (owner.Data n target)
    owned (owner.Status disk) = going.owned (owner.Status disk)
    owned (owner.Note disk) = going.owned (owner.Note disk)
    owned owner.Copy = going.owned owner.Copy

    one : (x : Open) → IsOpenOne core x → IsOpenOne now.core x
    one x it = open_on core (with_fact core.history fact) core.requests core.queue core.copy core.pool core.flying core.cache.entries core.last x (λ e. e) (λ p e. e) (λ ask. refl) it

    next_still : count_by (begins_in core.history.run) now.core.history.facts ≡ count_by (begins_in core.history.run) core.history.facts
    next_still = count_still core.history.run core.history.facts fact refl

    bring : (c : OpenCopy) → IsCopy core c → IsCopy now.core c
    bring c it = bring_on core (with_fact core.history fact) core.requests core.queue core.copy core.pool core.flying core.cache.entries core.last c (let same = next_still in omega (arith, same)) (λ e. e) it

    keeps_going : IsGoing now.core
    keeps_going = record {
      fitting = fitting;
      told = told;
      status = going.status;
      owned = owned;
      tickets = going.tickets;
      queue = going.queue;
      pinned = going.pinned;
      requests = all_weaker (IsOpenOne core) (IsOpenOne now.core) one core.requests going.requests;
      copy = if_on (IsCopy core) (IsCopy now.core) bring core.copy going.copy;
      hands = going.hands;
      behind = going.behind;
      reviewed = going.reviewed;
      fresh = going.fresh;
      clearings = going.clearings;
      numbers = going.numbers;
    }

    data_on : (n target : ℕ) (f : Flight) → flies core (owner.Data n target) ≡ true → IsDataOf core n target f → IsDataOf now.core n target f
    data_on n target f fly of =
        let m = of.moves in
        record { place = of.place; request = of.request; there = of.there; own = of.own; aim = of.aim; aim_is = of.aim_is; moves = record { disk_is = m.disk_is; first = m.first; count = m.count; write = m.write; carries = λ write k below. m.carries write k below ∙ sym (ap (λ r. slice_get (unwrap_or r no_request).blocks k) (asked_still core.history.facts fact refl of.request.request.id)) } }

    keeps_on : IsOn now
    keeps_on = let was = sound.on on in record {
      going = keeps_going;
      rows = rows_on core (with_fact core.history fact) core.requests core.queue core.pool core.flying core.cache.entries core.last data_on core.flying s.device.flights (all_fly core going.owned) was.rows;
      caused = all_weaker (AreCaused s.device core) (AreCaused s.device now.core) (λ x all waiting. all_weaker (IsCaused s.device core) (IsCaused s.device now.core) (λ t why. why) x.request.targets.items (all waiting)) core.requests was.caused;
      chosen = was.chosen;
    }

  answered_on : (x : Open) → IsAnswered s x → IsAnswered now x
  answered_on x why = if_on (IsLandedFor s x) (IsLandedFor now x) (λ how. landed_on s (with_fact core.history fact) core.requests core.queue core.copy core.pool core.flying core.cache.entries core.last x how) x.landed why

  counted : (x : Open) → AreCounted s x → AreCounted now x
  counted x all = all_weaker (IsCounted s) (IsCounted now) (counted_on s (with_fact core.history fact) core.requests core.queue core.copy core.pool core.flying core.cache.entries core.last) x.request.targets.items all

  pub one_keeps : IsSound now
  one_keeps = record {
    fitting = fitting;
    told = told;
    placed = sound.placed;
    buffers = sound.buffers;
    none_lost = sound.none_lost;
    on = keeps_on;
    lit = sound.lit;
    dark = sound.dark;
    off = sound.off;
    over = λ e. let was = sound.over e in record { landed = was.landed; copy = was.copy; flights = was.flights; flying = was.flying };
    stuck = λ e. let was = sound.stuck e in record { requests = was.requests; copy = was.copy };
    counted = all_weaker (AreCounted s) (AreCounted now) counted core.requests sound.counted;
    answered = all_weaker (IsAnswered s) (IsAnswered now) answered_on core.requests sound.answered;
    copy = if_on (λ (c : OpenCopy). IsCausedAmong s (copies_in core.descriptor c.lv c.lp) c) (λ (c : OpenCopy). IsCausedAmong now (copies_in core.descriptor c.lv c.lp) c) (λ c. copy_on s (with_fact core.history fact) core.requests core.queue core.copy core.pool core.flying core.cache.entries core.last (copies_in core.descriptor c.lv c.lp) c) core.copy sound.copy;
    origin = origin_on s (with_fact core.history fact) core.requests core.queue core.copy core.pool core.flying core.cache.entries core.last sound.origin;
  }
