-- The answer of a request is taken.
use Rattle.std.proofs.Common.{◌≡◌, ◌==◌, ◌&&◌, ◌||◌, ℕ, zero, suc, Bool, true, false, not, if◌then◌else◌, List, [], ◌∷◌, Option, Some, None, slice_get, refl, sym, ◌∙◌, ap, subst, arith, position}
use Rattle.std.specs.Prelude.{MatchOption, count_by, is_none, unwrap_or}
use Rattle.std.specs.List.{list_any, remove, AllByRecursion}
use Rattle.std.specs.Option.{option_map_or}
use Rattle.std.proofs.lemmas.Bool.{eqb-true, eqb-false, ne_eqb}
use Rattle.lvm_num.specs.declared.place.Pp.{Pp}
use Rattle.lvm_session.specs.passed.Disk.{Flight}
use Rattle.lvm_path.specs.passed.Sched.{is_flying}
use Rattle.lvm_vol.specs.declared.entry.Outcome.{Outcome}
use Rattle.lvm_vol.specs.Facts.{Fact}
use Rattle.lvm_vol.specs.Legal.{begins_in}
use Rattle.lvm_vol.specs.Log.{is_open, no_request, request_of, taken_fact, with_fact}
use Rattle.lvm_vol.specs.Order.{Follows}
use Rattle.lvm_vol.proofs.LogLemmas.{follows_taken}
use Rattle.lvm_vol.proofs.FactsLemmas.Order.{ordered-push}
use Rattle.lvm_path.specs.declared.target.Target.{Target}
use Rattle.lvm_path.specs.Asks.{is_write, lv_of}
use Rattle.lvm_path.specs.Targets.{are_over, is_begun, is_failed}
use Rattle.lvm_num.specs.Descriptor.{is_pp}
use Rattle.lvm_num.proofs.Booleans.{and_false, not_so}
use Rattle.lvm_num.proofs.Lists.{all_weaker, all_at}
use Rattle.lvm_session.specs.declared.answers.Taken.TheVariants as answer
use Rattle.lvm_session.specs.declared.bringing.OpenCopy.{OpenCopy}
use Rattle.lvm_session.specs.declared.flown.Owner.TheVariants as owner
use Rattle.lvm_session.specs.declared.open.Open.{Open}
use Rattle.lvm_session.specs.declared.open.Power.{Power}
use Rattle.lvm_session.specs.declared.open.Power.TheVariants as power
use Rattle.lvm_session.specs.State.{Core, State, state}
use Rattle.lvm_session.specs.Judging.{copies_in, group_of, is_missing, is_waiting, is_wanted_stale}
use Rattle.lvm_session.specs.Bringing.{has_row, step_row}
use Rattle.lvm_session.specs.Calls.{TakeAt, TakesLanded, is_asked}
use Rattle.lvm_session.specs.declared.answers.Taken.{Taken}
use Rattle.lvm_session.specs.Left.{clean_volumes, marks_later}
use Rattle.lvm_keeps.proofs.LeftLemmas.Updates.{open_at, open_most}
use Rattle.lvm_session.specs.Owners.{AreOwned, IsDataOf, flies, target_flies}
use Rattle.lvm_session.specs.Requests.{IsLanded, IsOpenOne}
use Rattle.lvm_session.specs.Causes.{AreCaused, AreCounted, IsAnswered, IsCaused, IsChosenSince, IsCausedAmong, IsCounted, IsLandedFor, fails_on, is_held_stale, is_over}
use Rattle.lvm_session.specs.Sound.{IsAsked, IsCopy, IsFitting, IsGoing, IsOn, IsSound, IsTold, IsUnbegun, count_if, is_hand, out_with, pins, with_row}
use Rattle.lvm_keeps.specs.Keeps.{TakeKeeps}
use Rattle.lvm_keeps.proofs.SoundLemmas.Fitting.{still_fits}
use Rattle.lvm_keeps.proofs.Lists.{all_removed, any_removed, count_removed, get_removed, length_removed}
use Rattle.lvm_keeps.proofs.OwnersLemmas.Rows.{all_fly, rows_on}
use Rattle.lvm_keeps.proofs.RequestsLemmas.{moved, open_on, bring_on, landed_on, counted_on, origin_on, copy_on, if_on}
use Rattle.lvm_keeps.proofs.DarkLemmas.Tables.{apart, ascending_removed, none_named, rows_removed}
use Rattle.lvm_keeps.proofs.SoundLemmas.Telling.{asked_still, count_still, open_still, told_more}

none_flies : (targets : List Target) (target : ℕ) → list_any (λ (t : Target). is_flying t.state) targets ≡ false → option_map_or (λ (t : Target). is_flying t.state) (slice_get targets target) false ≡ false
none_flies [] target none = refl
none_flies (t ∷ ts) zero none = first (is_flying t.state) none
  where
    first : (b : Bool) → b || list_any (λ (u : Target). is_flying u.state) ts ≡ false → b ≡ false
    first true is = is
    first false is = refl
none_flies (t ∷ ts) (suc target) none = none_flies ts target (rest (is_flying t.state) none)
  where
    rest : (b : Bool) → b || list_any (λ (u : Target). is_flying u.state) ts ≡ false → list_any (λ (u : Target). is_flying u.state) ts ≡ false
    rest true is = absurd (not_so (sym is))
    rest false is = is

module _ (s : State) (sound : IsSound s) (place : ℕ) (o : Open) (there : slice_get s.core.requests place ≡ Some o) (over : is_waiting o ≡ false) where
  abbrev core : Core
  core = s.core

  abbrev fact : Fact
  fact = taken_fact core.history.facts o.request.id

  abbrev left : List Open
  left = remove core.requests place

  abbrev now : State
  now = moved s (with_fact core.history fact) left core.queue core.copy core.pool core.flying core.cache.entries core.last

  asked_so : IsAsked core.history.facts o
  asked_so = all_at (IsAsked core.history.facts) core.requests place o sound.told.requests there

  follows : Follows core.history.run core.history.facts fact × ((request_of core.history.facts o.request.id).client ≡ o.request.client) × ((request_of core.history.facts o.request.id).id ≡ o.request.id)
  follows = follows_taken core.history.facts core.history.run o.request.client o.request.id (asked_so.answered over)

  -- it has landed, and has nothing
  landed : IsLanded o
  landed = by s.core.power refl
    where
      by : (p : Power) → s.core.power ≡ p → IsLanded o
      by power.On e = (all_at (IsOpenOne core) core.requests place o (sound.on e).going.requests there).over over
      by power.Off e = all_at IsLanded core.requests place o (sound.over (ap is_over e)).landed there
      by power.Dark e = all_at IsLanded core.requests place o (sound.over (ap is_over e)).landed there
      by power.Stuck e = (all_at IsUnbegun core.requests place o (sound.stuck e).requests there).over over

  no_hand : (n : ℕ) → is_hand n o.got ≡ false
  no_hand n = ap (is_hand n) landed.hand

  fitting : IsFitting now.core
  fitting = let f = sound.fitting in let fewer = length_removed core.requests place in let table = f.table in still_fits core now.core f refl f.entries (λ disk. refl) (omega (arith, fewer, table)) refl f.room

  -- the others are told of as before
  others : AllByRecursion (λ (x : Open). x.request.id ≡ o.request.id → ⊥) left
  others = apart core.requests place o there sound.told.table.ascending

  asked_on : (x : Open) → (x.request.id ≡ o.request.id → ⊥) → IsAsked core.history.facts x → IsAsked now.core.history.facts x
  asked_on x other a = told_more core.history.facts fact refl x refl (eqb-not other) a
    where
      eqb-not : (x.request.id ≡ o.request.id → ⊥) → ((request_of core.history.facts o.request.id).id == x.request.id) ≡ false
      eqb-not apart_from = ne_eqb (request_of core.history.facts o.request.id).id x.request.id (λ e. apart_from (sym e ∙ follows.2))

  both_on : (xs : List Open) → AllByRecursion (λ (x : Open). x.request.id ≡ o.request.id → ⊥) xs → AllByRecursion (IsAsked core.history.facts) xs → AllByRecursion (IsAsked now.core.history.facts) xs
  both_on [] apart_all all = tt
  both_on (x ∷ xs) apart_all all = (asked_on x apart_all.0 all.0, both_on xs apart_all.1 all.1)

  told : IsTold now.core
  told = let t = sound.told in record {
    ordered = ordered-push core.history.run [] core.history.facts fact t.ordered follows.0;
    table = record {
      ascending = ascending_removed core.requests place t.table.ascending;
      still = all_weaker Still StillNow (λ x is waiting. open_still core.history.facts fact refl x.request.id refl ∙ is waiting) left (all_removed Still core.requests place t.table.still);
    };
    each = λ id. open_still core.history.facts fact refl id refl ∙ t.each id ∙ sym (any_removed (λ (x : Open). is_waiting x && x.request.id == id) core.requests place o there (ap (λ b. b && o.request.id == id) over));
    requests = both_on left others (all_removed (IsAsked core.history.facts) core.requests place t.requests);
  }
    where
      Still : Open → Type 0
      Still x = is_waiting x ≡ true → is_open core.history.facts x.request.id ≡ true

      StillNow : Open → Type 0
      StillNow x = is_waiting x ≡ true → is_open now.core.history.facts x.request.id ≡ true

  hands : (n : ℕ) → count_by (λ (x : Open). is_hand n x.got) left ≡ count_by (λ (x : Open). is_hand n x.got) core.requests
  hands n = count_removed (λ (x : Open). is_hand n x.got) core.requests place o there (no_hand n)

  -- ---- while it is on

  module _ (on : s.core.power ≡ power.On) where
    going : IsGoing core
    going = (sound.on on).going

    unflown : (target : ℕ) → target_flies target o ≡ false
    unflown target = none_flies o.request.targets.items target ((all_at (IsOpenOne core) core.requests place o going.requests there).still over)

    same_data : (id target : ℕ) → flies now.core (owner.Data id target) ≡ flies core (owner.Data id target)
    same_data id target = any_removed (λ (x : Open). x.request.id == id && target_flies target x) core.requests place o there (ap (λ b. o.request.id == id && b) (unflown target) ∙ and_false (o.request.id == id))

    owned : AreOwned now.core
    owned (owner.Data id target) = going.owned (owner.Data id target) ∙ ap count_if (sym (same_data id target))
    owned (owner.Status disk) = going.owned (owner.Status disk)
    owned (owner.Note disk) = going.owned (owner.Note disk)
    owned owner.Copy = going.owned owner.Copy

    next_still : count_by (begins_in core.history.run) now.core.history.facts ≡ count_by (begins_in core.history.run) core.history.facts
    next_still = count_still core.history.run core.history.facts fact refl

    one : (x : Open) → IsOpenOne core x → IsOpenOne now.core x
    one x it = open_on core (with_fact core.history fact) left core.queue core.copy core.pool core.flying core.cache.entries core.last x (λ e. e) (λ p e. e) (λ ask. refl) it

    bring : (c : OpenCopy) → IsCopy core c → IsCopy now.core c
    bring c it = bring_on core (with_fact core.history fact) left core.queue core.copy core.pool core.flying core.cache.entries core.last c (let same = next_still in omega (arith, same)) (λ e. e) it

    keeps_going : IsGoing now.core
    keeps_going = record {
      fitting = fitting;
      told = told;
      status = going.status;
      owned = owned;
      tickets = going.tickets;
      queue = going.queue ∙ ap (λ rows. option_map_or (λ (c : OpenCopy). if has_row core c then with_row (step_row core c) rows else rows) core.copy rows) (sym (rows_removed core.requests place o there over));
      pinned = λ lv group. going.pinned lv group ∙ sym (count_removed (pins lv group) core.requests place o there (ap (λ b. b && lv_of o.request.ask == lv && group_of o.request.ask == group) landed.pinned));
      requests = all_weaker (IsOpenOne core) (IsOpenOne now.core) one left (all_removed (IsOpenOne core) core.requests place going.requests);
      copy = if_on (IsCopy core) (IsCopy now.core) bring core.copy going.copy;
      hands = λ n. let same = hands n in let was = going.hands n in omega (arith, same, was);
      behind = going.behind;
      reviewed = going.reviewed;
      fresh = going.fresh;
      clearings = going.clearings;
      numbers =
          let same = count_removed marks_later core.requests place o there (ap (λ b. b && is_write o.request.ask && not (is_begun o.request.targets.items && are_over o.request.targets.items)) over) in
          let all_open = open_at core.requests place o (clean_volumes core) there in
          let most_open = open_most left (clean_volumes core) in
          let was = going.numbers in
          omega (arith, same, all_open, most_open, was);
    }

    data_on : (id target : ℕ) (f : Flight) → flies core (owner.Data id target) ≡ true → IsDataOf core id target f → IsDataOf now.core id target f
    data_on id target f fly of = by (of.place == place) refl
      where
        still_there : list_any (λ (x : Open). x.request.id == id && target_flies target x) left ≡ true
        still_there = same_data id target ∙ fly

        by : (b : Bool) → (of.place == place) ≡ b → IsDataOf now.core id target f
        by true is =
            let same : o ≡ of.request = cc (sym there ∙ ap (slice_get core.requests) (sym (eqb-true of.place place is)) ∙ of.there) in
            let named : o.request.id ≡ id = ap (λ (x : Open). x.request.id) same ∙ of.own in
            none_named id (target_flies target) left (subst (λ n. AllByRecursion (λ (x : Open). x.request.id ≡ n → ⊥) left) named others) still_there
        by false is =
            let at = get_removed core.requests place of.place of.request (eqb-false of.place place is) of.there in
            let m = of.moves in
            record { place = at.0; request = of.request; there = at.1; own = of.own; aim = of.aim; aim_is = of.aim_is; moves = record { disk_is = m.disk_is; first = m.first; count = m.count; write = m.write; carries = λ write k below. m.carries write k below ∙ sym (ap (λ r. slice_get (unwrap_or r no_request).blocks k) (asked_still core.history.facts fact refl of.request.request.id)) } }

    blamed : (p : Pp) → list_any (fails_on p) left ≡ list_any (fails_on p) core.requests
    blamed p = any_removed (fails_on p) core.requests place o there (ap (λ b. b && is_write o.request.ask && list_any (λ (t : Target). is_failed t.state && is_pp p t.pp) o.request.targets.items) over)

    caused : (x : Open) → AreCaused s.device core x → AreCaused s.device now.core x
    caused x all waiting = all_weaker (IsCaused s.device core) (IsCaused s.device now.core) target_caused x.request.targets.items (all waiting)
      where
        target_caused : (t : Target) → IsCaused s.device core t → IsCaused s.device now.core t
        target_caused t why e = why (sym (ap (λ b. is_failed t.state || (t.usable && (is_missing core t.pp.disk || is_wanted_stale core t.pp || is_held_stale core t.pp || b))) (blamed t.pp)) ∙ e)

    keeps_on : IsOn now
    keeps_on = let was = sound.on on in record {
      going = keeps_going;
      rows = rows_on core (with_fact core.history fact) left core.queue core.pool core.flying core.cache.entries core.last data_on core.flying s.device.flights (all_fly core going.owned) was.rows;
      caused = all_weaker (AreCaused s.device core) (AreCaused s.device now.core) caused left (all_removed (AreCaused s.device core) core.requests place was.caused);
      chosen = if_on (λ (c : OpenCopy). AllByRecursion (IsChosenSince core c) core.requests) (λ (c : OpenCopy). AllByRecursion (IsChosenSince now.core c) left) (λ c all. all_removed (IsChosenSince core c) core.requests place all) core.copy was.chosen;
    }

  out : (n : ℕ) → out_with s.device now.core n ≡ out_with s.device core n
  out n = let same = hands n in omega (arith, same)

  answered : (x : Open) → IsAnswered s x → IsAnswered now x
  answered x why = if_on (IsLandedFor s x) (IsLandedFor now x) (λ how. landed_on s (with_fact core.history fact) left core.queue core.copy core.pool core.flying core.cache.entries core.last x how) x.landed why

  counted : (x : Open) → AreCounted s x → AreCounted now x
  counted x all = all_weaker (IsCounted s) (IsCounted now) (counted_on s (with_fact core.history fact) left core.queue core.copy core.pool core.flying core.cache.entries core.last) x.request.targets.items all

  pub keeps : IsSound now
  keeps = record {
    fitting = fitting;
    told = told;
    placed = sound.placed;
    buffers = λ n. let same = out n in let was = sound.buffers n in omega (arith, same, was);
    none_lost = λ lit n. out n ∙ sound.none_lost lit n;
    on = keeps_on;
    lit = sound.lit;
    dark = sound.dark;
    off = sound.off;
    over = λ e. let was = sound.over e in record { landed = all_removed IsLanded core.requests place was.landed; copy = was.copy; flights = was.flights; flying = was.flying };
    stuck = λ e. let was = sound.stuck e in record { requests = all_removed IsUnbegun core.requests place was.requests; copy = was.copy };
    counted = all_weaker (AreCounted s) (AreCounted now) counted left (all_removed (AreCounted s) core.requests place sound.counted);
    answered = all_weaker (IsAnswered s) (IsAnswered now) answered left (all_removed (IsAnswered s) core.requests place sound.answered);
    copy = if_on (λ (c : OpenCopy). IsCausedAmong s (copies_in core.descriptor c.lv c.lp) c) (λ (c : OpenCopy). IsCausedAmong now (copies_in core.descriptor c.lv c.lp) c) (λ c. copy_on s (with_fact core.history fact) left core.queue core.copy core.pool core.flying core.cache.entries core.last (copies_in core.descriptor c.lv c.lp) c) core.copy sound.copy;
    origin = origin_on s (with_fact core.history fact) left core.queue core.copy core.pool core.flying core.cache.entries core.last sound.origin;
  }

-- it goes where it has landed, and else nothing changes
by_landing : (s : State) (new : Core) (place : ℕ) (o : Open) (gave : Taken) → IsSound s → slice_get s.core.requests place ≡ Some o → (m : Option Outcome) → o.landed ≡ m → TakesLanded s.core new place o gave m → IsSound (state s.device new)
by_landing s new place o gave sound there None is takes = subst (λ core. IsSound (state s.device core)) (sym takes.1) sound
by_landing s new place o gave sound there (Some how) is takes = subst (λ core. IsSound (state s.device core)) (sym takes.1) (keeps s sound place o there (ap is_none is))

by_place : (s : State) (new : Core) (gave : Taken) → IsSound s → (m : Option ℕ) → MatchOption m ((gave ≡ answer.Unknown) × (new ≡ s.core)) (λ (place : ℕ). TakeAt s.core new place gave) → IsSound (state s.device new)
by_place s new gave sound None gives = subst (λ core. IsSound (state s.device core)) (sym gives.1) sound
by_place s new gave sound (Some place) gives = by_landing s new place gives.0 gave sound gives.1 gives.0.landed refl gives.2

pub take_keeps : TakeKeeps
take_keeps s new client id gave sound gives = by_place s new gave sound (position (is_asked client id) s.core.requests) gives
