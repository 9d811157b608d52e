-- The power is found off, or cut: the session is over.
use Rattle.std.proofs.Common.{◌≡◌, ◌≤◌, ◌<◌, ◌⊎◌, inl, inr, ◌+◌, ◌^◌, ℕ, Bool, true, false, ◌||◌, List, [], ◌∷◌, ◌++◌, Option, Some, None, length, map, refl, sym, ◌∙◌, ap, subst, arith, if◌then◌else◌}
use Rattle.std.specs.Prelude.{IfSome, count_by, unwrap_or}
use Rattle.std.specs.List.{AllByRecursion}
use Rattle.std.specs.Option.{option_map}
use Rattle.std.proofs.lemmas.List.{length-map}
use Rattle.lvm_num.specs.Buffer.{Buffer}
use Rattle.lvm_num.specs.declared.place.Pp.{Pp}
use Rattle.lvm_num.specs.Status.{calls_stale}
use Rattle.lvm_num.specs.declared.status.Status.{Status}
use Rattle.lvm_num.proofs.Booleans.{not_so, not_either}
use Rattle.lvm_num.proofs.Lists.{all_weaker}
use Rattle.lvm_session.specs.passed.Disk.{Device, Flight, Media, GoesDark}
use Rattle.lvm_session.specs.passed.Status.{Stored}
use Rattle.lvm_vol.specs.declared.entry.Outcome.{Outcome}
use Rattle.lvm_vol.specs.declared.entry.Outcome.TheVariants as outcome
use Rattle.lvm_vol.specs.Facts.{Cut, Request}
use Rattle.lvm_vol.specs.Log.{Log, cut_log, got_without_bytes, is_open, is_uncut, with_fact}
use Rattle.lvm_vol.specs.Order.{IsGotOf}
use Rattle.lvm_vol.proofs.FactsLemmas.Order.{ordered-push}
use Rattle.lvm_mwc.specs.Cache.{Cached, has_disk}
use Rattle.lvm_path.specs.Next.{with_landing}
use Rattle.lvm_session.specs.declared.bringing.OpenCopy.{OpenCopy}
use Rattle.lvm_session.specs.declared.open.Open.{Open}
use Rattle.lvm_session.specs.declared.open.Power.{Power}
use Rattle.lvm_session.specs.declared.open.Power.TheVariants as power
use Rattle.lvm_session.specs.State.{Core, State, state}
use Rattle.lvm_session.specs.Bringing.{with_back}
use Rattle.lvm_session.specs.Judging.{copies_in, is_stale, is_waiting, is_wanted_stale}
use Rattle.lvm_session.specs.Dark.{all_dark, ended_as, ended_copy, hand_of_copy}
use Rattle.lvm_session.specs.Turns.{SaysTheSame}
use Rattle.lvm_session.specs.Requests.{IsLanded, IsOpenOne}
use Rattle.lvm_session.specs.Causes.{AreCounted, HaveSourcesFailed, IsAnswered, IsCausedAmong, IsCounted, IsLandedFor, IsTrueToOrigin, is_held_stale, is_over}
use Rattle.lvm_session.specs.Sound.{IsAsked, IsFitting, IsSound, IsTold, IsUnbegun, count_if, has_number, is_dark, is_hand}
use Rattle.lvm_keeps.specs.Keeps.{CutKeeps}
use Rattle.lvm_keeps.proofs.SoundLemmas.Fitting.{still_fits}
use Rattle.lvm_keeps.proofs.DarkLemmas.Ending.{back_long, copy_over, each_after, failed_before, hands_long, landed_ended, no_copy_hand, none_in_hand, ordered_after, pool_after, requests_after, table_after}
use Rattle.lvm_keeps.proofs.Lists.{all_mapped, count_cons}
use Rattle.lvm_keeps.proofs.RequestsLemmas.{if_on}
use Rattle.lvm_keeps.proofs.SoundLemmas.Telling.{open_still, told_more}

-- ---- the entry of the cut

cut_room : (log : Log) → (cut_log log).room ≡ log.room
cut_room log = by (is_uncut log.facts)
  where
    by : (b : Bool) → (if b then with_fact log Cut else log).room ≡ log.room
    by true = refl
    by false = refl

cut_told : (core : Core) → IsTold core → IsTold (record core { history = cut_log core.history })
cut_told core t = by (is_uncut core.history.facts)
  where
    asked_on : (o : Open) → IsAsked core.history.facts o → IsAsked (core.history.facts ++ Cut ∷ []) o
    asked_on o a = told_more core.history.facts Cut refl o refl refl a

    by : (b : Bool) → IsTold (record core { history = if b then with_fact core.history Cut else core.history })
    by false = record { ordered = t.ordered; table = t.table; each = t.each; requests = t.requests }
    by true = record {
      ordered = ordered-push core.history.run [] core.history.facts Cut t.ordered tt;
      table = record {
        ascending = t.table.ascending;
        still = all_weaker (λ (o : Open). is_waiting o ≡ true → is_open core.history.facts o.request.id ≡ true) (λ (o : Open). is_waiting o ≡ true → is_open (core.history.facts ++ Cut ∷ []) o.request.id ≡ true)
            (λ o is waiting. open_still core.history.facts Cut refl o.request.id refl ∙ is waiting) core.requests t.table.still;
      };
      each = λ id. open_still core.history.facts Cut refl id refl ∙ t.each id;
      requests = all_weaker (IsAsked core.history.facts) (IsAsked (core.history.facts ++ Cut ∷ [])) asked_on core.requests t.requests;
    }

-- ---- what was out is given up

given_up : (n : ℕ) (buffers : List Buffer) (flights : List Flight) → count_by (has_number n) (buffers ++ map (λ (f : Flight). f.buf) flights) ≡ count_by (has_number n) buffers + count_by (λ (f : Flight). has_number n f.buf) flights
given_up n [] [] = refl
given_up n [] (f ∷ flights) =
    let one = count_cons (has_number n) f.buf (map (λ (g : Flight). g.buf) flights) in
    let same = count_cons (λ (g : Flight). has_number n g.buf) f flights in
    let rest = given_up n [] flights in
    omega (arith, one, same, rest)
given_up n (b ∷ buffers) flights =
    let one = count_cons (has_number n) b (buffers ++ map (λ (g : Flight). g.buf) flights) in
    let same = count_cons (has_number n) b buffers in
    let rest = given_up n buffers flights in
    omega (arith, one, same, rest)

-- ---- all of it

got_none : (r : Request) → IsGotOf r outcome.Dark (got_without_bytes r outcome.Dark)
got_none r = refl

module _ (s : State) (sound : IsSound s) where
  abbrev core : Core
  core = s.core

  -- the shelf once it is dark
  abbrev dark_device : Option Media → List Buffer → ℕ → Device
  dark_device media freed cuts = record s.device { media = media; flights = []; freed = freed; power = false; counts = record s.device.counts { cuts = cuts } }

  was_over : AllByRecursion (λ (o : Open). is_waiting o ≡ false → IsLanded o) core.requests
  was_over = by core.power refl
    where
      by : (p : Power) → core.power ≡ p → AllByRecursion (λ (o : Open). is_waiting o ≡ false → IsLanded o) core.requests
      by power.On e = all_weaker (IsOpenOne core) (λ (o : Open). is_waiting o ≡ false → IsLanded o) (λ o it. it.over) core.requests (sound.on e).going.requests
      by power.Off e = all_weaker IsLanded (λ (o : Open). is_waiting o ≡ false → IsLanded o) (λ o it none. it) core.requests (sound.over (ap is_over e)).landed
      by power.Dark e = all_weaker IsLanded (λ (o : Open). is_waiting o ≡ false → IsLanded o) (λ o it none. it) core.requests (sound.over (ap is_over e)).landed
      by power.Stuck e = all_weaker IsUnbegun (λ (o : Open). is_waiting o ≡ false → IsLanded o) (λ o it. it.over) core.requests (sound.stuck e).requests

  module _ (media : Option Media) (freed : List Buffer) (cuts : ℕ)
      (given : (n : ℕ) → count_by (has_number n) freed ≡ count_by (has_number n) s.device.freed + count_by (λ (f : Flight). has_number n f.buf) s.device.flights)
      (status : Stored) (same : SaysTheSame core.status status) (cache : Cached) (entries : cache.entries ≡ core.cache.entries) (notes : (disk : ℕ) → has_disk cache disk ≡ has_disk core.cache disk) where
    -- only these have changed
    abbrev its_status : Stored
    its_status = record core.status { in_flight = status.in_flight; writes = status.writes; stamp = status.stamp }

    abbrev its_cache : Cached
    its_cache = record cache { entries = core.cache.entries }

    abbrev now : State
    now = state (dark_device media freed cuts) (all_dark (record core { status = its_status; cache = its_cache }))

    long : length now.core.pool ≡ length core.pool
    long = hands_long core.requests (with_back core.pool (hand_of_copy core.copy)) ∙ back_long core.pool (hand_of_copy core.copy)

    fitting : IsFitting now.core
    fitting = let f = sound.fitting in still_fits core now.core f refl f.entries notes (subst (λ n. n ≤ core.most) (sym (length-map core.requests (ended_as outcome.Dark))) f.table) long (subst (λ n. n < 2 ^ 32) (sym (cut_room core.history)) f.room)

    told : IsTold now.core
    told = let t = cut_told core sound.told in record {
      ordered = ordered_after outcome.Dark (cut_log core.history).run got_none (cut_log core.history).facts core.requests t.ordered t.table t.each t.requests;
      table = table_after outcome.Dark (cut_log core.history).run got_none (cut_log core.history).facts core.requests t.ordered t.table t.each t.requests;
      each = each_after outcome.Dark (cut_log core.history).run got_none (cut_log core.history).facts core.requests t.ordered t.table t.each t.requests;
      requests = requests_after outcome.Dark (cut_log core.history).run got_none (cut_log core.history).facts core.requests t.ordered t.table t.each t.requests;
    }

    landed : AllByRecursion IsLanded now.core.requests
    landed = landed_ended outcome.Dark core.requests was_over

    -- ---- why each landed so

    landed_on : (o : Open) (how : Outcome) → IsLandedFor s o how → IsLandedFor now o how
    landed_on o outcome.Done its = its
    landed_on o outcome.Got its = its
    landed_on o outcome.Lost its = its
    landed_on o outcome.ReadFailed its = its
    landed_on o outcome.NoFresh its = its
    landed_on o outcome.Off its = (refl, its.1)
    landed_on o outcome.Dark its = refl

    answered : (o : Open) → IsAnswered s o → IsAnswered now (ended_as outcome.Dark o)
    answered o why = by (is_waiting o)
      where
        by : (b : Bool) → IsAnswered now (if b then record o { request = with_landing o.request; got = None; landed = Some outcome.Dark } else o)
        by true = refl
        by false = if_on (IsLandedFor s o) (IsLandedFor now o) (landed_on o) o.landed why

    counted : (o : Open) → AreCounted s o → AreCounted now (ended_as outcome.Dark o)
    counted o all = by (is_waiting o)
      where
        each : AllByRecursion (IsCounted now) o.request.targets.items
        each = all_weaker (IsCounted s) (IsCounted now) (λ t its. record { began = its.began; since = its.since }) o.request.targets.items all

        by : (b : Bool) → AreCounted now (if b then record o { request = with_landing o.request; got = None; landed = Some outcome.Dark } else o)
        by true = each
        by false = each

    copy_caused : (m : Option OpenCopy) → IfSome m (λ (c : OpenCopy). IsCausedAmong s (copies_in core.descriptor c.lv c.lp) c) → IfSome (option_map ended_copy m) (λ (c : OpenCopy). IsCausedAmong now (copies_in core.descriptor c.lv c.lp) c)
    copy_caused None its = tt
    copy_caused (Some c) its = record { began = its.began; since = its.since; tried = its.tried; own_began = its.own_began; own_since = its.own_since; failed = λ e. sources_on (its.failed (failed_before c.end e)) }
      where
        sources_on : {own : Type 0} → own ⊎ HaveSourcesFailed s (copies_in core.descriptor c.lv c.lp) c → own ⊎ HaveSourcesFailed now (copies_in core.descriptor c.lv c.lp) (ended_copy c)
        sources_on (inl own) = inl own
        sources_on (inr all) = inr (record { each = all.each; number = all.number; source = all.source; source_is = all.source_is; other = all.other; one = all.one })

    -- what is in flight was so, or was wanted
    stale_before : (p : Pp) → is_held_stale now.core p || is_wanted_stale now.core p ≡ true → is_held_stale core p || is_wanted_stale core p ≡ true
    stale_before p is = by (is_stale core p) same.in_flight is
      where
        either : (a x b : Bool) → (a || b) || b ≡ true → (a || x) || b ≡ true
        either true x b e = refl
        either false true b e = refl
        either false false true e = refl
        either false false false e = e

        by : (a : Bool) → (status.in_flight ≡ core.status.in_flight) ⊎ ((core.status.in_flight ≡ None) × (status.in_flight ≡ Some core.status.wanted))
            → (a || calls_stale (unwrap_or status.in_flight core.status.committed) p) || is_wanted_stale core p ≡ true → (a || calls_stale (unwrap_or core.status.in_flight core.status.committed) p) || is_wanted_stale core p ≡ true
        by a (inl e) is_so = sym (ap (λ (m : Option Status). (a || calls_stale (unwrap_or m core.status.committed) p) || is_wanted_stale core p) e) ∙ is_so
        by a (inr new) is_so = either a (calls_stale (unwrap_or core.status.in_flight core.status.committed) p) (is_wanted_stale core p)
            (sym (ap (λ (m : Option Status). (a || calls_stale (unwrap_or m core.status.committed) p) || is_wanted_stale core p) new.1) ∙ is_so)

    origin : IsTrueToOrigin now
    origin = let was = sound.origin in record { since = was.since; votes = was.votes; rows = was.rows; still_missing = was.still_missing; missing = was.missing; stale = λ p is. was.stale p (stale_before p is) }

    keeps : IsSound now
    keeps = record {
      fitting = fitting;
      told = told;
      placed = sound.placed;
      buffers = λ n.
          let was = sound.buffers n in
          let back = pool_after core n (omega (arith, was)) in
          let none = none_in_hand now.core.requests n landed in
          let hand : count_if (is_hand n (hand_of_copy now.core.copy)) ≡ 0 = ap (λ h. count_if (is_hand n h)) (no_copy_hand core.copy) in
          let more = given n in
          omega (arith, was, back, none, hand, more);
      none_lost = λ e. not_either e;
      on = λ e. absurd (let none : power.Dark ≡ power.On = e in cc);
      lit = λ e. not_either e;
      dark = λ e. record { power = refl; flights = refl };
      off = λ e. absurd (let none : power.Dark ≡ power.Off = e in cc);
      over = λ e. record { landed = landed; copy = copy_over core.copy; flights = refl; flying = refl };
      stuck = λ e. absurd (let none : power.Dark ≡ power.Stuck = e in cc);
      counted = all_mapped (AreCounted s) (AreCounted now) (ended_as outcome.Dark) counted core.requests sound.counted;
      answered = all_mapped (IsAnswered s) (IsAnswered now) (ended_as outcome.Dark) answered core.requests sound.answered;
      copy = copy_caused core.copy sound.copy;
      origin = origin;
    }

    status_is : status ≡ its_status
    status_is =
        ap (λ g. record status { group = g }) same.group ∙ ap (λ c. record status { group = core.status.group; committed = c }) same.committed
        ∙ ap (λ w. record status { group = core.status.group; committed = core.status.committed; wanted = w }) same.wanted

    cache_is : cache ≡ its_cache
    cache_is = ap (λ es. record cache { entries = es }) entries

    pub keeps_so : IsSound (state (dark_device media freed cuts) (all_dark (record core { status = status; cache = cache })))
    keeps_so = subst (λ (st : Stored). IsSound (state (dark_device media freed cuts) (all_dark (record core { status = st; cache = cache })))) (sym status_is)
        (subst (λ (c : Cached). IsSound (state (dark_device media freed cuts) (all_dark (record core { status = its_status; cache = c })))) (sym cache_is) keeps)

  -- where the power was off already, nothing was out
  none_out : s.device.power ≡ false → s.device.flights ≡ []
  none_out off = by (is_dark core.power) refl
    where
      by : (b : Bool) → is_dark core.power ≡ b → s.device.flights ≡ []
      by true e = (sound.dark e).flights
      by false e = not_so (sym off ∙ (sound.lit e).power)

  module _ (status : Stored) (same : SaysTheSame core.status status) (cache : Cached) (entries : cache.entries ≡ core.cache.entries) (notes : (disk : ℕ) → has_disk cache disk ≡ has_disk core.cache disk) where
    abbrev after : Core
    after = all_dark (record core { status = status; cache = cache })

    pub darkens : (device : Device) → GoesDark s.device device → IsSound (state device after)
    darkens device (inl was) =
        let idle = none_out was.0 in
        let is : s.device ≡ dark_device s.device.media s.device.freed s.device.counts.cuts = ap (λ (fs : List Flight). record s.device { flights = fs }) idle ∙ ap (λ p. record s.device { flights = []; power = p }) was.0 in
        subst (λ (d : Device). IsSound (state d after)) (sym (was.1 ∙ is))
        (keeps_so s.device.media s.device.freed s.device.counts.cuts
        (λ n. let none : count_by (λ (f : Flight). has_number n f.buf) s.device.flights ≡ 0 = ap (count_by (λ (f : Flight). has_number n f.buf)) idle in omega (arith, none)) status same cache entries notes)
    darkens device (inr cut) =
        subst (λ (d : Device). IsSound (state d after)) (sym cut.new_is)
        (keeps_so device.media (s.device.freed ++ map (λ (f : Flight). f.buf) s.device.flights) device.counts.cuts (λ n. given_up n s.device.freed s.device.flights) status same cache entries notes)

pub cut_keeps : CutKeeps
cut_keeps old new sound on event =
    subst (λ (core : Core). IsSound (state new.device core)) (sym event.is) (darkens old sound new.core.status event.status new.core.cache event.entries event.notes new.device event.device)
