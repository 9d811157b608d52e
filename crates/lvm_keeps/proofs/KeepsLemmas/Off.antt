-- The votes are lost and nothing is out: the session is over.
use Rattle.std.proofs.Common.{◌≡◌, ◌≤◌, ◌⊎◌, inl, inr, ℕ, Bool, true, false, List, [], ◌∷◌, Option, Some, None, length, refl, sym, ◌∙◌, ap, subst, arith, if◌then◌else◌}
use Rattle.std.specs.Prelude.{IfSome, slice_index_or}
use Rattle.std.specs.List.{AllByRecursion}
use Rattle.std.specs.Option.{option_map}
use Rattle.std.proofs.lemmas.List.{length-map}
use Rattle.lvm_num.specs.declared.place.Pp.{Pp}
use Rattle.lvm_num.proofs.Booleans.{not_so}
use Rattle.lvm_num.proofs.Lists.{all_weaker}
use Rattle.lvm_vol.specs.declared.entry.Outcome.{Outcome}
use Rattle.lvm_vol.specs.declared.entry.Outcome.TheVariants as outcome
use Rattle.lvm_vol.specs.Facts.{Request}
use Rattle.lvm_vol.specs.Log.{got_without_bytes}
use Rattle.lvm_vol.specs.Order.{IsGotOf}
use Rattle.lvm_path.specs.Next.{with_landing}
use Rattle.lvm_session.specs.declared.bringing.OpenCopy.{OpenCopy}
use Rattle.lvm_session.specs.declared.flown.Flown.{Flown}
use Rattle.lvm_session.specs.declared.open.Open.{Open}
use Rattle.lvm_session.specs.declared.open.Power.TheVariants as power
use Rattle.lvm_session.specs.State.{Core, State, state}
use Rattle.lvm_session.specs.Judging.{copies_in, is_waiting}
use Rattle.lvm_session.specs.Bringing.{with_back}
use Rattle.lvm_session.specs.Enabled.{is_lost}
use Rattle.lvm_session.specs.Dark.{all_off, ended_as, ended_copy, hand_of_copy}
use Rattle.lvm_session.specs.Owners.{AreRows}
use Rattle.lvm_session.specs.Requests.{IsLanded, IsOpenOne}
use Rattle.lvm_session.specs.Causes.{AreCounted, HaveSourcesFailed, IsAnswered, IsCausedAmong, IsCounted, IsLandedFor, IsTrueToOrigin, is_over}
use Rattle.lvm_session.specs.Sound.{IsFitting, IsGoing, IsSound, IsTold, count_if, is_dark, is_hand, out_with}
use Rattle.lvm_keeps.specs.Keeps.{OffKeeps}
use Rattle.lvm_keeps.proofs.SoundLemmas.Fitting.{still_fits}
use Rattle.lvm_keeps.proofs.DarkLemmas.Ending.{back_long, copy_over, each_after, failed_before, hands_long, landed_ended, no_copy_hand, none_in_hand, ordered_after, pool_after, requests_after, table_after}
use Rattle.lvm_keeps.proofs.Lists.{all_mapped}
use Rattle.lvm_keeps.proofs.RequestsLemmas.{if_on}

none_flown : (core : Core) (rows : List Flown) → AreRows core rows [] → rows ≡ []
none_flown core [] all = refl
none_flown core (row ∷ rows) all = absurd all

got_none : (r : Request) → IsGotOf r outcome.Off (got_without_bytes r outcome.Off)
got_none r = refl

module _ (s : State) (sound : IsSound s) (on : s.core.power ≡ power.On) (lost : is_lost s.core ≡ true) (idle : s.device.flights ≡ []) where
  abbrev core : Core
  core = s.core

  abbrev now : State
  now = state s.device (all_off core)

  going : IsGoing core
  going = (sound.on on).going

  long : length now.core.pool ≡ length core.pool
  long = hands_long core.requests now_pool ∙ back_long core.pool (hand_of_copy core.copy)
    where
      now_pool : List Bool
      now_pool = with_back core.pool (hand_of_copy core.copy)

  fitting : IsFitting now.core
  fitting = let f = sound.fitting in still_fits core now.core f refl f.entries (λ disk. refl) (subst (λ n. n ≤ core.most) (sym (length-map core.requests (ended_as outcome.Off))) f.table) long f.room

  told : IsTold now.core
  told = let t = sound.told in record {
    ordered = ordered_after outcome.Off core.history.run got_none core.history.facts core.requests t.ordered t.table t.each t.requests;
    table = table_after outcome.Off core.history.run got_none core.history.facts core.requests t.ordered t.table t.each t.requests;
    each = each_after outcome.Off core.history.run got_none core.history.facts core.requests t.ordered t.table t.each t.requests;
    requests = requests_after outcome.Off core.history.run got_none core.history.facts core.requests t.ordered t.table t.each t.requests;
  }

  landed : AllByRecursion IsLanded now.core.requests
  landed = landed_ended outcome.Off core.requests (all_weaker (IsOpenOne core) (λ (o : Open). is_waiting o ≡ false → IsLanded o) (λ o it. it.over) core.requests going.requests)

  lit : is_dark core.power ≡ false
  lit = ap is_dark on

  out : (n : ℕ) → out_with s.device now.core n ≡ count_if (slice_index_or now.core.pool n false)
  out n =
      let was = sound.none_lost lit n in
      let back = pool_after core n (omega (arith, was)) in
      let none = none_in_hand now.core.requests n landed in
      let hand : count_if (is_hand n (hand_of_copy now.core.copy)) ≡ 0 = ap (λ h. count_if (is_hand n h)) (no_copy_hand core.copy) in
      omega (arith, was, back, none, hand)

  -- ---- why each landed so

  landed_on : (o : Open) (how : Outcome) → IsLandedFor s o how → IsLandedFor now o how
  landed_on o outcome.Done its = its
  landed_on o outcome.Got its = its
  landed_on o outcome.Lost its = its
  landed_on o outcome.ReadFailed its = its
  landed_on o outcome.NoFresh its = its
  landed_on o outcome.Off its = not_so (sym (ap is_over on) ∙ its.0)
  landed_on o outcome.Dark its = absurd (let e : power.On ≡ power.Dark = sym on ∙ its in cc)

  answered : (o : Open) → IsAnswered s o → IsAnswered now (ended_as outcome.Off o)
  answered o why = by (is_waiting o)
    where
      by : (b : Bool) → IsAnswered now (if b then record o { request = with_landing o.request; got = None; landed = Some outcome.Off } else o)
      by true = (refl, lost)
      by false = if_on (IsLandedFor s o) (IsLandedFor now o) (landed_on o) o.landed why

  counted : (o : Open) → AreCounted s o → AreCounted now (ended_as outcome.Off o)
  counted o all = by (is_waiting o)
    where
      same : AllByRecursion (IsCounted now) o.request.targets.items
      same = all_weaker (IsCounted s) (IsCounted now) (λ t its. record { began = its.began; since = its.since }) o.request.targets.items all

      by : (b : Bool) → AreCounted now (if b then record o { request = with_landing o.request; got = None; landed = Some outcome.Off } else o)
      by true = same
      by false = same

  copy_caused : (m : Option OpenCopy) → IfSome m (λ (c : OpenCopy). IsCausedAmong s (copies_in core.descriptor c.lv c.lp) c) → IfSome (option_map ended_copy m) (λ (c : OpenCopy). IsCausedAmong now (copies_in core.descriptor c.lv c.lp) c)
  copy_caused None its = tt
  copy_caused (Some c) its = record { began = its.began; since = its.since; tried = its.tried; own_began = its.own_began; own_since = its.own_since; failed = λ e. sources_on (its.failed (failed_before c.end e)) }
    where
      copies : List Pp
      copies = copies_in core.descriptor c.lv c.lp

      sources_on : {own : Type 0} → own ⊎ HaveSourcesFailed s copies c → own ⊎ HaveSourcesFailed now copies (ended_copy c)
      sources_on (inl own) = inl own
      sources_on (inr all) = inr (record { each = all.each; number = all.number; source = all.source; source_is = all.source_is; other = all.other; one = all.one })

  origin : IsTrueToOrigin now
  origin = let was = sound.origin in record { since = was.since; votes = was.votes; rows = was.rows; still_missing = was.still_missing; missing = was.missing; stale = was.stale }

  pub keeps : IsSound now
  keeps = record {
    fitting = fitting;
    told = told;
    placed = sound.placed;
    buffers = λ n. let same = out n in omega (arith, same);
    none_lost = λ e n. out n;
    on = λ e. absurd (let none : power.Off ≡ power.On = e in cc);
    lit = λ e. let was = sound.lit lit in record { power = was.power; freed = was.freed };
    dark = λ e. not_so e;
    off = λ e. lost;
    over = λ e. record { landed = landed; copy = copy_over core.copy; flights = idle; flying = none_flown core core.flying (subst (AreRows core core.flying) idle (sound.on on).rows) };
    stuck = λ e. absurd (let none : power.Off ≡ power.Stuck = e in cc);
    counted = all_mapped (AreCounted s) (AreCounted now) (ended_as outcome.Off) counted core.requests sound.counted;
    answered = all_mapped (IsAnswered s) (IsAnswered now) (ended_as outcome.Off) answered core.requests sound.answered;
    copy = copy_caused core.copy sound.copy;
    origin = origin;
  }

pub off_keeps : OffKeeps
off_keeps old new sound on event = subst IsSound (sym event.is) (keeps old sound on event.lost event.idle)
