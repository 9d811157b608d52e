-- A session as it begins.
use Rattle.std.proofs.Common.{◌≡◌, ◌==◌, if◌then◌else◌, inl, ℕ, ◌+◌, Bool, true, false, ◌&&◌, ◌||◌, not, List, [], Option, None, length, refl, sym, ◌∙◌, ap, subst, arith}
use Rattle.std.specs.Prelude.{count_by, is_some, slice_index_or, unwrap_or}
use Rattle.std.specs.List.{list_any, AllByRecursion}
use Rattle.std.specs.Option.{option_map_or}
use Rattle.lvm_num.specs.declared.place.Pp.{Pp}
use Rattle.lvm_num.specs.declared.status.Status.{Status}
use Rattle.lvm_num.specs.Status.{calls_stale, calls_missing}
use Rattle.lvm_num.proofs.Booleans.{not_so}
use Rattle.lvm_num.proofs.Lists.{none_out, all_of_none, if_none, any_as}
use Rattle.lvm_session.specs.passed.Disk.{Flight}
use Rattle.lvm_session.specs.passed.Status.{HasItsRows}
use Rattle.lvm_mwc.specs.Entries.{pins_of}
use Rattle.lvm_mwc.specs.declared.entries.CacheEntry.{CacheEntry}
use Rattle.lvm_session.specs.declared.bringing.OpenCopy.{OpenCopy}
use Rattle.lvm_session.specs.declared.flown.Flown.{Flown}
use Rattle.lvm_session.specs.declared.flown.Owner.TheVariants as owner
use Rattle.lvm_session.specs.declared.open.Open.{Open}
use Rattle.lvm_session.specs.declared.open.Power.TheVariants as power
use Rattle.lvm_session.specs.State.{Core, State}
use Rattle.lvm_session.specs.Judging.{copies_in, is_stale, is_wanted_stale}
use Rattle.lvm_session.specs.Bringing.{end_of, has_row, is_out, step_row}
use Rattle.lvm_session.specs.Dark.{AreTold, hand_of_copy}
use Rattle.lvm_session.specs.Owners.{AreOwned, AreRows, HaveTickets, same_owner, target_flies}
use Rattle.lvm_session.specs.Requests.{IsOpenOne}
use Rattle.lvm_session.specs.Causes.{AreCaused, AreCounted, IsAnswered, IsChosenSince, IsCausedAmong, is_held_stale, is_over}
use Rattle.lvm_session.specs.Sound.{IsAsked, IsCopy, IsGoing, IsOn, IsSound, IsTold, count_if, hands_with, is_dark, is_hand, may_be_fresh, out_with, pins, stays_fresh, waiting_rows, waits, with_row, has_number}
use Rattle.lvm_keeps.specs.Begins.{SessionBegins, BeginningIsSound}

-- ---- what holds of nothing

module _ (s : State) (first : SessionBegins s) where
  abbrev core : Core
  core = s.core

  stale_as : (p : Pp) → is_stale core p ≡ calls_stale core.origin.table p
  stale_as p = ap (λ (t : Status). calls_stale t p) first.calm.committed

  wanted_as : (p : Pp) → is_wanted_stale core p ≡ calls_stale core.origin.table p
  wanted_as p = ap (λ (t : Status). calls_stale t p) first.calm.wanted

  flies_as : (p : Pp) → calls_stale (unwrap_or core.status.in_flight core.status.committed) p ≡ calls_stale core.origin.table p
  flies_as p = ap (λ (m : Option Status). calls_stale (unwrap_or m core.status.committed) p) first.calm.in_flight ∙ stale_as p

  held_as : (p : Pp) → is_held_stale core p ≡ calls_stale core.origin.table p
  held_as p = ap (λ b. b || calls_stale (unwrap_or core.status.in_flight core.status.committed) p) (stale_as p) ∙ ap (λ b. calls_stale core.origin.table p || b) (flies_as p) ∙ twice (calls_stale core.origin.table p)
    where
      twice : (b : Bool) → b || b ≡ b
      twice true = refl
      twice false = refl

  fresh_as : (p : Pp) → may_be_fresh core p ≡ stays_fresh core p
  fresh_as p =
      ap (λ b. not (calls_stale core.origin.table p) || not (b && calls_stale (unwrap_or core.status.in_flight core.status.committed) p && is_wanted_stale core p)) (stale_as p)
      ∙ ap (λ b. not (calls_stale core.origin.table p) || not (calls_stale core.origin.table p && b && is_wanted_stale core p)) (flies_as p)
      ∙ ap (λ b. not (calls_stale core.origin.table p) || not (calls_stale core.origin.table p && calls_stale core.origin.table p && b)) (wanted_as p)
      ∙ by (calls_stale core.origin.table p)
      ∙ sym (ap (λ b. not b && not (is_wanted_stale core p)) (held_as p) ∙ ap (λ b. not (calls_stale core.origin.table p) && not b) (wanted_as p))
    where
      by : (b : Bool) → not b || not (b && b && b) ≡ not b && not b
      by true = refl
      by false = refl

  -- ---- its parts

  told : IsTold core
  told = record {
    ordered = first.ordered;
    table = subst (AreTold core.history.facts) (sym first.unused.requests) (record { ascending = tt; still = tt });
    each = λ id. first.landed id ∙ sym (ap (λ (os : List Open). waits os id) first.unused.requests);
    requests = all_of_none (IsAsked core.history.facts) core.requests first.unused.requests;
  }

  none_fly : (t : Flown → Bool) → count_by t core.flying ≡ 0
  none_fly t = ap (count_by t) first.unused.flying

  of_copy : {A : Type 0} (f : OpenCopy → A) (none : A) → option_map_or f core.copy none ≡ none
  of_copy f none = ap (λ m. option_map_or f m none) first.unused.copy

  owned : AreOwned core
  owned (owner.Data id target) = none_fly (λ (f : Flown). same_owner (owner.Data id target) f.owner) ∙ sym (ap (λ (os : List Open). count_if (list_any (λ (o : Open). o.request.id == id && target_flies target o) os)) first.unused.requests)
  owned (owner.Status disk) = none_fly (λ (f : Flown). same_owner (owner.Status disk) f.owner) ∙ sym (ap count_if (first.unused.started disk))
  owned (owner.Note disk) = none_fly (λ (f : Flown). same_owner (owner.Note disk) f.owner) ∙ sym (ap (λ m. count_if (is_some m)) (first.unused.notes disk))
  owned owner.Copy = none_fly (λ (f : Flown). same_owner owner.Copy f.owner) ∙ sym (ap count_if (of_copy (λ (c : OpenCopy). is_out c.step) false))

  hands : (n : ℕ) → hands_with core n ≡ 0
  hands n = ap (λ (os : List Open). count_by (λ (o : Open). is_hand n o.got) os + count_if (is_hand n (hand_of_copy core.copy))) first.unused.requests ∙ ap (λ m. 0 + count_if (is_hand n (hand_of_copy m))) first.unused.copy

  free : (n : ℕ) → count_if (slice_index_or core.pool n false) ≡ 0
  free n = ap (λ (pool : List Bool). count_if (slice_index_or pool n false)) first.unused.pool ∙ ap count_if (none_out (length core.pool) n)

  out : (n : ℕ) → out_with s.device core n ≡ 0
  out n =
      ap (λ (fs : List Flight). count_by (λ (f : Flight). has_number n f.buf) fs + count_by (has_number n) s.device.freed + hands_with core n) first.idle
      ∙ ap (λ bs. 0 + count_by (has_number n) bs + hands_with core n) first.lit.freed
      ∙ ap (λ k. 0 + 0 + k) (hands n)

  going : IsGoing core
  going = record {
    fitting = first.fitting;
    told = told;
    status = first.calm.sound;
    owned = owned;
    tickets = subst HaveTickets (sym first.unused.flying) tt;
    queue = first.unused.rows ∙ sym (of_copy (λ (c : OpenCopy). if has_row core c then with_row (step_row core c) (waiting_rows core.requests) else waiting_rows core.requests) (waiting_rows core.requests) ∙ ap waiting_rows first.unused.requests);
    pinned = λ lv group. ap (λ (es : List CacheEntry). pins_of es lv group) first.unused.entries ∙ sym (ap (count_by (pins lv group)) first.unused.requests);
    requests = all_of_none (IsOpenOne core) core.requests first.unused.requests;
    copy = if_none (IsCopy core) core.copy first.unused.copy;
    hands = λ n. let none = hands n in omega (arith, none);
    behind = λ p is. not_so (sym (first.behind p) ∙ is);
    reviewed = of_copy (end_of core) None;
    fresh = λ lv lp some. sym (any_as (may_be_fresh core) (stays_fresh core) fresh_as (copies_in core.descriptor lv lp)) ∙ some;
    clearings = λ p held clear. not_so (sym clear ∙ wanted_as p ∙ sym (held_as p) ∙ held);
    numbers = first.numbers;
  }

  on : IsOn s
  on = record {
    going = going;
    rows = subst (λ (rows : List Flown). AreRows core rows s.device.flights) (sym first.unused.flying) (subst (AreRows core []) (sym first.idle) tt);
    caused = all_of_none (AreCaused s.device core) core.requests first.unused.requests;
    chosen = if_none (λ (c : OpenCopy). AllByRecursion (IsChosenSince core c) core.requests) core.copy first.unused.copy;
  }

  pub is_sound : IsSound s
  is_sound = record {
    fitting = first.fitting;
    told = told;
    placed = first.placed;
    buffers = λ n. let none = out n in omega (arith, none);
    none_lost = λ lit n. out n ∙ sym (free n);
    on = λ e. on;
    lit = λ e. first.lit;
    dark = λ e. not_so (sym (ap is_dark first.power) ∙ e);
    off = λ e. not_off (sym first.power ∙ e);
    over = λ e. not_so (sym (ap is_over first.power) ∙ e);
    stuck = λ e. not_stuck (sym first.power ∙ e);
    counted = all_of_none (AreCounted s) core.requests first.unused.requests;
    answered = all_of_none (IsAnswered s) core.requests first.unused.requests;
    copy = if_none (λ (c : OpenCopy). IsCausedAmong s (copies_in core.descriptor c.lv c.lp) c) core.copy first.unused.copy;
    origin = record {
      since = first.faults;
      votes = first.votes;
      rows = subst (HasItsRows core.descriptor) first.calm.wanted first.fitting.rows;
      still_missing = λ disk is. ap (λ (t : Status). calls_missing t disk) first.calm.wanted ∙ is;
      missing = λ disk is. inl (sym (ap (λ (t : Status). calls_missing t disk) first.calm.wanted) ∙ is);
      stale = λ p is. inl (by (is_held_stale core p) (is_wanted_stale core p) (calls_stale core.origin.table p) (held_as p) (wanted_as p) is);
    };
  }
    where
      not_off : {X : Type 0} → power.On ≡ power.Off → X
      not_off e = absurd cc

      not_stuck : {X : Type 0} → power.On ≡ power.Stuck → X
      not_stuck e = absurd cc

      by : (a b c : Bool) → a ≡ c → b ≡ c → a || b ≡ true → c ≡ true
      by true b c p q is = sym p
      by false true c p q is = sym q
      by false false c p q is = not_so is

pub beginning_is_sound : BeginningIsSound
beginning_is_sound s first = is_sound s first
