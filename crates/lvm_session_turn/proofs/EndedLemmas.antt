-- The request of a transfer that has ended, and what may be done of it.
use Rattle.std.proofs.Common.{◌≡◌, ◌<◌, ◌==◌, ℕ, zero, suc, Bool, true, false, List, [], ◌∷◌, Option, Some, None, get_or, length, slice_get, slice_set, if◌then◌else◌, refl, sym, ◌∙◌, ap, subst, arith}
use Rattle.std.specs.Prelude.{◌&&◌, ◌||◌, All, position}
use Rattle.std.specs.List.{AllByRecursion, list_any, position_or_len}
use Rattle.std.specs.Option.{option_map_or}
use Rattle.std.proofs.lemmas.Bool.{eqb-true}
use Rattle.std.proofs.lemmas.List.Elements.{All-cons, All-nil}
use Rattle.std.proofs.lemmas.List.Folds.{find_at}
use Rattle.std.proofs.lemmas.Option.{slice_get-get_or, slice_get_within}
use Rattle.lvm_num.specs.Buffer.{Buffer}
use Rattle.lvm_num.specs.Descriptor.{IsPartitionOf}
use Rattle.lvm_num.proofs.MarksLemmas.Maps.{find-Some}
use Rattle.lvm_num.proofs.Lists.{any_within}
use Rattle.lvm_sched.specs.declared.writes.TargetState.{TargetState}
use Rattle.lvm_sched.specs.Writes.{is_flying}
use Rattle.lvm_status.specs.Calls.{IsMarkable}
use Rattle.lvm_path.specs.declared.ask.Ask.{Ask}
use Rattle.lvm_path.specs.declared.target.Target.{Target}
use Rattle.lvm_path.specs.Asks.{lv_of}
use Rattle.lvm_path.specs.Targets.{end_state, with_state}
use Rattle.lvm_session.specs.declared.bringing.OpenCopy.{OpenCopy}
use Rattle.lvm_session.specs.declared.flown.Owner.TheVariants as owner
use Rattle.lvm_session.specs.declared.open.Open.{Open}
use Rattle.lvm_session.specs.State.{Core}
use Rattle.lvm_session.specs.Judging.{copies_for, is_waiting, lp_of}
use Rattle.lvm_session.specs.Bringing.{hand_of, with_back}
use Rattle.lvm_session.specs.Dark.{IsAscending}
use Rattle.lvm_session.specs.Ends.{after_data, given_back, keeps_buffer, learned}
use Rattle.lvm_moves.specs.passed.Session.{IsOutIf}
use Rattle.lvm_calls.specs.Due.{MayMark}
use Rattle.lvm_moves.proofs.passed.Due.{copies_in_are, at_place}
use Rattle.lvm_calls.specs.Ending.{CanEnd, MayEndCopy}
use Rattle.lvm_session.specs.Owners.{target_flies}
use Rattle.lvm_session.specs.Requests.{IsAimed, IsOpenOne, IsTarget}
use Rattle.lvm_session.proofs.MovesLemmas.{move_of, move_partition, open_one, place_open}
use Rattle.lvm_session_turn.proofs.Listing.{finds, some_there}
use Rattle.lvm_calls.proofs.BringingLemmas.{markable}
use Rattle.lvm_session_turn.specs.Ended.{TransferHasEnded, HasId}
use Rattle.lvm_session_turn.proofs.Ended.{among_all, by_copy, can_end, hand_back, hand_kept, left, right, was_out}

-- ---- the first of a number

pub has_id : (os : List Open) (id place : ℕ) → list_any (λ (o : Open). o.request.id == id) os ≡ true → position (λ (o : Open). o.request.id == id) os ≡ Some place → HasId os place id
has_id os id place any is =
    let t = λ (o : Open). o.request.id == id in
    let at : position_or_len t os ≡ place = (let e : ◌≡◌ {A = Option ℕ} (Some (position_or_len t os)) (Some place) = sym (finds t os any) ∙ is in cc e) in
    let within = any_within t os any in
    let it = some_there os place (omega (arith, within, at)) in
    let found = find_at t os ∙ ap (slice_get os) at ∙ it.1 in
    record { request = it.0; there = it.1; own = eqb-true it.0.request.id id (find-Some t os it.0 found).0 }

-- the one at a place that has the number
pub has_it : (os : List Open) (place id : ℕ) (d : Open) → place < length os → (get_or os place d).request.id ≡ id → HasId os place id
has_it os place id d within own = record { request = get_or os place d; there = slice_get-get_or os place d within; own = own }

pub never_none : (os : List Open) (id : ℕ) (found : Option ℕ) → list_any (λ (o : Open). o.request.id == id) os ≡ true → found ≡ position (λ (o : Open). o.request.id == id) os → found ≡ None → ⊥
never_none os id found any is none =
    let e : ◌≡◌ {A = Option ℕ} (Some (position_or_len (λ (o : Open). o.request.id == id) os)) None = sym (finds (λ (o : Open). o.request.id == id) os any) ∙ sym is ∙ none in
    cc e

-- ---- the one whose transfer was out

some_has_it : (id target : ℕ) (os : List Open) → list_any (λ (o : Open). o.request.id == id && target_flies target o) os ≡ true → list_any (λ (o : Open). o.request.id == id) os ≡ true
some_has_it id target [] any = absurd (cc any)
some_has_it id target (o ∷ os) any = by_tests (o.request.id == id) (target_flies target o) (some_has_it id target os) any
  where
    by_tests : (a b : Bool) → (list_any (λ (x : Open). x.request.id == id && target_flies target x) os ≡ true → list_any (λ (x : Open). x.request.id == id) os ≡ true)
        → ((a && b) || list_any (λ (x : Open). x.request.id == id && target_flies target x) os) ≡ true → (a || list_any (λ (x : Open). x.request.id == id) os) ≡ true
    by_tests true b rest any = refl
    by_tests false b rest any = rest any

abbrev flies_in : ℕ → ℕ → List Open → Bool
flies_in id target os = list_any (λ (o : Open). o.request.id == id && target_flies target o) os

none_above : (id target n : ℕ) (os : List Open) → n ≡ id → AllByRecursion (λ (later : Open). n < later.request.id) os → flies_in id target os ≡ true → ⊥
none_above id target n [] is above any = cc any
none_above id target n (o ∷ os) is above any = by_test (none_above id target n os is above.1) (o.request.id == id && target_flies target o) refl any
  where
    by_test : (flies_in id target os ≡ true → ⊥) → (b : Bool) → (o.request.id == id && target_flies target o) ≡ b → (b || flies_in id target os) ≡ true → ⊥
    by_test rest true its any = let same = eqb-true o.request.id id (left (o.request.id == id) (target_flies target o) its) in let less = above.0 in omega (arith, is, less, same)
    by_test rest false its any = rest any

its_flies : (id target : ℕ) (os : List Open) (k : ℕ) (o : Open) → IsAscending os → slice_get os k ≡ Some o → o.request.id ≡ id → flies_in id target os ≡ true → target_flies target o ≡ true
its_flies id target [] k o rises there own any = absurd (cc there)
its_flies id target (x ∷ os) zero o rises there own any = by_test (x.request.id == id && target_flies target x) refl any
  where
    same : x ≡ o
    same = cc there

    by_test : (b : Bool) → (x.request.id == id && target_flies target x) ≡ b → (b || flies_in id target os) ≡ true → target_flies target o ≡ true
    by_test true its any = ap (target_flies target) (sym same) ∙ right (x.request.id == id) (target_flies target x) its
    by_test false its any = absurd (none_above id target x.request.id os (ap (λ (y : Open). y.request.id) same ∙ own) rises.0 any)
its_flies id target (x ∷ os) (suc k) o rises there own any = by_test (its_flies id target os k o rises.1 there own) (x.request.id == id && target_flies target x) refl any
  where
    by_test : (flies_in id target os ≡ true → target_flies target o ≡ true) → (b : Bool) → (x.request.id == id && target_flies target x) ≡ b → (b || flies_in id target os) ≡ true → target_flies target o ≡ true
    by_test rest true its any =
        let mine = eqb-true x.request.id id (left (x.request.id == id) (target_flies target x) its) in
        let less = at_place (λ (later : Open). x.request.id < later.request.id) os k o rises.0 there in
        absurd (omega (arith, mine, less, own))
    by_test rest false its any = rest any

-- a target whose transfer is out
pub record Flies (ts : List Target) (target : ℕ) : Type 0 where
  pub aim : Target
  pub aim_is : slice_get ts target ≡ Some aim
  pub out : is_flying aim.state ≡ true

flying : (ts : List Target) (target : ℕ) → option_map_or (λ (t : Target). is_flying t.state) (slice_get ts target) false ≡ true → Flies ts target
flying ts target is = by_target (slice_get ts target) refl is
  where
    by_target : (o : Option Target) → slice_get ts target ≡ o → option_map_or (λ (t : Target). is_flying t.state) o false ≡ true → Flies ts target
    by_target None there is = absurd (cc is)
    by_target (Some t) there is = record { aim = t; aim_is = there; out = is }

one_flies : (ts : List Target) (k : ℕ) (t : Target) → slice_get ts k ≡ Some t → is_flying t.state ≡ true → list_any (λ (x : Target). is_flying x.state) ts ≡ true
one_flies [] k t there is = absurd (cc there)
one_flies (x ∷ ts) zero t there is = let same : x ≡ t = cc there in ap (λ (b : Bool). b || list_any (λ (y : Target). is_flying y.state) ts) (ap (λ (y : Target). is_flying y.state) same ∙ is)
one_flies (x ∷ ts) (suc k) t there is = by_test (is_flying x.state) (one_flies ts k t there is)
  where
    by_test : (b : Bool) → list_any (λ (y : Target). is_flying y.state) ts ≡ true → (b || list_any (λ (y : Target). is_flying y.state) ts) ≡ true
    by_test true rest = refl
    by_test false rest = rest

-- ---- its targets can be marked

module _ (core : Core) (at id target : ℕ) (number : ℕ) (ended : TransferHasEnded core at (owner.Data id target) number) where
  pub its_there : list_any (λ (o : Open). o.request.id == id) core.requests ≡ true
  its_there = some_has_it id target core.requests (was_out core at (owner.Data id target) number ended)

  module _ (place : ℕ) (has : HasId core.requests place id) where
    pub its_target : Flies has.request.request.targets.items target
    its_target =
        flying has.request.request.targets.items target
        (its_flies id target core.requests place has.request ended.going.told.table.ascending has.there has.own (was_out core at (owner.Data id target) number ended))

    its_open : IsOpenOne core has.request
    its_open = at_place (IsOpenOne core) core.requests place has.request ended.going.requests has.there

    waits : is_waiting has.request ≡ true
    waits = by_test (is_waiting has.request) refl
      where
        by_test : (b : Bool) → is_waiting has.request ≡ b → is_waiting has.request ≡ true
        by_test true is = is
        by_test false is =
            let some = one_flies has.request.request.targets.items target its_target.aim its_target.aim_is its_target.out in
            let none = its_open.still is in
            absurd (cc (some, none))

    markable_of : (t : Target) → IsTarget core has.request.request.ask t → IsMarkable core.status.wanted t.pp
    markable_of t its =
        let ask = has.request.request.ask in
        markable core.descriptor core.status.wanted t.pp ended.going.fitting.valid ended.going.fitting.rows (by ask t.moves its.copy)
      where
        by : (ask : Ask) (b : Bool) → IsAimed b core ask t → IsPartitionOf core.descriptor t.pp
        by ask false among = among_all (IsPartitionOf core.descriptor) (copies_for core ask) t.pp (copies_in_are core.descriptor (lv_of ask) (lp_of core ask) ended.going.fitting.valid) among
        by ask true place =
            let it = place_open core ask t.pp place.0 in
            subst (IsPartitionOf core.descriptor) (sym it.is) (move_partition core it.copy (move_of core it.copy (open_one core it.copy it.is_open ended.going.copy) it.moves))

    all_markable : (ts : List Target) (k : ℕ) (state : TargetState) → AllByRecursion (IsTarget core has.request.request.ask) ts → All (λ (t : Target). IsMarkable core.status.wanted t.pp) (with_state ts k state)
    all_markable [] k state all = All-nil (λ (t : Target). IsMarkable core.status.wanted t.pp)
    all_markable (t ∷ ts) zero state all = All-cons (λ (t : Target). IsMarkable core.status.wanted t.pp) (record t { state = state }) ts (markable_of t all.0) (still ts all.1)
      where
        still : (ts : List Target) → AllByRecursion (IsTarget core has.request.request.ask) ts → All (λ (t : Target). IsMarkable core.status.wanted t.pp) ts
        still [] all = All-nil (λ (t : Target). IsMarkable core.status.wanted t.pp)
        still (t ∷ ts) all = All-cons (λ (t : Target). IsMarkable core.status.wanted t.pp) t ts (markable_of t all.0) (still ts all.1)
    all_markable (t ∷ ts) (suc k) state all = All-cons (λ (t : Target). IsMarkable core.status.wanted t.pp) t (with_state ts k state) (markable_of t all.0) (all_markable ts k state all.1)

    -- ---- once it has learned

    module _ (ok : Bool) (buf : Buffer) (same : buf.number ≡ number) where
      abbrev new : Core
      new = after_data core at place has.request target ok buf

      pub stands : slice_get (slice_set core.requests place (learned has.request target ok buf)) place ≡ Some (learned has.request target ok buf)
      stands = set_there core.requests place has.request (learned has.request target ok buf) has.there
        where
          set_there : (os : List Open) (k : ℕ) (o x : Open) → slice_get os k ≡ Some o → slice_get (slice_set os k x) k ≡ Some x
          set_there [] k o x there = absurd (cc there)
          set_there (y ∷ os) zero o x there = refl
          set_there (y ∷ os) (suc k) o x there = set_there os k o x there

      pub may_mark : MayMark (after_data core at place has.request target ok buf) place
      may_mark = record {
        within = slice_get_within (slice_set core.requests place (learned has.request target ok buf)) place (learned has.request target ok buf) stands;
        sound = ended.going.status;
        markable = λ o there.
            let is : learned has.request target ok buf ≡ o = cc (there, stands) in
            subst (λ (x : Open). All (λ (t : Target). IsMarkable core.status.wanted t.pp) x.request.targets.items) is
            (all_markable has.request.request.targets.items target (end_state ok) (its_open.waits waits).shape.targets);
      }

      back : (c : OpenCopy) → core.copy ≡ Some c → IsOutIf (with_back core.pool (given_back has.request ok buf)) (hand_of c.step)
      back c is = by_test (keeps_buffer has.request ok)
        where
          by_test : (b : Bool) → IsOutIf (with_back core.pool (if b then None else Some buf)) (hand_of c.step)
          by_test true = hand_kept core at (owner.Data id target) number ended c is
          by_test false = subst (λ n. IsOutIf (slice_set core.pool n false) (hand_of c.step)) (sym same) (hand_back core at (owner.Data id target) number ended c is)

      pub may_end : MayEndCopy (after_data core at place has.request target ok buf)
      may_end = record {
        sound = ended.going.status;
        copy = by_copy core at (owner.Data id target) number ended (CanEnd new) core.copy refl (λ c is. can_end core at (owner.Data id target) number ended new c (back c is) ended.going.fitting.rows is);
      }
