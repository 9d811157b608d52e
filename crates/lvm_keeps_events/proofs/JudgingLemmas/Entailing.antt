-- What the end of a transfer of a write entails: staleness of targets, and the end of the copy that is open.
use Rattle.std.proofs.Common.{◌&&◌, ◌==◌, [], ap, Bool, false, filter, if◌then◌else◌, inl, inr, length, List, nat_lt, None, not, Option, refl, slice_get, Some, subst, sym, true, ◌||◌, ℕ, ◌∙◌, ◌≡◌, ◌⊎◌}
use Rattle.std.proofs.lemmas.Bool.{eqb-false, eqb-true}
use Rattle.std.specs.List.{AllByRecursion}
use Rattle.std.specs.Option.{option_map_or}
use Rattle.std.specs.Prelude.{IfSome, unwrap_or}
use Rattle.std.proofs.lemmas.Map.Keys.{any_passes_from_place}
use Rattle.lvm_num.specs.Buffer.{Buffer}
use Rattle.lvm_num.specs.Status.{calls_stale}
use Rattle.lvm_num.specs.declared.place.Pp.{Pp}
use Rattle.lvm_hold.specs.Waiting.{Waiting}
use Rattle.lvm_num.specs.Descriptor.{is_pp}
use Rattle.lvm_num.proofs.Booleans.{not_so}
use Rattle.lvm_num.proofs.Lists.{all_weaker, all_at, set_beside}
use Rattle.lvm_path.specs.Asks.{is_write}
use Rattle.lvm_path.specs.Targets.{are_over, end_state, is_done, is_failed}
use Rattle.lvm_path.specs.declared.target.Target.{Target}
use Rattle.lvm_session.proofs.MovesLemmas.{stale_of}
use Rattle.lvm_session.specs.Bringing.{end_by_sources, end_of, ends_if, groups_of, is_cleared, is_whole, with_copy_end}
use Rattle.lvm_session.specs.Judging.{is_sure_at, all_but_sure, group_in, is_caught, is_kept, is_missing, is_running, is_wanted_stale, pps_of}
use Rattle.lvm_session.specs.State.{Core}
use Rattle.lvm_session.specs.declared.bringing.CopyEnd.TheVariants as ending
use Rattle.lvm_session.specs.declared.bringing.OpenCopy.{OpenCopy}
use Rattle.lvm_session.specs.declared.flown.Flown.{Flown}
use Rattle.lvm_session.specs.declared.flown.Owner.TheVariants as owner
use Rattle.lvm_session.specs.declared.open.Open.{Open}
use Rattle.lvm_session.specs.Marks.{due_of, due_targets, hits_copy, is_among}
use Rattle.lvm_session.specs.Causes.{is_held_stale, IsChosenSince}
use Rattle.lvm_session.specs.Requests.{IsJudged, IsLaid, may_lack, will_be_kept}
use Rattle.lvm_session.specs.Sound.{is_clearing, IsCopy, IsGoing}
use Rattle.lvm_keeps.proofs.Lists.{set_here}
use Rattle.lvm_keeps.proofs.Small.{both}
use Rattle.lvm_keeps_events.proofs.TargetsLemmas.{at_state}
use Rattle.lvm_keeps_events.proofs.JudgingLemmas.DuesMarks.{due_one, has_failed, is_sure_done, IsDueOne, own_pp, pp_same, unsure_among}
use Rattle.lvm_keeps_events.proofs.SoundLemmas.Failing.{kept, LeavesParts, leaves, parted, pool, queue}
use Rattle.lvm_keeps_events.proofs.RequestsLemmas.{failed_badly, its, learnt, request}
use Rattle.lvm_keeps_events.proofs.Groups.{group_low, whole_passes}
use Rattle.lvm_keeps_events.proofs.Lists.{all_and, and_false, either, none_by, or_false, or_true}

-- What is left of the copy, the hold queue and the pool, and which partitions are due to be stale, where the request has learned so of this partition.
pub record IsEntailed (core : Core) (o : Open) (ok : Bool) (p : Pp) (queue : Waiting) (copy : Option OpenCopy) (pool : List Bool) (due : Pp → Bool) : Type 0 where
  pub left : LeavesParts core queue copy pool
  pub wants : (q : Pp) → is_among (due_of core o.request) q ≡ true → due q ≡ true
  pub due_is : (q : Pp) → due q ≡ true → (is_among (due_of core o.request) q ≡ true) ⊎ (is_held_stale core q ≡ true)
  pub apart : (c : OpenCopy) → copy ≡ Some c → is_running c ≡ true → is_whole core c ≡ true → due c.pp ≡ false
  pub clear : (q : Pp) → is_held_stale core q ≡ true → is_wanted_stale core q ≡ false → due q ≡ false → option_map_or (λ (c : OpenCopy). is_running c && is_whole core c && is_pp q c.pp) copy false ≡ true
  pub ends : (c : OpenCopy) → copy ≡ Some c → end_of core c ≡ None
  pub uncaught : is_write o.request.ask ≡ true → ok ≡ false → is_caught (parted core queue copy pool) (group_in core o.request.ask) p ≡ false
  pub uncarried : is_write o.request.ask && are_over o.request.targets.items ≡ true → is_kept core o.request ≡ false → will_be_kept (parted core queue copy pool) o.request ≡ false
  pub chosen : IfSome copy (λ (c : OpenCopy). AllByRecursion (IsChosenSince core c) core.requests)

-- ---- a copy that has caught up

-- the copy that has caught up with a partition's track group is open on it
pub record HasCaught (core : Core) (p : Pp) : Type 0 where
  pub copy : OpenCopy
  pub is_open : core.copy ≡ Some copy
  pub runs : is_running copy ≡ true
  pub pp_is : is_pp p copy.pp ≡ true

pub has_caught : (core : Core) (group : ℕ) (p : Pp) → is_caught core group p ≡ true → HasCaught core p
has_caught core group p is = by core.copy refl is
  where
    by : (m : Option OpenCopy) → core.copy ≡ m → option_map_or (λ (c : OpenCopy). is_running c && is_pp p c.pp && nat_lt group c.cursor) m false ≡ true → HasCaught core p
    by None open_is e = not_so e
    by (Some c) open_is e =
        let parts = both (is_running c && is_pp p c.pp) (nat_lt group c.cursor) e in
        let more = both (is_running c) (is_pp p c.pp) parts.0 in
        record { copy = c; is_open = open_is; runs = more.0; pp_is = more.1 }

module _ (core : Core) (going : IsGoing core) (place target : ℕ) (o : Open) (there : slice_get core.requests place ≡ Some o) (aim : Target) (aim_is : slice_get o.request.targets.items target ≡ Some aim)
    (at : ℕ) (row : Flown) (row_there : slice_get core.flying at ≡ Some row) (own : row.owner ≡ owner.Data o.request.id target) (ok : Bool) (buf : Buffer) (long : ok ≡ true → length buf.sectors ≡ 256) where
  abbrev x : Open
  x = learnt core going place target o there aim aim_is at row row_there own ok buf long

  abbrev targets : List Target
  targets = o.request.targets.items

  abbrev group : ℕ
  group = group_in core o.request.ask

  laid_so : IsLaid core o.request
  laid_so = (its core going place target o there aim aim_is at row row_there own ok buf long).laid

  judged : is_write o.request.ask ≡ true → IsJudged core o
  judged write = (request core going place target o there aim aim_is at row row_there own ok buf long).judged write

  -- a target of it that the copy mustn't have passed
  lacking : is_write o.request.ask ≡ true → (k : ℕ) (t : Target) → slice_get targets k ≡ Some t → may_lack o t ≡ true → is_caught core group t.pp ≡ false
  lacking write k t t_there lacks = sym (ap (λ b. b && is_caught core group t.pp) lacks) ∙ all_at (λ (u : Target). may_lack o u && is_caught core group u.pp ≡ false) targets k t (judged write).uncaught t_there

  -- what it was before
  was : (k : ℕ) (t : Target) → slice_get x.request.targets.items k ≡ Some t → ((k ≡ target) × (t ≡ at_state aim (end_state ok))) ⊎ (slice_get targets k ≡ Some t)
  was k t t_there = by (k == target) refl
    where
      by : (b : Bool) → (k == target) ≡ b → ((k ≡ target) × (t ≡ at_state aim (end_state ok))) ⊎ (slice_get targets k ≡ Some t)
      by true same =
          let is = eqb-true k target same in
          inl (is, (let e : Some t ≡ Some (at_state aim (end_state ok)) = sym t_there ∙ ap (slice_get x.request.targets.items) is ∙ set_here targets target aim (at_state aim (end_state ok)) aim_is in cc e))
      by false other = inr (sym (set_beside targets target k (at_state aim (end_state ok)) (eqb-false k target other)) ∙ t_there)

  -- of one whose targets were chosen before the copy was opened it has passed none
  older_lacks : is_write o.request.ask ≡ true → o.older ≡ true → (k : ℕ) (t : Target) → slice_get x.request.targets.items k ≡ Some t → is_caught core group t.pp ≡ false
  older_lacks write old_one k t t_there = by (was k t t_there)
    where
      by : ((k ≡ target) × (t ≡ at_state aim (end_state ok))) ⊎ (slice_get targets k ≡ Some t) → is_caught core group t.pp ≡ false
      by (inl is) = ap (λ (u : Target). is_caught core group u.pp) is.1 ∙ lacking write target aim aim_is (ap (λ b. is_failed aim.state || b) old_one ∙ or_true (is_failed aim.state))
      by (inr same) = lacking write k t same (ap (λ b. is_failed t.state || b) old_one ∙ or_true (is_failed t.state))

  hit_by : {X : Type 0} (w r n y : Bool) → w ≡ true → r ≡ true → n || y ≡ true → w && r && (n || y) ≡ false → X
  hit_by true true n y i j some none = not_so (sym none ∙ some)
  hit_by true false n y i j some none = not_so j
  hit_by false r n y i j some none = not_so i

  -- ---- the copy stays

  module _ (unhit : option_map_or (hits_copy core x ok aim.pp) core.copy false ≡ false) where
    missed : (c : OpenCopy) → core.copy ≡ Some c → hits_copy core x ok aim.pp c ≡ false
    missed c is = sym (ap (λ m. option_map_or (hits_copy core x ok aim.pp) m false) is) ∙ unhit

    -- it isn't the partition of a target that failed now
    not_its : {X : Type 0} (c : OpenCopy) → core.copy ≡ Some c → is_running c ≡ true → is_write o.request.ask ≡ true → ok ≡ false → is_pp aim.pp c.pp ≡ true → X
    not_its c is runs write bad same = hit_by (is_write o.request.ask) (is_running c) (not ok && is_pp aim.pp c.pp) (are_over x.request.targets.items && not (is_kept core x.request) && not o.older && is_among (due_of core x.request) c.pp) write runs
        (ap (λ b. b || (are_over x.request.targets.items && not (is_kept core x.request) && not o.older && is_among (due_of core x.request) c.pp)) (ap (λ b. not b && is_pp aim.pp c.pp) bad ∙ same)) (missed c is)

    -- nor is it due with a write that has lost all its sure targets
    not_lost : {X : Type 0} (c : OpenCopy) → core.copy ≡ Some c → is_running c ≡ true → is_write o.request.ask && are_over x.request.targets.items ≡ true → is_kept core x.request ≡ false → o.older ≡ false → is_among (due_of core x.request) c.pp ≡ true → X
    not_lost c is runs over unkept young among =
        let parts = both (is_write o.request.ask) (are_over x.request.targets.items) over in
        hit_by (is_write o.request.ask) (is_running c) (not ok && is_pp aim.pp c.pp) (are_over x.request.targets.items && not (is_kept core x.request) && not o.older && is_among (due_of core x.request) c.pp) parts.0 runs
        (ap (λ b. (not ok && is_pp aim.pp c.pp) || b)
        (ap (λ b. b && not (is_kept core x.request) && not o.older && is_among (due_of core x.request) c.pp) parts.1 ∙ ap (λ b. not b && not o.older && is_among (due_of core x.request) c.pp) unkept ∙ ap (λ b. not b && is_among (due_of core x.request) c.pp) young ∙ among)
        ∙ or_true (not ok && is_pp aim.pp c.pp)) (missed c is)

    apart_so : (c : OpenCopy) → core.copy ≡ Some c → is_running c ≡ true → is_whole core c ≡ true → is_among (due_of core x.request) c.pp ≡ false
    apart_so c is runs whole = by (is_among (due_of core x.request) c.pp) refl
      where
        caught : is_caught core group c.pp ≡ true
        caught = ap (λ m. option_map_or (λ (k : OpenCopy). is_running k && is_pp c.pp k.pp && nat_lt group k.cursor) m false) is
            ∙ all_and (is_running c && is_pp c.pp c.pp) (nat_lt group c.cursor) (all_and (is_running c) (is_pp c.pp c.pp) runs (own_pp c.pp)) (whole_passes group (groups_of core) c.cursor (group_low core o.request laid_so) whole)

        none : is_among (due_of core x.request) c.pp ≡ true → false ≡ true
        none among = of o.older (is_kept core x.request) refl refl
          where
            one : IsDueOne core x.request c.pp
            one = due_one core x.request c.pp among

            write : is_write o.request.ask ≡ true
            write = (both (is_write o.request.ask) (are_over x.request.targets.items) one.over).0

            passed : {X : Type 0} → is_caught core group one.it.target.pp ≡ false → X
            passed lacks = not_so (sym lacks ∙ ap (is_caught core group) (sym one.it.pp_is) ∙ caught)

            its_failed : is_failed one.it.target.state ≡ true → ((one.it.place ≡ target) × (one.it.target ≡ at_state aim (end_state ok))) ⊎ (slice_get targets one.it.place ≡ Some one.it.target) → false ≡ true
            its_failed failed (inl same) =
                let bad = failed_badly ok (sym (ap has_failed same.1) ∙ failed) in
                not_its c is runs write bad (ap (λ q. is_pp q c.pp) (sym (one.it.pp_is ∙ ap (λ (t : Target). t.pp) same.1)) ∙ own_pp c.pp)
            its_failed failed (inr same) = passed (lacking write one.it.place one.it.target same (ap (λ b. b || o.older) failed))

            of : (a b : Bool) → o.older ≡ a → is_kept core x.request ≡ b → false ≡ true
            of true b i j = passed (older_lacks write i one.it.place one.it.target one.it.there)
            of false true i j = its_failed (one.kept j) (was one.it.place one.it.target one.it.there)
            of false false i j = not_lost c is runs one.over j i among

        by : (b : Bool) → is_among (due_of core x.request) c.pp ≡ b → b ≡ false
        by false e = refl
        by true e = not_so (none e)

    uncaught_so : is_write o.request.ask ≡ true → ok ≡ false → is_caught core group aim.pp ≡ false
    uncaught_so write bad = by (is_caught core group aim.pp) refl
      where
        by : (b : Bool) → is_caught core group aim.pp ≡ b → b ≡ false
        by false e = refl
        by true e = let it = has_caught core group aim.pp e in not_its it.copy it.is_open it.runs write bad it.pp_is

    uncarried_so : is_write o.request.ask && are_over x.request.targets.items ≡ true → is_kept core x.request ≡ false → will_be_kept core x.request ≡ false
    uncarried_so over unkept = none_by (λ (t : Target). is_done t.state && is_caught core group t.pp) x.request.targets.items (λ k t t_there. by k t t_there (is_done t.state) (is_caught core group t.pp) refl refl)
      where
        write : is_write o.request.ask ≡ true
        write = (both (is_write o.request.ask) (are_over x.request.targets.items) over).0

        due_is : due_of core x.request ≡ pps_of (all_but_sure core x.request.targets.items)
        due_is = ap (λ (b : Bool). if b then pps_of (due_targets core x.request) else []) over ∙ ap (λ (b : Bool). pps_of (if b then filter has_failed x.request.targets.items else all_but_sure core x.request.targets.items)) unkept

        unsure : (k : ℕ) (t : Target) → slice_get x.request.targets.items k ≡ Some t → is_done t.state ≡ true → is_sure_at core t ≡ false
        unsure k t t_there did = of (is_sure_at core t) refl
          where
            of : (b : Bool) → is_sure_at core t ≡ b → b ≡ false
            of false s = refl
            of true s = not_so (sym unkept ∙ any_passes_from_place (is_sure_done core) x.request.targets.items k t t_there (all_and (is_done t.state) (is_sure_at core t) did s))

        by : (k : ℕ) (t : Target) → slice_get x.request.targets.items k ≡ Some t → (a b : Bool) → is_done t.state ≡ a → is_caught core group t.pp ≡ b → a && b ≡ false
        by k t t_there false b i j = refl
        by k t t_there true false i j = refl
        by k t t_there true true i j = of o.older refl
          where
            it : HasCaught core t.pp
            it = has_caught core group t.pp j

            of : (a : Bool) → o.older ≡ a → true ≡ false
            of true e = sym j ∙ older_lacks write e k t t_there
            of false e = not_lost it.copy it.is_open it.runs over unkept e (ap (λ ps. is_among ps it.copy.pp) due_is ∙ ap (is_among (pps_of (all_but_sure core x.request.targets.items))) (sym (pp_same t.pp it.copy.pp it.pp_is)) ∙ unsure_among core x.request.targets.items k t t_there (unsure k t t_there i))

    pub stays : IfSome core.copy (λ (c : OpenCopy). AllByRecursion (IsChosenSince core c) core.requests) → IsEntailed core x ok aim.pp core.queue core.copy core.pool (λ q. is_among (due_of core x.request) q || false)
    stays chosen = record {
      left = kept core going;
      wants = λ q e. ap (λ b. b || false) e;
      due_is = λ q e. inl (sym (or_false (is_among (due_of core x.request) q)) ∙ e);
      apart = λ c is runs whole. ap (λ b. b || false) (apart_so c is runs whole);
      clear = λ q held wanted none. going.clearings q held wanted;
      ends = λ c is. sym (ap (λ m. option_map_or (end_of core) m None) is) ∙ going.reviewed;
      uncaught = uncaught_so;
      uncarried = uncarried_so;
      chosen = chosen;
    }

  -- ---- the copy fails with it

  module _ (c : OpenCopy) (is : core.copy ≡ Some c) (hit : hits_copy core x ok aim.pp c ≡ true) where
    pub running : is_running c ≡ true
    running = (both (is_write o.request.ask) (is_running c) (both (is_write o.request.ask && is_running c) (not ok && is_pp aim.pp c.pp || (are_over x.request.targets.items && not (is_kept core x.request) && not o.older && is_among (due_of core x.request) c.pp)) hit).0).1

    abbrev pub marked : Pp → Bool
    marked q = option_map_or (λ (k : OpenCopy). is_whole core k && is_pp q k.pp && (not k.moves || is_held_stale core k.pp)) core.copy false

    of_mark : (q : Pp) → marked q ≡ (is_whole core c && is_pp q c.pp && (not c.moves || is_held_stale core c.pp))
    of_mark q = ap (λ m. option_map_or (λ (k : OpenCopy). is_whole core k && is_pp q k.pp && (not k.moves || is_held_stale core k.pp)) m false) is

    bringing : IsCopy core c
    bringing = subst (λ m. IfSome m (IsCopy core)) is going.copy

    -- what it had cleared is stale
    held_so : (q : Pp) → marked q ≡ true → is_held_stale core q ≡ true
    held_so q e =
        let all = both (is_whole core c && is_pp q c.pp) (not c.moves || is_held_stale core c.pp) (sym (of_mark q) ∙ e) in
        let parts = both (is_whole core c) (is_pp q c.pp) all.0 in
        ap (is_held_stale core) (pp_same q c.pp parts.1) ∙ of_kind parts.0 c.moves refl all.1
      where
        of_kind : is_whole core c ≡ true → (b : Bool) → c.moves ≡ b → not b || is_held_stale core c.pp ≡ true → is_held_stale core c.pp ≡ true
        of_kind whole false stays e = ap (λ b. b || calls_stale (unwrap_or core.status.in_flight core.status.committed) c.pp) ((stale_of core c bringing stays).clearing running whole).0
        of_kind whole true moves e = e

    gone : (k : OpenCopy) → Some (with_copy_end c ending.SyncFailed) ≡ Some k → is_running k ≡ false
    gone k same = let e : with_copy_end c ending.SyncFailed ≡ k = cc same in sym (ap is_running e)

    pub fails : AllByRecursion (IsChosenSince core c) core.requests
        → IsEntailed core x ok aim.pp (queue core going c is ending.SyncFailed) (Some (with_copy_end c ending.SyncFailed)) (pool core going c is ending.SyncFailed) (λ q. is_among (due_of core x.request) q || marked q)
    fails chosen = record {
      left = leaves core going c is ending.SyncFailed (λ moves done. let not_done : ending.SyncFailed ≡ ending.Done = done in cc);
      wants = λ q e. ap (λ b. b || marked q) e;
      due_is = λ q e. by q (either (is_among (due_of core x.request) q) (marked q) e);
      apart = λ k same runs whole. not_so (sym (gone k same) ∙ runs);
      clear = λ q held wanted none. not_so (sym none ∙ clears q held (going.clearings q held wanted));
      ends = λ k same. ap (λ b. if not b then None else if is_missing core k.pp.disk then Some ending.SyncFailed else if is_whole core k then ends_if (is_cleared core k) ending.Done else end_by_sources core k) (gone k same);
      uncaught = λ write bad. refl;
      uncarried = λ over unkept. none_by (λ (t : Target). is_done t.state && false) x.request.targets.items (λ k t t_there. and_false (is_done t.state));
      chosen = all_weaker (IsChosenSince core c) (IsChosenSince core (with_copy_end c ending.SyncFailed)) (λ y all. all) core.requests chosen;
    }
      where
        by : (q : Pp) → (is_among (due_of core x.request) q ≡ true) ⊎ (marked q ≡ true) → (is_among (due_of core x.request) q ≡ true) ⊎ (is_held_stale core q ≡ true)
        by q (inl among) = inl among
        by q (inr mark) = inr (held_so q mark)

        -- what is to be cleared is held stale, and so called stale
        clears : (q : Pp) → is_held_stale core q ≡ true → is_clearing core q ≡ true → is_among (due_of core x.request) q || marked q ≡ true
        clears q held clearing =
            let parts = both (is_running c && is_whole core c) (is_pp q c.pp) (sym (ap (λ m. option_map_or (λ (k : OpenCopy). is_running k && is_whole core k && is_pp q k.pp) m false) is) ∙ clearing) in
            ap (λ b. is_among (due_of core x.request) q || b) (of_mark q ∙ all_and (is_whole core c && is_pp q c.pp) (not c.moves || is_held_stale core c.pp) (all_and (is_whole core c) (is_pp q c.pp) (both (is_running c) (is_whole core c) parts.0).1 parts.1)
            (ap (λ b. not c.moves || b) (sym (ap (is_held_stale core) (pp_same q c.pp parts.1)) ∙ held) ∙ or_true (not c.moves))) ∙ or_true (is_among (due_of core x.request) q)
