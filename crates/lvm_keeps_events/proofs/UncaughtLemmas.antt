-- A copy that has passed a target which succeeded has a sure copy beside it, which is a target that succeeded too.
use Rattle.std.proofs.Common.{◌&&◌, ◌==◌, [], ap, Bool, false, filter, if◌then◌else◌, length, List, nat_lt, None, not, Option, refl, slice_get, Some, subst, sym, true, ◌||◌, ℕ, ◌-◌, ◌∙◌, ◌∷◌, ◌≡◌}
use Rattle.std.specs.List.{list_any}
use Rattle.std.specs.Option.{option_map_or}
use Rattle.std.specs.Prelude.{IfSome, count_by, unwrap_or}
use Rattle.std.proofs.lemmas.Map.Keys.{any_passes_from_place}
use Rattle.lvm_num.specs.declared.place.Pp.{Pp}
use Rattle.lvm_num.specs.Status.{calls_stale}
use Rattle.lvm_sched.specs.declared.writes.TargetState.{TargetState}
use Rattle.lvm_sched.specs.declared.writes.TargetState.TheVariants as stage
use Rattle.lvm_sched.specs.Writes.{is_waiting as target_waits}
use Rattle.lvm_num.specs.Descriptor.{is_pp}
use Rattle.lvm_num.proofs.Booleans.{not_so, not_either}
use Rattle.lvm_num.proofs.Lists.{all_at}
use Rattle.lvm_path.specs.declared.request.Phase.{Phase}
use Rattle.lvm_path.specs.declared.target.Target.{Target}
use Rattle.lvm_path.specs.Asks.{is_write, lv_of}
use Rattle.lvm_path.specs.Targets.{are_over, is_begun, is_done, is_failed, is_over}
use Rattle.lvm_session.specs.declared.bringing.CopyEnd.TheVariants as ending
use Rattle.lvm_session.specs.declared.bringing.OpenCopy.{OpenCopy}
use Rattle.lvm_session.specs.declared.open.Open.{Open}
use Rattle.lvm_session.specs.Bringing.{end_by_sources, end_of, ends_if, is_idle, is_whole, next_source, sources_of}
use Rattle.lvm_session.specs.Judging.{copies_for, copies_in, group_in, is_caught, is_kept, is_running, is_settled, is_stale, is_sure, is_usable, is_waiting, is_wanted_stale, lp_of, pps_of, is_sure_at}
use Rattle.lvm_session.specs.State.{Core}
use Rattle.lvm_session.specs.Marks.{is_among}
use Rattle.lvm_session.specs.Causes.{was_fresh}
use Rattle.lvm_session.specs.Requests.{is_failed_and_sure, is_left_out, IsJudged, IsOpenOne, IsPhase, IsRequest, IsTarget, wants_status}
use Rattle.lvm_session.specs.Sound.{IsCopy, IsGoing, IsStaleCopy, may_be_fresh, stays_fresh}
use Rattle.lvm_session.proofs.MovesLemmas.{move_of, stale_of}
use Rattle.lvm_keeps.proofs.CacheLemmas.{no_place}
use Rattle.lvm_keeps.proofs.Small.{both}
use Rattle.lvm_keeps_events.proofs.JudgingLemmas.OpenLp.{target_lp}
use Rattle.lvm_keeps_events.proofs.EndsLemmas.CopyReadFail.{by_place, by_sources, is_here}
use Rattle.lvm_keeps_events.proofs.JudgingLemmas.DuesMarks.{among_get, IsOn, on_one, pp_same}
use Rattle.lvm_keeps_events.proofs.Lists.{all_and, all_true_at, and_false, any_on, found_at, or_false, or_true}
use Rattle.lvm_keeps_events.proofs.MissedLemmas.{ends_phase, first_of, none_failed, well_done}
use Rattle.lvm_keeps_events.proofs.Usable.{unsettled, usable_may}
use Rattle.lvm_keeps_events.specs.Uncaught.{LostIsUncaught}

-- ---- small

done_began : (s : TargetState) → is_done s ≡ true → not (target_waits s) ≡ true
done_began stage.Waiting e = not_so e
done_began stage.Flying e = refl
done_began stage.Done e = refl
done_began stage.Failed e = refl

-- what a filter leaves passes its test
pub some_kept : (t : Pp → Bool) (ps : List Pp) → (length (filter t ps) == 0) ≡ false → list_any t ps ≡ true
some_kept t [] e = not_either e
some_kept t (p ∷ ps) e = by (t p) refl (λ f. some_kept t ps f) e
  where
    by : (b : Bool) → t p ≡ b → ((length (filter t ps) == 0) ≡ false → list_any t ps ≡ true) → (length (if b then p ∷ filter t ps else filter t ps) == 0) ≡ false → b || list_any t ps ≡ true
    by true is rest f = refl
    by false is rest f = rest f

-- ---- copies

-- a copy that goes on has a source
has_source : (core : Core) (c : OpenCopy) → end_by_sources core c ≡ None → (length (sources_of core c) == 0) ≡ false
has_source core c = by (length (sources_of core c) == 0)
  where
    by : (b : Bool) → (if b then Some ending.NoFresh else ends_if (is_idle c.step && Rattle.std.specs.Prelude.is_none (next_source core c)) ending.SyncFailed) ≡ None → b ≡ false
    by true e = absurd (cc e)
    by false e = refl

-- so may what is to be cleared
clearing_may : (core : Core) (p : Pp) → is_wanted_stale core p ≡ false → may_be_fresh core p ≡ true
clearing_may core p wanted = ap (λ b. was_fresh core p || not (is_settled core p && b)) wanted ∙ ap (λ b. was_fresh core p || not b) (and_false (is_settled core p)) ∙ or_true (was_fresh core p)

-- what stays fresh is neither stale nor wanted so
stays_by : (core : Core) (p : Pp) → stays_fresh core p ≡ true → (is_stale core p ≡ false) × (is_wanted_stale core p ≡ false)
stays_by core p = by (is_stale core p) (calls_stale (unwrap_or core.status.in_flight core.status.committed) p) (is_wanted_stale core p)
  where
    by : (a f w : Bool) → not (a || f) && not w ≡ true → (a ≡ false) × (w ≡ false)
    by true f w g = not_so g
    by false true w g = not_so g
    by false false true g = not_so g
    by false false false g = (refl, refl)

-- the copies of the logical partition of the one that is open
abbrev copies_beside : Core → OpenCopy → List Pp
copies_beside core c = copies_in core.descriptor c.lv c.lp

-- ---- a write whose transfers have ended

module _ (core : Core) (going : IsGoing core) (o : Open) (one : IsOpenOne core o) (ended : wants_status o.request.phase ≡ true) where
  abbrev targets : List Target
  targets = o.request.targets.items

  abbrev group : ℕ
  group = group_in core o.request.ask

  waits : is_waiting o ≡ true
  waits = by (is_waiting o) refl
    where
      by : (b : Bool) → is_waiting o ≡ b → b ≡ true
      by true is = refl
      by false is = not_so (sym (ap wants_status (one.over is).phase_is) ∙ ended)

  its : IsRequest core o
  its = one.waits waits

  said : (is_write o.request.ask ≡ true) × (are_over targets ≡ true)
  said = subst (λ (p : Phase). IsPhase p o) (ends_phase o.request.phase ended) its.shape.phase_is

  judged : IsJudged core o
  judged = its.judged said.0

  over : (k : ℕ) (u : Target) → slice_get targets k ≡ Some u → is_over u.state ≡ true
  over k u u_there = all_true_at (λ (x : Target). is_over x.state) targets k u said.1 u_there

  -- no target has failed that is sure
  module _ (none : list_any (is_failed_and_sure core) targets ≡ false) (begun : is_begun targets ≡ true) where
    -- then a sure copy is a target that succeeded
    kept_by : (p : Pp) → is_among (copies_for core o.request.ask) p ≡ true → is_stale core p ≡ false → is_wanted_stale core p ≡ false → is_kept core o.request ≡ true
    kept_by p copy fresh unwanted = any_passes_from_place (λ (x : Target). is_done x.state && is_sure_at core x) targets on.place on.target on.there (all_and (is_done on.target.state) (is_sure_at core on.target) well sure)
      where
        left_out : is_left_out core o.request.ask p ≡ false
        left_out = ap (λ b. b && is_wanted_stale core p && not (is_caught core group p)) (unsettled core p fresh)

        on : IsOn targets p
        on = on_one targets p (sym (ap (λ b. is_among (pps_of targets) p || b) left_out ∙ or_false (is_among (pps_of targets) p)) ∙ judged.all begun p copy)

        -- a copy is no place to which one moves
        sure : is_sure_at core on.target ≡ true
        sure = all_and (not on.target.moves) (is_sure core on.target.pp) (ap not (no_place core going (lv_of o.request.ask) (lp_of core o.request.ask) p copy o.request.ask on.target (all_at (IsTarget core o.request.ask) targets on.place on.target its.shape.targets on.there) on.pp_is)) (ap (is_sure core) (sym on.pp_is) ∙ (λ i. not (fresh i) && not (unwanted i)))

        well : is_done on.target.state ≡ true
        well = by (is_failed on.target.state) refl
          where
            by : (b : Bool) → is_failed on.target.state ≡ b → is_done on.target.state ≡ true
            by false fine = first_of (is_done on.target.state) (is_failed on.target.state) (over on.place on.target on.there) fine
            by true failed = not_so (sym none ∙ any_passes_from_place (is_failed_and_sure core) targets on.place on.target on.there (all_and (is_failed on.target.state) (is_sure_at core on.target) failed sure))

    -- so is one that stays fresh
    pub kept_of : list_any (stays_fresh core) (copies_for core o.request.ask) ≡ true → is_kept core o.request ≡ true
    kept_of some = kept_by found.1 (among_get (copies_for core o.request.ask) found.0 found.1 found.2) (stays_by core found.1 found.3).0 (stays_by core found.1 found.3).1
      where
        found : (k : ℕ) × (p : Pp) × (slice_get (copies_for core o.request.ask) k ≡ Some p) × (stays_fresh core p ≡ true)
        found = found_at (stays_fresh core) (copies_for core o.request.ask) some

  -- a target was passed
  module _ (number : ℕ) (t : Target) (there : slice_get targets number ≡ Some t) (caught : is_caught core group t.pp ≡ true) where
    done : is_done t.state ≡ true
    done = well_done core o judged ended said.1 number t there caught

    none_so : list_any (is_failed_and_sure core) targets ≡ false
    none_so = none_failed core o judged ended said.1 number t there caught

    begun : is_begun targets ≡ true
    begun = any_passes_from_place (λ (u : Target). not (target_waits u.state)) targets number t there (done_began t.state done)

    -- the copy that has passed it has a copy beside it that stays fresh
    kept_beside : (c : OpenCopy) → core.copy ≡ Some c → is_running c ≡ true → is_pp t.pp c.pp ≡ true → is_kept core o.request ≡ true
    kept_beside c is_open runs same = kept_of none_so begun ((λ i. list_any (stays_fresh core) (copies_in core.descriptor (its_lp.0 i) (its_lp.1 i))) ∙ some_stays c.moves refl)
      where
        bring : IsCopy core c
        bring = subst (λ (m : Option OpenCopy). IfSome m (IsCopy core)) is_open going.copy

        goes_on : end_of core c ≡ None
        goes_on = sym (ap (λ (m : Option OpenCopy). option_map_or (end_of core) m None) is_open) ∙ going.reviewed

        -- a copy that is brought up is beside a source, or is to be cleared; a move has its own word for it
        some_stays : (b : Bool) → c.moves ≡ b → list_any (stays_fresh core) (copies_beside core c) ≡ true
        some_stays true moves = (move_of core c bring moves).fresh
        some_stays false brings = going.fresh c.lv c.lp (some_may (is_whole core c) refl)
          where
            kind : IsStaleCopy core c
            kind = stale_of core c bring brings

            some_may : (w : Bool) → is_whole core c ≡ w → list_any (may_be_fresh core) (copies_beside core c) ≡ true
            some_may true whole = any_passes_from_place (may_be_fresh core) (copies_beside core c) (c.copy - 1) c.pp (by_place (copies_beside core c) c.copy c.pp kind.its) (clearing_may core c.pp (kind.clearing runs whole).1)
            some_may false short =
                any_on (λ (q : Pp). not (is_pp q c.pp) && is_usable core q) (may_be_fresh core) (usable_may core c.pp) (copies_beside core c)
                (some_kept (λ (q : Pp). not (is_pp q c.pp) && is_usable core q) (copies_beside core c) (has_source core c (by_sources core c None runs (is_here core c runs goes_on) short goes_on)))

        its_lp : (lv_of o.request.ask ≡ c.lv) × (lp_of core o.request.ask ≡ c.lp)
        its_lp = target_lp core going c is_open o.request.ask t (all_at (IsTarget core o.request.ask) targets number t its.shape.targets there) (pp_same t.pp c.pp same)

    pub kept_so : is_kept core o.request ≡ true
    kept_so = by core.copy refl caught
      where
        by : (m : Option OpenCopy) → core.copy ≡ m → option_map_or (λ (c : OpenCopy). is_running c && is_pp t.pp c.pp && nat_lt group c.cursor) m false ≡ true → is_kept core o.request ≡ true
        by None is_open e = not_so e
        by (Some c) is_open e =
            let parts = both (is_running c && is_pp t.pp c.pp) (nat_lt group c.cursor) e in
            let more = both (is_running c) (is_pp t.pp c.pp) parts.0 in
            kept_beside c is_open more.0 more.1

pub lost_is_uncaught : LostIsUncaught
lost_is_uncaught s place o sound on at ended lost number t there = by (is_caught s.core (group_in s.core o.request.ask) t.pp) refl
  where
    going : IsGoing s.core
    going = (sound.on on).going

    by : (b : Bool) → is_caught s.core (group_in s.core o.request.ask) t.pp ≡ b → b ≡ false
    by false is = refl
    by true is = not_so (sym lost ∙ kept_so s.core going o (all_at (IsOpenOne s.core) s.core.requests place o going.requests at) ended number t there is)
