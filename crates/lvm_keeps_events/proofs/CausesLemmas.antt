-- A session in which a request has learned how a transfer of it ended, with what that entails.
use Rattle.std.proofs.Common.{◌&&◌, ◌+◌, ◌-◌, ◌==◌, [], ap, arith, Bool, false, if◌then◌else◌, inl, inr, length, List, None, not, Option, refl, slice_get, slice_set, Some, subst, suc, sym, true, zero, ◌||◌, ℕ, ◌∙◌, ◌∷◌, ◌≡◌, ◌≤◌, ◌⊎◌}
use Rattle.std.proofs.lemmas.Bool.{eq-eqb, eqb-false, eqb-true}
use Rattle.std.specs.List.{AllByRecursion, list_any, remove}
use Rattle.std.specs.Option.{option_map_or}
use Rattle.std.specs.Prelude.{count_by, IfSome, is_some, slice_index_or, unwrap_or}
use Rattle.std.proofs.lemmas.Map.Keys.{any_passes_from_place}
use Rattle.lvm_num.specs.Buffer.{Buffer}
use Rattle.lvm_num.specs.Disks.{has}
use Rattle.lvm_num.specs.Status.{calls_stale}
use Rattle.lvm_num.specs.declared.place.Pp.{Pp}
use Rattle.lvm_num.specs.declared.status.Status.{Status}
use Rattle.lvm_disk.specs.Counts.{Counts, Rose}
use Rattle.lvm_disk.specs.Device.{Device, Flight, Media}
use Rattle.lvm_hold.specs.Waiting.{Waiting}
use Rattle.lvm_sched.specs.declared.writes.TargetState.TheVariants as stage
use Rattle.lvm_num.specs.Descriptor.{is_pp}
use Rattle.lvm_num.proofs.Booleans.{not_so}
use Rattle.lvm_num.proofs.Lists.{all_weaker, all_at, length_set, set_beside, all_both}
use Rattle.lvm_path.specs.Asks.{is_write, lv_of}
use Rattle.lvm_path.specs.Targets.{are_over, end_state, is_done, is_failed, is_over as is_ended}
use Rattle.lvm_path.specs.declared.ask.Ask.{Ask}
use Rattle.lvm_path.specs.declared.request.Phase.TheVariants as phase
use Rattle.lvm_path.specs.declared.target.Target.{Target}
use Rattle.lvm_status.specs.Runs.{IsSoundStatus}
use Rattle.lvm_status.specs.Update.{seen}
use Rattle.lvm_status.specs.declared.writes.Writes.{Writes}
use Rattle.lvm_session.specs.Bringing.{copy_ends, end_of, has_row, is_whole, step_row, with_back, with_copy_end}
use Rattle.lvm_session.specs.Enabled.{same_status}
use Rattle.lvm_session.specs.Judging.{copies_for, copies_in, group_in, held_of, is_caught, is_kept, is_missing, is_running, is_settled, is_stale, is_sure, is_sure_at, is_waiting, is_wanted_stale, lp_of, place_of, destinations_for, pps_of}
use Rattle.lvm_session.specs.State.{Core, state, State}
use Rattle.lvm_session.specs.declared.bringing.CopyEnd.TheVariants as ending
use Rattle.lvm_session.specs.declared.bringing.OpenCopy.{OpenCopy}
use Rattle.lvm_session.specs.declared.flown.Flown.{Flown}
use Rattle.lvm_session.specs.declared.flown.Owner.{Owner}
use Rattle.lvm_session.specs.declared.flown.Owner.TheVariants as owner
use Rattle.lvm_session.specs.declared.open.Open.{Open}
use Rattle.lvm_session.specs.declared.open.Power.TheVariants as power
use Rattle.lvm_session.specs.Calls.{copy_at}
use Rattle.lvm_session.specs.Ends.{given_back}
use Rattle.lvm_session.specs.Events.{IsDataTransfer}
use Rattle.lvm_session.specs.Marks.{due_of, due_targets, hits_copy, is_among}
use Rattle.lvm_session.specs.Causes.{AreCaused, AreCounted, FailedSince, FailedSinceOpening, fails_on, faults_at_first, faults_at_opening, own_faults, OwnFailedSinceOpening, TargetHasFailed, HaveSourcesFailed, is_blamed, is_held_stale, IsAnswered, IsCaused, IsChosenSince, IsCausedAmong, IsCounted, IsLandedFor, IsTrueToOrigin}
use Rattle.lvm_session.specs.Left.{clean_volumes, copy_updates, if_open, if_so, marks_later}
use Rattle.lvm_keeps.proofs.LeftLemmas.Updates.{open_set}
use Rattle.lvm_session.specs.Owners.{AreOwned, flies, IsDataOf, IsTransferOf, same_owner}
use Rattle.lvm_session.specs.Requests.{IsAimed, is_left_out, is_wanted_due, IsJudged, IsMarkedDestination, IsOpenOne, IsRequest, IsShaped, IsTarget, may_lack, wants_status, will_be_kept}
use Rattle.lvm_session.specs.Sound.{count_if, has_number, is_clearing, is_dark, is_hand, IsAsked, IsCopy, IsFitting, IsGoing, IsOn, IsSound, IsTold, may_be_fresh, out_with, pins, stays_fresh, with_row}
use Rattle.lvm_keeps.proofs.CausesLemmas.{answered_when_on}
use Rattle.lvm_keeps.proofs.DarkLemmas.Ending.{back, back_long}
use Rattle.lvm_keeps.proofs.Lists.{all_set, any_set, count_same, count_set, set_here}
use Rattle.lvm_keeps.proofs.OwnersLemmas.Rows.{rows_by, status_still, step_still}
use Rattle.lvm_keeps.proofs.Small.{and_on, both, is_false, left_on}
use Rattle.lvm_keeps.proofs.RequestsLemmas.{bring_on, changed, if_on, no_cause, open_on, ready_on, shape_still}
use Rattle.lvm_keeps.proofs.DarkLemmas.Tables.{rows_set}
use Rattle.lvm_keeps.proofs.SoundLemmas.Whole.{sound_when_on}
use Rattle.lvm_keeps_events.proofs.TargetsLemmas.{at_state, pps_set}
use Rattle.lvm_session.proofs.MovesLemmas.{among_filter, among_filtered, move_of, open_one, place_open, stale_of}
use Rattle.lvm_keeps.proofs.CacheLemmas.{no_copy, no_place}
use Rattle.lvm_keeps_events.proofs.JudgingLemmas.OpenLp.{numbered, target_lp}
use Rattle.lvm_keeps_events.proofs.OnePlace.{one_lp, among_at}
use Rattle.lvm_keeps_events.proofs.EndsLemmas.CopyReadFail.{by_place, of_place}
use Rattle.lvm_keeps_events.proofs.EndsLemmas.Counts.{counts_keep, rose_since}
use Rattle.lvm_keeps_events.proofs.OwnersLemmas.Removal.{as_many, count_taken, none_left, others, rows_left, tickets_left}
use Rattle.lvm_keeps_events.proofs.JudgingLemmas.DuesMarks.{among_get, due_one, is_sure_done, is_sure_target, IsDueOne, IsSpared, left_due, left_missed, on_one, own_pp, pp_same, spared}
use Rattle.lvm_keeps_events.proofs.JudgingLemmas.Entailing.{IsEntailed}
use Rattle.lvm_keeps_events.proofs.SoundLemmas.Failing.{LeavesParts, one_on as one_beside, parted, rows_on as rows_beside}
use Rattle.lvm_keeps_events.proofs.RequestsLemmas.{asked_now, begun_so, failed_badly, in_data, laid, learnt, none_done, none_flies, others_fly, past, ready, request, shape, told, waits, was_flying}
use Rattle.lvm_keeps_events.proofs.Lists.{all_and, all_true_at, and_false, any_on, either, found_at, or_true, set_either}
use Rattle.lvm_keeps_events.proofs.JudgingLemmas.Staling.{blamed_by, bring_on as bring_staler, clean_same, due_wanted, end_on, entailed_less, held_by, IsStaler, kept_less, left_on as left_staler, may_less, members_same, missing_same, one_on as one_staler, ready_on as ready_staler, rows_on as rows_staler, staler, stays_on, sure_less, wanted_less, wanted_more}

-- ---- small

-- what is wanted stale isn't sure
unsure_by : (core : Core) (p : Pp) → is_wanted_stale core p ≡ true → is_sure core p ≡ false
unsure_by core p e = ap (λ b. not (is_stale core p) && not b) e ∙ and_false (not (is_stale core p))

-- a copy that is sure isn't stale by the status in flight either
pub sure_not_held : (core : Core) → IsGoing core → (lv lp : ℕ) (p : Pp) → is_among (copies_in core.descriptor lv lp) p ≡ true → is_sure core p ≡ true → is_held_stale core p ≡ false
sure_not_held core going lv lp p among sure = by (is_held_stale core p) refl
  where
    parts : (not (is_stale core p) ≡ true) × (not (is_wanted_stale core p) ≡ true)
    parts = both (not (is_stale core p)) (not (is_wanted_stale core p)) sure

    cleared : is_clearing core p ≡ true → is_stale core p ≡ true
    cleared is = of core.copy going.copy is
      where
        of : (m : Option OpenCopy) → IfSome m (IsCopy core) → option_map_or (λ (c : OpenCopy). is_running c && is_whole core c && is_pp p c.pp) m false ≡ true → is_stale core p ≡ true
        of None its e = not_so e
        of (Some c) its e =
            let same = both (is_running c && is_whole core c) (is_pp p c.pp) e in
            let goes = both (is_running c) (is_whole core c) same.0 in
            of_kind c its goes.0 goes.1 (pp_same p c.pp same.1) c.moves refl
          where
            of_kind : (c : OpenCopy) → IsCopy core c → is_running c ≡ true → is_whole core c ≡ true → p ≡ c.pp → (b : Bool) → c.moves ≡ b → is_stale core p ≡ true
            of_kind c its runs whole same false stays = ap (is_stale core) same ∙ ((stale_of core c its stays).clearing runs whole).0
            of_kind c its runs whole same true moves = not_so (sym (no_copy core.descriptor lv lp c.pp (move_of core c its moves).free) ∙ ap (is_among (copies_in core.descriptor lv lp)) (sym same) ∙ among)

    by : (b : Bool) → is_held_stale core p ≡ b → b ≡ false
    by false is = refl
    by true is = not_so (sym (is_false (is_stale core p) parts.0) ∙ cleared (going.clearings p is (is_false (is_wanted_stale core p) parts.1)))

-- what stays fresh is sure
stays_sure : (core : Core) (p : Pp) → stays_fresh core p ≡ true → is_sure core p ≡ true
stays_sure core p e = by (is_stale core p) (calls_stale (unwrap_or core.status.in_flight core.status.committed) p) (is_wanted_stale core p) e
  where
    by : (a f w : Bool) → not (a || f) && not w ≡ true → not a && not w ≡ true
    by true f w g = not_so g
    by false true w g = not_so g
    by false false w g = g

any_among : (t : Pp → Bool) (ps : List Pp) (p : Pp) → is_among ps p ≡ true → t p ≡ true → list_any t ps ≡ true
any_among t [] p among is = not_so among
any_among t (q ∷ ps) p among is = by (is_pp p q) refl (λ e. any_among t ps p e is) among
  where
    by : (b : Bool) → is_pp p q ≡ b → (is_among ps p ≡ true → list_any t ps ≡ true) → b || is_among ps p ≡ true → t q || list_any t ps ≡ true
    by true same rest e = ap (λ b. b || list_any t ps) (ap t (sym (pp_same p q same)) ∙ is)
    by false other rest e = ap (λ b. t q || b) (rest e) ∙ or_true (t q)

pub back_twice : (pool : List Bool) (a b : Option Buffer) → with_back (with_back pool a) b ≡ with_back (with_back pool b) a
back_twice pool None b = refl
back_twice pool (Some a) None = refl
back_twice pool (Some a) (Some b) = twice pool a.number b.number
  where
    twice : (bs : List Bool) (i j : ℕ) → slice_set (slice_set bs i false) j false ≡ slice_set (slice_set bs j false) i false
    twice [] i j = refl
    twice (x ∷ bs) zero zero = refl
    twice (x ∷ bs) zero (suc j) = refl
    twice (x ∷ bs) (suc i) zero = refl
    twice (x ∷ bs) (suc i) (suc j) = ap (λ (rest : List Bool). x ∷ rest) (twice bs i j)

-- ---- the request has learned it

module _ (old : State) (sound : IsSound old) (on : old.core.power ≡ power.On) (media : Option Media) (counts : Counts) (more : (disk : ℕ) → old.device.counts.faults disk ≤ counts.faults disk)
    (place target : ℕ) (o : Open) (there : slice_get old.core.requests place ≡ Some o) (aim : Target) (aim_is : slice_get o.request.targets.items target ≡ Some aim)
    (at : ℕ) (row : Flown) (row_there : slice_get old.core.flying at ≡ Some row) (own : row.owner ≡ owner.Data o.request.id target) (ok : Bool) (buf : Buffer) (long : ok ≡ true → length buf.sectors ≡ 256)
    (f : Flight) (f_there : slice_get old.device.flights at ≡ Some f) (number : buf.number ≡ f.buf.number) (rose : ok ≡ false → Rose (old.device.counts.faults aim.pp.disk) (counts.faults aim.pp.disk)) where
  abbrev core : Core
  core = old.core

  abbrev s : State
  s = state (record old.device { media = media; counts = counts }) core

  sound_so : IsSound s
  sound_so = counts_keep old media counts sound more

  pub going : IsGoing core
  going = (sound.on on).going

  abbrev pub x : Open
  x = learnt core going place target o there aim aim_is at row row_there own ok buf long

  abbrev targets : List Target
  targets = o.request.targets.items

  abbrev now_targets : List Target
  now_targets = x.request.targets.items

  abbrev ask : Ask
  ask = o.request.ask

  abbrev ended : Target
  ended = at_state aim (end_state ok)

  waits_so : is_waiting o ≡ true
  waits_so = waits core going place target o there aim aim_is at row row_there own ok buf long

  flew : aim.state ≡ stage.Flying
  flew = was_flying core going place target o there aim aim_is at row row_there own ok buf long

  its_request : IsRequest core o
  its_request = request core going place target o there aim aim_is at row row_there own ok buf long

  its_shape : IsShaped core x
  its_shape = shape core going place target o there aim aim_is at row row_there own ok buf long

  -- what is so of a target as it was, or of the one that has ended
  was : (k : ℕ) (t : Target) → slice_get now_targets k ≡ Some t → (t ≡ ended) ⊎ (slice_get targets k ≡ Some t)
  was k t t_there = by (k == target) refl
    where
      by : (b : Bool) → (k == target) ≡ b → (t ≡ ended) ⊎ (slice_get targets k ≡ Some t)
      by true same = inl (let e : Some t ≡ Some ended = sym t_there ∙ ap (slice_get now_targets) (eqb-true k target same) ∙ set_here targets target aim ended aim_is in cc e)
      by false other = inr (sym (set_beside targets target k ended (eqb-false k target other)) ∙ t_there)

  -- ---- faults

  counted_before : AllByRecursion (IsCounted old) targets
  counted_before = all_at (AreCounted old) core.requests place o sound.counted there

  -- the disk has failed since any target on it was chosen, where this one has failed
  pub fault_of : (t : Target) → IsCounted old t → ok ≡ false → t.pp.disk ≡ aim.pp.disk → TargetHasFailed s.device t
  fault_of t its bad same = rose_since t.faults (old.device.counts.faults t.pp.disk) (counts.faults t.pp.disk) its.since (subst (λ d. Rose (old.device.counts.faults d) (counts.faults d)) (sym same) (rose bad))

  module _ (queue : Waiting) (copy : Option OpenCopy) (pool : List Bool) (due : Pp → Bool) (wanted : Status) (writes : Writes) (like : IsStaler due core.status.wanted wanted)
      (started : (d : ℕ) → has writes.started d ≡ has core.status.writes.started d) (status_sound : IsSoundStatus (seen (record core.status { wanted = wanted; writes = writes }))) (entailed : IsEntailed core x ok aim.pp queue copy pool due) where
    abbrev mid : Core
    mid = parted core queue copy pool

    abbrev pub marked : Core
    marked = staler mid due wanted writes like

    abbrev pub pool_now : List Bool
    pool_now = with_back pool (given_back o ok buf)

    abbrev requests : List Open
    requests = slice_set core.requests place x

    abbrev pub after : Core
    after = changed marked core.history requests queue copy pool_now (remove core.flying at) core.cache.entries core.last

    abbrev device : Device
    device = record old.device { media = media; counts = counts; flights = remove old.device.flights at }

    abbrev pub now : State
    now = state device after

    left : LeavesParts core queue copy pool
    left = entailed.left

    -- ---- requests

    still : (y : Open) → IsOpenOne core y → IsOpenOne after y
    still y it = open_on marked core.history requests queue copy pool_now (remove core.flying at) core.cache.entries core.last y (λ e. e) (λ p e. e) (λ q. refl) (one_staler mid due wanted writes like y (one_beside core queue copy pool left y it))

    uncaught_aim : is_write ask ≡ true → may_lack x ended && is_caught mid (group_in core ask) aim.pp ≡ false
    uncaught_aim write = by ok refl
      where
        older_one : o.older && is_caught core (group_in core ask) aim.pp ≡ false
        older_one = sym (ap (λ st. (is_failed st || o.older) && is_caught core (group_in core ask) aim.pp) flew)
            ∙ all_at (λ (t : Target). may_lack o t && is_caught core (group_in core ask) t.pp ≡ false) targets target aim (its_request.judged write).uncaught aim_is

        by : (b : Bool) → ok ≡ b → (is_failed (end_state b) || o.older) && is_caught mid (group_in core ask) aim.pp ≡ false
        by true e = and_on o.older (is_caught core (group_in core ask) aim.pp) (is_caught mid (group_in core ask) aim.pp) (left.caught (group_in core ask) aim.pp) older_one
        by false e = entailed.uncaught write e

    judged_so : is_write ask ≡ true → IsJudged after x
    judged_so write = let j = its_request.judged write in record {
      uncaught = all_set (λ (t : Target). may_lack o t && is_caught core (group_in core ask) t.pp ≡ false) (λ (t : Target). may_lack x t && is_caught mid (group_in core ask) t.pp ≡ false)
          (λ t is. and_on (may_lack o t) (is_caught core (group_in core ask) t.pp) (is_caught mid (group_in core ask) t.pp) (left.caught (group_in core ask) t.pp) is) targets target ended (uncaught_aim write) j.uncaught;
      due = λ status. due_so (is_write ask && are_over now_targets) refl status;
      missed = λ status. missed_so (is_write ask && are_over now_targets) refl status;
      all = λ begun p among. left_staler mid due wanted writes like x p
          (left_on (is_among (pps_of now_targets) p) (is_settled core p) (is_wanted_stale core p) (is_caught core (group_in core ask) p) (is_caught mid (group_in core ask) p) (left.caught (group_in core ask) p)
          (ap (λ ps. is_among ps p || is_left_out core ask p) (pps_set targets target aim (end_state ok) aim_is) ∙ j.all (begun_so core going place target o there aim aim_is at row row_there own ok buf long) p among));
      place = λ begun p among.
          let its = among_filtered (is_caught mid (group_in core ask)) (destinations_for mid ask) p among in
          ap (λ ps. is_among ps p) (pps_set targets target aim (end_state ok) aim_is)
          ∙ j.place (begun_so core going place target o there aim aim_is at row row_there own ok buf long) p (among_filter (is_caught core (group_in core ask)) (destinations_for core ask) p (caught_before p its.1) (ap (λ (ps : List Pp). is_among ps p) (left.places ask) ∙ its.0));
    }
      where
        caught_before : (p : Pp) → is_caught mid (group_in core ask) p ≡ true → is_caught core (group_in core ask) p ≡ true
        caught_before p caught = by (is_caught core (group_in core ask) p) refl
          where
            by : (b : Bool) → is_caught core (group_in core ask) p ≡ b → is_caught core (group_in core ask) p ≡ true
            by true is = is
            by false is = not_so (sym (left.caught (group_in core ask) p is) ∙ caught)

        none_kept : is_write ask && are_over now_targets ≡ true → is_kept core x.request ≡ false → is_kept marked x.request || will_be_kept mid x.request ≡ false
        none_kept over none = by (is_kept marked x.request) refl
          where
            by : (b : Bool) → is_kept marked x.request ≡ b → b || will_be_kept mid x.request ≡ false
            by false is = entailed.uncarried over none
            by true is = not_so (sym none ∙ kept_less mid due wanted writes like x.request is)

        -- a write that goes on waits for no status
        ended_not : {X : Type 0} → (is_write ask && are_over now_targets) ≡ false → wants_status o.request.phase ≡ true → X
        ended_not over status = not_so (sym (ap wants_status (in_data core going place target o there aim aim_is at row row_there own ok buf long)) ∙ status)

        due_so : (b : Bool) → (is_write ask && are_over now_targets) ≡ b → wants_status (if b then phase.WantStatus else o.request.phase) ≡ true → is_wanted_due marked x.request ≡ true
        due_so true over status = left_due core x.request marked over (λ p among. unsure_by marked p (due_wanted mid due wanted writes like p (entailed.wants p among))) (none_kept over)
        due_so false over status = ended_not over status

        missed_so : (b : Bool) → (is_write ask && are_over now_targets) ≡ b → wants_status (if b then phase.WantStatus else o.request.phase) ≡ true → AllByRecursion (IsMarkedDestination marked x.request) now_targets
        missed_so true over status = left_missed core x.request marked over (λ p among. unsure_by marked p (due_wanted mid due wanted writes like p (entailed.wants p among)))
        missed_so false over status = ended_not over status

    its_one : IsOpenOne after x
    its_one = record {
      laid = let l = laid core going place target o there aim aim_is at row row_there own ok buf long in record { within = l.within; blocks = l.blocks; most = l.most; id = l.id };
      waits = λ e. record {
        shape = shape_still core after refl left.places x its_shape;
        ready = ready_on marked core.history requests queue copy pool_now (remove core.flying at) core.cache.entries core.last x (λ free. free) (λ p free. free)
            (ready_staler mid due wanted writes like x.request
            (ready_on core core.history core.requests queue copy pool core.flying core.cache.entries core.last x (left.free (place_of o.request.id) (held_of ask)) (left.caught (group_in core ask)) (ready core going place target o there aim aim_is at row row_there own ok buf long)));
        judged = judged_so;
      };
      over = λ e. absurd (not_so (sym e ∙ waits_so));
      still = λ e. absurd (not_so (sym e ∙ waits_so));
    }

    -- ---- rooms, and the table

    fitting : IsFitting after
    fitting = let g = sound.fitting in record {
      valid = g.valid;
      id = like.id ∙ g.id;
      rows = λ disk. like.rows disk ∙ g.rows disk;
      group = g.group;
      entries = g.entries;
      notes = g.notes;
      table = subst (λ n. n ≤ core.most) (sym (length_set core.requests place x)) g.table;
      most = g.most;
      queue = left.room ∙ g.queue;
      a_buffer = subst (λ n. 1 ≤ n) (sym (back_long pool (given_back o ok buf) ∙ left.long)) g.a_buffer;
      buffers = subst (λ n. n ≤ 1024) (sym (back_long pool (given_back o ok buf) ∙ left.long)) g.buffers;
      last = g.last;
      room = g.room;
    }

    told_so : IsTold after
    told_so = let t = sound.told in record {
      ordered = t.ordered;
      table = told core going place target o there aim aim_is at row row_there own ok buf long;
      each = λ id. t.each id ∙ sym (any_set (λ (y : Open). is_waiting y && y.request.id == id) core.requests place o x there refl);
      requests = all_set (IsAsked core.history.facts) (IsAsked core.history.facts) (λ y is. is) core.requests place x (asked_now core going place target o there aim aim_is at row row_there own ok buf long) t.requests;
    }

    -- ---- the copy

    reviewed : copy_ends after ≡ None
    reviewed = by copy refl
      where
        by : (m : Option OpenCopy) → copy ≡ m → option_map_or (end_of after) m None ≡ None
        by None is = refl
        by (Some c) is = end_on mid due wanted writes like c (entailed.ends c is)

    -- ---- whose the transfers are

    other_own : (who : Owner) → same_owner who (owner.Data o.request.id target) ≡ false → same_owner who row.owner ≡ false
    other_own who other = ap (same_owner who) own ∙ other

    owned : AreOwned after
    owned (owner.Data id t) = by (id == o.request.id && t == target) refl
      where
        same_parts : (id == o.request.id && t == target) ≡ true → (id ≡ o.request.id) × (t ≡ target)
        same_parts e = let parts = both (id == o.request.id) (t == target) e in (eqb-true id o.request.id parts.0, eqb-true t target parts.1)

        by : (b : Bool) → (id == o.request.id && t == target) ≡ b → count_by (λ (g : Flown). same_owner (owner.Data id t) g.owner) (remove core.flying at) ≡ count_if (flies after (owner.Data id t))
        by false other = as_many core going.owned at row row_there (owner.Data id t) (other_own (owner.Data id t) other) ∙ going.owned (owner.Data id t)
            ∙ ap count_if (sym (others_fly core going place target o there aim aim_is at row row_there own ok buf long id t other))
        by true same =
            ap (λ i. count_by (λ (g : Flown). same_owner (owner.Data i t) g.owner) (remove core.flying at)) (same_parts same).0 ∙ ap (λ i. count_by (λ (g : Flown). same_owner (owner.Data o.request.id i) g.owner) (remove core.flying at)) (same_parts same).1
            ∙ ap (λ who. count_by (λ (g : Flown). same_owner who g.owner) (remove core.flying at)) (sym own) ∙ none_left core going.owned at row row_there
            ∙ sym (ap (λ i. count_if (flies after (owner.Data i t))) (same_parts same).0 ∙ ap (λ i. count_if (flies after (owner.Data o.request.id i))) (same_parts same).1
            ∙ ap count_if (none_flies core going place target o there aim aim_is at row row_there own ok buf long))
    owned (owner.Status d) = as_many core going.owned at row row_there (owner.Status d) (other_own (owner.Status d) refl) ∙ going.owned (owner.Status d) ∙ ap count_if (sym (started d))
    owned (owner.Note d) = as_many core going.owned at row row_there (owner.Note d) (other_own (owner.Note d) refl) ∙ going.owned (owner.Note d)
    owned owner.Copy = as_many core going.owned at row row_there owner.Copy (other_own owner.Copy refl) ∙ going.owned owner.Copy ∙ ap count_if (sym left.out)

    data_on : (id t : ℕ) (g : Flight) → same_owner (owner.Data o.request.id target) (owner.Data id t) ≡ false → IsDataOf marked id t g → IsDataOf after id t g
    data_on id t g other of = by (of.place == place) (t == target) refl refl
      where
        same : (of.place == place) ≡ true → o ≡ of.request
        same is = cc (sym there ∙ ap (slice_get core.requests) (sym (eqb-true of.place place is)) ∙ of.there)

        by : (a b : Bool) → (of.place == place) ≡ a → (t == target) ≡ b → IsDataOf after id t g
        by false b is its_target = record { place = of.place; request = of.request; there = set_beside core.requests place of.place x (eqb-false of.place place is) ∙ of.there; own = of.own; aim = of.aim; aim_is = of.aim_is; moves = let m = of.moves in record { disk_is = m.disk_is; first = m.first; count = m.count; write = m.write; carries = m.carries } }
        by true true is its_target =
            let named : o.request.id ≡ id = ap (λ (y : Open). y.request.id) (same is) ∙ of.own in
            not_so (sym other ∙ ap (λ b. b && target == t) (eq-eqb o.request.id id named) ∙ eq-eqb target t (sym (eqb-true t target its_target)))
        by true false is its_target = record {
          place = place;
          request = x;
          there = set_here core.requests place o x there;
          own = ap (λ (y : Open). y.request.id) (same is) ∙ of.own;
          aim = of.aim;
          aim_is = set_beside targets target t ended (eqb-false t target its_target) ∙ ap (λ (y : Open). slice_get y.request.targets.items t) (same is) ∙ of.aim_is;
          moves = let m = subst (λ (y : Open). IsDataTransfer marked y.request of.aim g) (sym (same is)) of.moves in record { disk_is = m.disk_is; first = m.first; count = m.count; write = m.write; carries = m.carries };
        }

    transfer_on : (who : Owner) (g : Flight) → same_owner (owner.Data o.request.id target) who ≡ false → IsTransferOf marked who g → IsTransferOf after who g
    transfer_on (owner.Data id t) g other of = data_on id t g other of
    transfer_on (owner.Status d) g other of = status_still marked after refl d g of
    transfer_on (owner.Note d) g other of = record { note = of.note; flies = of.flies; disk_is = of.disk_is; first = of.first; count = of.count; write = of.write; carries = of.carries }
    transfer_on owner.Copy g other of = (of.0, of.1, step_still marked after refl of.0.step of.0 g of.2)

    -- ---- buffers

    -- a read whose transfer is out has got nothing yet
    nothing_got : is_write ask ≡ false → (n : ℕ) → count_if (is_hand n o.got) ≡ 0
    nothing_got read n = by o.got (its_request.shape.hand ∙ ap (λ b. not b && list_any (λ (t : Target). is_done t.state) targets) read ∙ none_done core going place target o there aim aim_is at row row_there own ok buf long read)
      where
        by : (m : Option Buffer) → is_some m ≡ false → count_if (is_hand n m) ≡ 0
        by None e = refl
        by (Some b) e = not_so (sym e)

    out : (n : ℕ) → out_with device after n ≡ count_if (slice_index_or pool_now n false)
    out n =
        let was_out = sound.none_lost (ap is_dark on) n in
        let less = count_taken (λ (g : Flight). has_number n g.buf) old.device.flights at f f_there in
        let its = count_set (λ (y : Open). is_hand n y.got) core.requests place o x there in
        let given = left.hands n in
        let back_so = by ok (is_write ask) refl refl in
        omega (arith, was_out, less, its, given, back_so)
      where
        hand_is : count_if (is_hand n (Some buf)) ≡ count_if (has_number n f.buf)
        hand_is = ap (λ k. count_if (k == n)) number

        -- what came back is in hand, or in the pool
        by : (b w : Bool) → ok ≡ b → is_write ask ≡ w
            → count_if (slice_index_or (with_back pool (if b && not w then None else Some buf)) n false) + count_if (has_number n f.buf) + count_if (is_hand n o.got)
            ≡ count_if (slice_index_or pool n false) + count_if (is_hand n (if b && not w then Some buf else o.got))
        by true false i j = let hand = hand_is in let none = nothing_got j n in omega (arith, hand, none)
        by true true i j = free_again
          where
            free_again : count_if (slice_index_or (with_back pool (Some buf)) n false) + count_if (has_number n f.buf) + count_if (is_hand n o.got) ≡ count_if (slice_index_or pool n false) + count_if (is_hand n o.got)
            free_again =
                let was_out = sound.none_lost (ap is_dark on) n in
                let less = count_taken (λ (g : Flight). has_number n g.buf) old.device.flights at f f_there in
                let given = left.hands n in
                let hand = hand_is in
                let again = back pool (Some buf) n (omega (arith, was_out, less, given, hand)) in
                omega (arith, hand, again)
        by false w i j = free_again
          where
            free_again : count_if (slice_index_or (with_back pool (Some buf)) n false) + count_if (has_number n f.buf) + count_if (is_hand n o.got) ≡ count_if (slice_index_or pool n false) + count_if (is_hand n o.got)
            free_again =
                let was_out = sound.none_lost (ap is_dark on) n in
                let less = count_taken (λ (g : Flight). has_number n g.buf) old.device.flights at f f_there in
                let given = left.hands n in
                let hand = hand_is in
                let again = back pool (Some buf) n (omega (arith, was_out, less, given, hand)) in
                omega (arith, hand, again)

    -- ---- a logical partition keeps a fresh copy

    -- a copy that is sure and due is a target beside another one, which is sure and isn't
    module _ (lv lp k : ℕ) (q : Pp) (q_there : slice_get (copies_in core.descriptor lv lp) k ≡ Some q) (q_stays : stays_fresh core q ≡ true) (its : is_among (due_of core x.request) q ≡ true) where
      abbrev one : IsDueOne core x.request q
      one = due_one core x.request q its

      its_target : (j : ℕ) (t : Target) → slice_get now_targets j ≡ Some t → IsTarget core ask t
      its_target j t t_there = all_at (IsTarget core ask) now_targets j t its_shape.targets t_there

      among : is_among (copies_in core.descriptor lv lp) q ≡ true
      among = among_get (copies_in core.descriptor lv lp) k q q_there

      -- it is a copy, and so no place to which one moves
      stands_so : one.it.target.moves ≡ false
      stands_so = no_place core going lv lp q among ask one.it.target (its_target one.it.place one.it.target one.it.there) one.it.pp_is

      other : IsSpared (is_sure_target core) now_targets (due_targets core x.request)
      other = spared core x.request its_shape.differ q its (all_and (not one.it.target.moves) (is_sure core one.it.target.pp) (ap not stands_so) (ap (is_sure core) (sym one.it.pp_is) ∙ stays_sure core q q_stays))

      other_sure : (not other.target.moves ≡ true) × (is_sure core other.target.pp ≡ true)
      other_sure = both (not other.target.moves) (is_sure core other.target.pp) other.passes

      its_lp : (lv ≡ lv_of ask) × (lp ≡ lp_of core ask)
      its_lp = one_lp core.descriptor sound.fitting.valid lv lp (lv_of ask) (lp_of core ask) q among
          (ap (is_among (copies_for core ask)) one.it.pp_is ∙ subst (λ (b : Bool). IsAimed b core ask one.it.target) stands_so (its_target one.it.place one.it.target one.it.there).copy)

      other_among : is_among (copies_in core.descriptor lv lp) other.target.pp ≡ true
      other_among = ap (λ n. is_among (copies_in core.descriptor n lp) other.target.pp) its_lp.0 ∙ ap (λ n. is_among (copies_in core.descriptor (lv_of ask) n) other.target.pp) its_lp.1 ∙ subst (λ (b : Bool). IsAimed b core ask other.target) (is_false other.target.moves other_sure.0) (its_target other.place other.target other.there).copy

      other_held : is_held_stale core other.target.pp ≡ false
      other_held = sure_not_held core going lv lp other.target.pp other_among other_sure.1

      undue : due other.target.pp ≡ false
      undue = of (due other.target.pp) refl
        where
          no : (is_among (due_of core x.request) other.target.pp ≡ true) ⊎ (is_held_stale core other.target.pp ≡ true) → false ≡ true
          no (inl e) = sym other.apart ∙ sym (ap (λ (b : Bool). is_among (if b then pps_of (due_targets core x.request) else []) other.target.pp) one.over) ∙ e
          no (inr e) = sym other_held ∙ e

          of : (b : Bool) → due other.target.pp ≡ b → b ≡ false
          of false e = refl
          of true e = not_so (no (entailed.due_is other.target.pp e))

      stays_other : stays_fresh core other.target.pp ≡ true
      stays_other = ap (λ b. not b && not (is_wanted_stale core other.target.pp)) other_held ∙ (both (not (is_stale core other.target.pp)) (not (is_wanted_stale core other.target.pp)) other_sure.1).1

      some_stays : list_any (stays_fresh after) (copies_in core.descriptor lv lp) ≡ true
      some_stays = any_among (stays_fresh after) (copies_in core.descriptor lv lp) other.target.pp other_among (stays_on mid due wanted writes like other.target.pp stays_other undue)

    fresh : (lv lp : ℕ) → list_any (may_be_fresh after) (copies_in core.descriptor lv lp) ≡ true → list_any (stays_fresh after) (copies_in core.descriptor lv lp) ≡ true
    fresh lv lp may = by (due found.1) refl
      where
        copies : List Pp
        copies = copies_in core.descriptor lv lp

        found : (k : ℕ) × (p : Pp) × (slice_get copies k ≡ Some p) × (stays_fresh core p ≡ true)
        found = found_at (stays_fresh core) copies (going.fresh lv lp (any_on (may_be_fresh after) (may_be_fresh core) (λ p e. may_less mid due wanted writes like p e) copies may))

        held_not : is_held_stale core found.1 ≡ true → false ≡ true
        held_not held = sym (sure_not_held core going lv lp found.1 (among_get copies found.0 found.1 found.2) (stays_sure core found.1 found.3)) ∙ held

        of : (is_among (due_of core x.request) found.1 ≡ true) ⊎ (is_held_stale core found.1 ≡ true) → list_any (stays_fresh after) copies ≡ true
        of (inl its) = some_stays lv lp found.0 found.1 found.2 found.3 its
        of (inr held) = not_so (held_not held)

        by : (b : Bool) → due found.1 ≡ b → list_any (stays_fresh after) copies ≡ true
        by false none = any_passes_from_place (stays_fresh after) copies found.0 found.1 found.2 (stays_on mid due wanted writes like found.1 found.3 none)
        by true is = of (entailed.due_is found.1 is)

    bring : IfSome copy (IsCopy after)
    bring = by copy refl left.bring
      where
        by : (m : Option OpenCopy) → copy ≡ m → IfSome m (IsCopy mid) → IfSome m (IsCopy after)
        by None is it = tt
        by (Some c) is it = bring_on marked core.history requests queue copy pool_now (remove core.flying at) core.cache.entries core.last c (omega arith) (λ e. e) (bring_staler mid due wanted writes like fresh c (entailed.apart c is) it)

    -- ---- causes

    -- a target that has failed was one before, or is the one that failed now
    failed_was : (t : Target) (k : ℕ) → slice_get now_targets k ≡ Some t → is_failed t.state ≡ true → (fails_on t.pp o ≡ true) ⊎ (is_write ask ≡ false) ⊎ ((ok ≡ false) × (t.pp ≡ aim.pp))
    failed_was t k t_there failed = by (was k t t_there)
      where
        here : (w : Bool) → is_write ask ≡ w → slice_get targets k ≡ Some t → (fails_on t.pp o ≡ true) ⊎ (is_write ask ≡ false) ⊎ ((ok ≡ false) × (t.pp ≡ aim.pp))
        here false e same = inr (inl e)
        here true e same = inl (ap (λ b. b && is_write ask && list_any (λ (u : Target). is_failed u.state && is_pp t.pp u.pp) targets) waits_so ∙ ap (λ b. b && list_any (λ (u : Target). is_failed u.state && is_pp t.pp u.pp) targets) e
            ∙ any_passes_from_place (λ (u : Target). is_failed u.state && is_pp t.pp u.pp) targets k t same (all_and (is_failed t.state) (is_pp t.pp t.pp) failed (own_pp t.pp)))

        by : (t ≡ ended) ⊎ (slice_get targets k ≡ Some t) → (fails_on t.pp o ≡ true) ⊎ (is_write ask ≡ false) ⊎ ((ok ≡ false) × (t.pp ≡ aim.pp))
        by (inl is) = inr (inr (failed_badly ok (sym (ap (λ (u : Target). is_failed u.state) is) ∙ failed), ap (λ (u : Target). u.pp) is))
        by (inr same) = here (is_write ask) refl same

    -- what is held against a partition was before, or the transfer on it has failed now
    abbrev Blame : Pp → Type 0
    Blame p = (is_blamed core p ≡ true) ⊎ ((ok ≡ false) × (p ≡ aim.pp))

    unsure_blamed : (p : Pp) → is_sure core p ≡ false → is_blamed core p ≡ true
    unsure_blamed p e = by (is_missing core p.disk) (is_wanted_stale core p) (is_stale core p) (calls_stale (unwrap_or core.status.in_flight core.status.committed) p) (list_any (fails_on p) core.requests) e
      where
        by : (m w a g y : Bool) → not a && not w ≡ false → m || w || (a || g) || y ≡ true
        by true w a g y h = refl
        by false true a g y h = refl
        by false false true g y h = refl
        by false false false g y h = not_so (sym h)

    held_blamed : (p : Pp) → is_held_stale core p ≡ true → is_blamed core p ≡ true
    held_blamed p e = by (is_missing core p.disk) (is_wanted_stale core p) (is_held_stale core p) (list_any (fails_on p) core.requests) e
      where
        by : (m w h y : Bool) → h ≡ true → m || w || h || y ≡ true
        by true w h y g = refl
        by false true h y g = refl
        by false false true y g = refl
        by false false false y g = not_so g

    fails_blamed : (p : Pp) → list_any (fails_on p) core.requests ≡ true → is_blamed core p ≡ true
    fails_blamed p e = ap (λ b. is_missing core p.disk || is_wanted_stale core p || is_held_stale core p || b) e ∙ or_true (is_missing core p.disk || is_wanted_stale core p || is_held_stale core p)

    its_fails : (p : Pp) → fails_on p o ≡ true → is_blamed core p ≡ true
    its_fails p e = fails_blamed p (any_passes_from_place (fails_on p) core.requests place o there e)

    -- a target that was usable is a copy
    usable_copy : (q : Ask) (t : Target) → IsTarget core q t → t.usable ≡ true → is_among (copies_for core q) t.pp ≡ true
    usable_copy q t aimed usable = by t.moves aimed.copy
      where
        by : (b : Bool) → IsAimed b core q t → is_among (copies_for core q) t.pp ≡ true
        by false copy = copy
        by true at = not_so (sym at.2 ∙ usable)

    due_blamed : (lv lp : ℕ) (p : Pp) → is_among (copies_in core.descriptor lv lp) p ≡ true → due p ≡ true → Blame p
    due_blamed lv lp p copy is = of (entailed.due_is p is)
      where
        of : (is_among (due_of core x.request) p ≡ true) ⊎ (is_held_stale core p ≡ true) → Blame p
        of (inr held) = inl (held_blamed p held)
        of (inl its) = of_one one.blame
          where
            one : IsDueOne core x.request p
            one = due_one core x.request p its

            stays : one.it.target.moves ≡ false
            stays = no_place core going lv lp p copy ask one.it.target (all_at (IsTarget core ask) now_targets one.it.place one.it.target its_shape.targets one.it.there) one.it.pp_is

            of_one : (is_failed one.it.target.state ≡ true) ⊎ (is_sure_at core one.it.target ≡ false) → Blame p
            of_one (inr unsure) = inl (unsure_blamed p (ap (is_sure core) one.it.pp_is ∙ sym (ap (λ b. not b && is_sure core one.it.target.pp) stays) ∙ unsure))
            of_one (inl failed) = of_failed (failed_was one.it.target one.it.place one.it.there failed)
              where
                of_failed : (fails_on one.it.target.pp o ≡ true) ⊎ (is_write ask ≡ false) ⊎ ((ok ≡ false) × (one.it.target.pp ≡ aim.pp)) → Blame p
                of_failed (inl before) = inl (its_fails p (ap (λ q. fails_on q o) one.it.pp_is ∙ before))
                of_failed (inr (inl read)) = not_so (sym read ∙ (both (is_write ask) (are_over now_targets) one.over).0)
                of_failed (inr (inr now_failed)) = inr (now_failed.0, one.it.pp_is ∙ now_failed.1)

    blame_back : (lv lp : ℕ) (p : Pp) → is_among (copies_in core.descriptor lv lp) p ≡ true → is_blamed after p ≡ true → Blame p
    blame_back lv lp p copy e = of (either (is_missing marked p.disk || is_wanted_stale marked p || is_held_stale core p) (list_any (fails_on p) requests) e)
      where
        of_fails : (list_any (fails_on p) core.requests ≡ true) ⊎ (fails_on p x ≡ true) → Blame p
        of_fails (inl before) = inl (fails_blamed p before)
        of_fails (inr its) =
            let parts = both (is_waiting o && is_write ask) (list_any (λ (u : Target). is_failed u.state && is_pp p u.pp) now_targets) its in
            let one = found_at (λ (u : Target). is_failed u.state && is_pp p u.pp) now_targets parts.1 in
            let its_parts = both (is_failed one.1.state) (is_pp p one.1.pp) one.3 in
            of_failed one.1 (pp_same p one.1.pp its_parts.1) (both (is_waiting o) (is_write ask) parts.0).1 (failed_was one.1 one.0 one.2 its_parts.0)
          where
            of_failed : (t : Target) → p ≡ t.pp → is_write ask ≡ true → (fails_on t.pp o ≡ true) ⊎ (is_write ask ≡ false) ⊎ ((ok ≡ false) × (t.pp ≡ aim.pp)) → Blame p
            of_failed t same write (inl before) = inl (its_fails p (ap (λ q. fails_on q o) same ∙ before))
            of_failed t same write (inr (inl read)) = not_so (sym read ∙ write)
            of_failed t same write (inr (inr now_failed)) = inr (now_failed.0, same ∙ now_failed.1)

        of_mark : (is_blamed mid p ≡ true) ⊎ (due p ≡ true) → Blame p
        of_mark (inl before) = inl before
        of_mark (inr is) = due_blamed lv lp p copy is

        of : (is_missing marked p.disk || is_wanted_stale marked p || is_held_stale core p ≡ true) ⊎ (list_any (fails_on p) requests ≡ true) → Blame p
        of (inl first) = of_mark (blamed_by mid due wanted writes like p (ap (λ b. b || list_any (fails_on p) core.requests) first))
        of (inr fails) = of_fails (set_either (fails_on p) core.requests place x fails)

    target_caused : (q : Ask) (t : Target) → IsTarget core q t × (IsCaused s.device core t × IsCounted old t) → IsCaused device after t
    target_caused q t its e = of (either (is_failed t.state) (t.usable && is_blamed after t.pp) e)
      where
        blamed_of : t.usable ≡ true → Blame t.pp → TargetHasFailed device t
        blamed_of can (inl before) = its.1.0 (ap (λ b. is_failed t.state || b) (all_and t.usable (is_blamed core t.pp) can before) ∙ or_true (is_failed t.state))
        blamed_of can (inr now_failed) = fault_of t its.1.1 now_failed.0 (ap (λ (p : Pp). p.disk) now_failed.1)

        of : (is_failed t.state ≡ true) ⊎ (t.usable && is_blamed after t.pp ≡ true) → TargetHasFailed device t
        of (inl failed) = its.1.0 (ap (λ b. b || (t.usable && is_blamed core t.pp)) failed)
        of (inr blame) = let parts = both t.usable (is_blamed after t.pp) blame in blamed_of parts.0 (blame_back (lv_of q) (lp_of core q) t.pp (usable_copy q t its.0 parts.0) parts.1)

    -- what is so of a target of a request, and of a request
    abbrev IsKnown : Ask → Target → Type 0
    IsKnown q t = IsTarget core q t × (IsCaused s.device core t × IsCounted old t)

    abbrev AreKnown : Open → Type 0
    AreKnown y = IsOpenOne core y × (AreCaused s.device core y × AreCounted old y)

    caused_on : (y : Open) → AreKnown y → AreCaused device after y
    caused_on y its waiting = all_weaker (IsKnown y.request.ask) (IsCaused device after) (target_caused y.request.ask) y.request.targets.items
        (all_both (IsTarget core y.request.ask) (λ (t : Target). IsCaused s.device core t × IsCounted old t) y.request.targets.items (its.0.waits waiting).shape.targets
        (all_both (IsCaused s.device core) (IsCounted old) y.request.targets.items (its.1.0 waiting) its.1.1))

    pairs : AllByRecursion AreKnown core.requests
    pairs = all_both (IsOpenOne core) (λ (y : Open). AreCaused s.device core y × AreCounted old y) core.requests going.requests (all_both (AreCaused s.device core) (AreCounted old) core.requests (sound_so.on on).caused sound.counted)

    its_pairs : AllByRecursion (λ (t : Target). IsCaused s.device core t × IsCounted old t) targets
    its_pairs = let both_so = all_at AreKnown core.requests place o pairs there in all_both (IsCaused s.device core) (IsCounted old) targets (both_so.1.0 waits_so) both_so.1.1

    its_caused : AllByRecursion (IsCaused device after) now_targets
    its_caused = all_set (IsKnown ask) (IsCaused device after) (target_caused ask) targets target ended ended_caused (all_both (IsTarget core ask) (λ (t : Target). IsCaused s.device core t × IsCounted old t) targets its_request.shape.targets its_pairs)
      where
        aim_pair : IsCaused s.device core aim × IsCounted old aim
        aim_pair = all_at (λ (t : Target). IsCaused s.device core t × IsCounted old t) targets target aim its_pairs aim_is

        blamed_of : aim.usable ≡ true → Blame aim.pp → TargetHasFailed device ended
        blamed_of can (inl before) = aim_pair.0 (ap (λ b. is_failed aim.state || b) (all_and aim.usable (is_blamed core aim.pp) can before) ∙ or_true (is_failed aim.state))
        blamed_of can (inr now_failed) = fault_of aim aim_pair.1 now_failed.0 refl

        of : (is_failed (end_state ok) ≡ true) ⊎ (aim.usable && is_blamed after aim.pp ≡ true) → TargetHasFailed device ended
        of (inl failed) = fault_of aim aim_pair.1 (failed_badly ok failed) refl
        of (inr blame) =
            let parts = both aim.usable (is_blamed after aim.pp) blame in
            blamed_of parts.0 (blame_back (lv_of ask) (lp_of core ask) aim.pp (usable_copy ask aim (all_at (IsTarget core ask) targets target aim its_request.shape.targets aim_is) parts.0) parts.1)

        ended_caused : IsCaused device after ended
        ended_caused e = of (either (is_failed (end_state ok)) (aim.usable && is_blamed after aim.pp) e)

    counted_on : (y : Open) → AreCounted s y → AreCounted now y
    counted_on y all = all_weaker (IsCounted s) (IsCounted now) (λ t count. record { began = count.began; since = count.since }) y.request.targets.items all

    its_counted : AreCounted now x
    its_counted = let all = all_at (AreCounted s) core.requests place o sound_so.counted there in
        all_set (IsCounted s) (IsCounted now) (λ t count. record { began = count.began; since = count.since }) targets target ended (let i = all_at (IsCounted s) targets target aim all aim_is in record { began = i.began; since = i.since }) all

    its_chosen : (c : OpenCopy) → IsChosenSince core c o → IsChosenSince after c x
    its_chosen c all waiting older n p p_at =
        let each = all waiting older n p p_at in
        all_set Since Since (λ t is. is) targets target ended (all_at Since targets target aim each aim_is) each
      where
        Since : Target → Type 0
        Since t = (t.pp ≡ p → faults_at_opening c n ≤ t.faults) × (t.pp ≡ c.pp → own_faults c ≤ t.faults)

    -- ---- why the copy failed

    sources_on : (copies : List Pp) (c : OpenCopy) {own_disk : Type 0} → own_disk ⊎ HaveSourcesFailed s copies c → own_disk ⊎ HaveSourcesFailed now copies c
    sources_on copies c (inl it) = inl it
    sources_on copies c (inr all) = inr (record {
      each = λ n p n_at is. all.each n p n_at (sure_before (not (is_pp p c.pp)) p is);
      number = all.number;
      source = all.source;
      source_is = all.source_is;
      other = all.other;
      one = all.one;
    })
      where
        sure_before : (b : Bool) (p : Pp) → b && is_sure after p && not (is_missing after p.disk) ≡ true → b && is_sure core p && not (is_missing core p.disk) ≡ true
        sure_before b p e =
            let parts = both (b && is_sure after p) (not (is_missing after p.disk)) e in
            let more_parts = both b (is_sure after p) parts.0 in
            all_and (b && is_sure core p) (not (is_missing core p.disk)) (all_and b (is_sure core p) more_parts.0 (sure_less mid due wanted writes like p more_parts.1)) (ap not (sym (missing_same mid due wanted writes like p.disk)) ∙ parts.1)

    pub same_cause : (copies : List Pp) (c : OpenCopy) → IsCausedAmong s copies c → IsCausedAmong now copies c
    same_cause copies c its = record { began = its.began; since = its.since; tried = its.tried; own_began = its.own_began; own_since = its.own_since; failed = λ e. sources_on copies c (its.failed e) }

    module _ (c : OpenCopy) (is : core.copy ≡ Some c) (hit : hits_copy core x ok aim.pp c ≡ true) where
      abbrev copies : List Pp
      copies = copies_in core.descriptor c.lv c.lp

      abbrev failed_copy : OpenCopy
      failed_copy = with_copy_end c ending.SyncFailed

      bringing : IsCopy core c
      bringing = subst (λ m. IfSome m (IsCopy core)) is going.copy

      before : IsCausedAmong old copies c
      before = subst (λ m. IfSome m (λ (k : OpenCopy). IsCausedAmong old (copies_in core.descriptor k.lv k.lp) k)) is sound.copy

      before_s : IsCausedAmong s copies c
      before_s = subst (λ m. IfSome m (λ (k : OpenCopy). IsCausedAmong s (copies_in core.descriptor k.lv k.lp) k)) is sound_so.copy

      chosen_since : IsChosenSince after c x
      chosen_since = its_chosen c (all_at (IsChosenSince core c) core.requests place o (subst (λ m. IfSome m (λ (k : OpenCopy). AllByRecursion (IsChosenSince core k) core.requests)) is (sound.on on).chosen) there)

      -- how it was hit
      by_write : (is_write ask ≡ true) × (is_running c ≡ true)
      by_write = both (is_write ask) (is_running c) (both (is_write ask && is_running c) (not ok && is_pp aim.pp c.pp || (are_over now_targets && not (is_kept core x.request) && not o.older && is_among (due_of core x.request) c.pp)) hit).0

      -- a target that was chosen since, and whose disk has failed since then
      since_opening : o.older ≡ false → (k : ℕ) (t : Target) → slice_get now_targets k ≡ Some t → TargetHasFailed device t → (n : ℕ) → copy_at copies n ≡ Some t.pp → FailedSinceOpening device failed_copy n t.pp
      since_opening young k t t_there failed n n_at =
          rose_since (faults_at_opening c n) t.faults (counts.faults t.pp.disk) ((all_at (λ (u : Target). (u.pp ≡ t.pp → faults_at_opening c n ≤ u.faults) × (u.pp ≡ c.pp → own_faults c ≤ u.faults)) now_targets k t (chosen_since waits_so young n t.pp n_at) t_there).0 refl) failed

      -- so is one on its own disk
      own_since_opening : o.older ≡ false → (k : ℕ) (t : Target) → slice_get now_targets k ≡ Some t → TargetHasFailed device t → t.pp ≡ c.pp → OwnFailedSinceOpening device failed_copy
      own_since_opening young k t t_there failed same =
          let it = numbered core c bringing in
          subst (λ (d : ℕ). Rose (own_faults c) (counts.faults d)) (ap (λ (q : Pp). q.disk) same)
          (rose_since (own_faults c) t.faults (counts.faults t.pp.disk) ((all_at (λ (u : Target). (u.pp ≡ it.0 → faults_at_opening c c.copy ≤ u.faults) × (u.pp ≡ c.pp → own_faults c ≤ u.faults)) now_targets k t (chosen_since waits_so young c.copy it.0 it.1) t_there).1 same) failed)

      module _ (over : are_over now_targets ≡ true) (unkept : is_kept core x.request ≡ false) (young : o.older ≡ false) (among : is_among (due_of core x.request) c.pp ≡ true) where
        lost_one : IsDueOne core x.request c.pp
        lost_one = due_one core x.request c.pp among

        -- one that was usable is no destination of a move
        stands : (k : ℕ) (t : Target) → slice_get now_targets k ≡ Some t → t.usable ≡ true → t.moves ≡ false
        stands k t t_there usable = by t.moves refl (all_at (IsTarget core ask) now_targets k t its_shape.targets t_there).copy
          where
            by : (b : Bool) → t.moves ≡ b → IsAimed b core ask t → t.moves ≡ false
            by false e copy = e
            by true e place = not_so (sym place.2 ∙ usable)

        target_copy : (k : ℕ) (t : Target) → slice_get now_targets k ≡ Some t → t.usable ≡ true → is_among (copies_for core ask) t.pp ≡ true
        target_copy k t t_there usable = subst (λ (b : Bool). IsAimed b core ask t) (stands k t t_there usable) (all_at (IsTarget core ask) now_targets k t its_shape.targets t_there).copy

        same_lp : (c.lv ≡ lv_of ask) × (c.lp ≡ lp_of core ask)
        same_lp =
            let it = target_lp core going c is ask lost_one.it.target (all_at (IsTarget core ask) now_targets lost_one.it.place lost_one.it.target its_shape.targets lost_one.it.there) (sym lost_one.it.pp_is) in
            (sym it.0, sym it.1)

        same_copies : copies ≡ copies_for core ask
        same_copies = ap (λ n. copies_in core.descriptor n c.lp) same_lp.0 ∙ ap (λ n. copies_in core.descriptor (lv_of ask) n) same_lp.1

        -- one that ended as it doesn't keep the write has failed
        unkept_fails : (k : ℕ) (t : Target) → slice_get now_targets k ≡ Some t → is_sure_at core t ≡ true → is_failed t.state ≡ true
        unkept_fails k t t_there sure = by (is_done t.state) (is_failed t.state) refl (all_true_at (λ (u : Target). is_ended u.state) now_targets k t over t_there)
          where
            by : (a b : Bool) → is_done t.state ≡ a → a || b ≡ true → b ≡ true
            by false b e some = some
            by true b e some = not_so (sym unkept ∙ any_passes_from_place (is_sure_done core) now_targets k t t_there (all_and (is_done t.state) (is_sure_at core t) e sure))

        has_failed_now : (k : ℕ) (t : Target) → slice_get now_targets k ≡ Some t → is_failed t.state ≡ true → TargetHasFailed device t
        has_failed_now k t t_there failed = all_at (IsCaused device after) now_targets k t its_caused t_there (ap (λ b. b || (t.usable && is_blamed after t.pp)) failed)

        -- the one that was usable has failed since
        usable_one : (k : ℕ) × (t : Target) × (slice_get now_targets k ≡ Some t) × (t.usable ≡ true)
        usable_one = found_at (λ (t : Target). t.usable) now_targets (any_set (λ (t : Target). t.usable) targets target aim ended aim_is refl ∙ its_request.shape.usable (past core going place target o there aim aim_is at row row_there own ok buf long))

        usable_failed : TargetHasFailed device usable_one.1
        usable_failed = by (is_sure core usable_one.1.pp) refl
          where
            by_was : is_blamed core usable_one.1.pp ≡ true → (usable_one.1 ≡ ended) ⊎ (slice_get targets usable_one.0 ≡ Some usable_one.1) → TargetHasFailed device usable_one.1
            by_was blamed (inl now_ended) = subst (TargetHasFailed device) (sym now_ended) ((all_at (λ (t : Target). IsCaused s.device core t × IsCounted old t) targets target aim its_pairs aim_is).0
                (ap (λ b. is_failed aim.state || b) (all_and aim.usable (is_blamed core aim.pp) (sym (ap (λ (t : Target). t.usable) now_ended) ∙ usable_one.3) (sym (ap (λ (t : Target). is_blamed core t.pp) now_ended) ∙ blamed)) ∙ or_true (is_failed aim.state)))
            by_was blamed (inr before_it) = (all_at (λ (t : Target). IsCaused s.device core t × IsCounted old t) targets usable_one.0 usable_one.1 its_pairs before_it).0
                (ap (λ b. is_failed usable_one.1.state || b) (all_and usable_one.1.usable (is_blamed core usable_one.1.pp) usable_one.3 blamed) ∙ or_true (is_failed usable_one.1.state))

            by : (b : Bool) → is_sure core usable_one.1.pp ≡ b → TargetHasFailed device usable_one.1
            by true sure = has_failed_now usable_one.0 usable_one.1 usable_one.2 (unkept_fails usable_one.0 usable_one.1 usable_one.2 (all_and (not usable_one.1.moves) (is_sure core usable_one.1.pp) (ap not (stands usable_one.0 usable_one.1 usable_one.2 usable_one.3)) sure))
            by false unsure = by_was (unsure_blamed usable_one.1.pp unsure) (was usable_one.0 usable_one.1 usable_one.2)

        -- so has each other copy that is sure
        each_source : (n : ℕ) (p : Pp) → copy_at copies n ≡ Some p → not (is_pp p c.pp) && is_sure after p && not (is_missing after p.disk) ≡ true → FailedSinceOpening device failed_copy n p
        each_source n p n_at is_source = by (either (is_among (pps_of targets) p) (is_left_out core ask p) ((its_request.judged by_write.0).all (begun_so core going place target o there aim aim_is at row row_there own ok buf long) p (ap (λ ps. is_among ps p) (sym same_copies) ∙ among_get copies (n - 1) p (by_place copies n p n_at))))
          where
            sure : is_sure core p ≡ true
            sure = sure_less mid due wanted writes like p (both (not (is_pp p c.pp)) (is_sure after p) (both (not (is_pp p c.pp) && is_sure after p) (not (is_missing after p.disk)) is_source).0).1

            unstale : is_stale core p ≡ false
            unstale = is_false (is_stale core p) (both (not (is_stale core p)) (not (is_wanted_stale core p)) sure).0

            not_left : is_settled core p && is_wanted_stale core p && not (is_caught core (group_in core ask) p) ≡ true → false ≡ true
            not_left e = sym (ap (λ b. b && calls_stale (unwrap_or core.status.in_flight core.status.committed) p) unstale) ∙ (both (is_settled core p) (is_wanted_stale core p) (both (is_settled core p && is_wanted_stale core p) (not (is_caught core (group_in core ask) p)) e).0).0

            by : (is_among (pps_of targets) p ≡ true) ⊎ (is_left_out core ask p ≡ true) → FailedSinceOpening device failed_copy n p
            by (inr left_out) = not_so (not_left left_out)
            by (inl its) =
                let it = on_one now_targets p (ap (λ ps. is_among ps p) (pps_set targets target aim (end_state ok) aim_is) ∙ its) in
                subst (FailedSinceOpening device failed_copy n) (sym it.pp_is)
                (since_opening young it.place it.target it.there (has_failed_now it.place it.target it.there (unkept_fails it.place it.target it.there
                (all_and (not it.target.moves) (is_sure core it.target.pp) (ap not (no_place core going c.lv c.lp p (among_get copies (n - 1) p (by_place copies n p n_at)) ask it.target (all_at (IsTarget core ask) now_targets it.place it.target its_shape.targets it.there) it.pp_is)) (sym (ap (is_sure core) it.pp_is) ∙ sure)))) n (n_at ∙ ap (λ (q : Pp). Some q) it.pp_is))

        lost : OwnFailedSinceOpening device failed_copy ⊎ HaveSourcesFailed now copies failed_copy
        lost = by (is_pp usable_one.1.pp c.pp) refl
          where
            by : (b : Bool) → is_pp usable_one.1.pp c.pp ≡ b → OwnFailedSinceOpening device failed_copy ⊎ HaveSourcesFailed now copies failed_copy
            by true its =
                let same_pp = pp_same usable_one.1.pp c.pp its in
                inl (own_since_opening young usable_one.0 usable_one.1 usable_one.2 usable_failed same_pp)
            by false its =
                let found = among_at copies usable_one.1.pp (ap (λ ps. is_among ps usable_one.1.pp) same_copies ∙ target_copy usable_one.0 usable_one.1 usable_one.2 usable_one.3) in
                inr (record {
                  each = each_source;
                  number = found.0 + 1;
                  source = usable_one.1.pp;
                  source_is = of_place copies found.0 usable_one.1.pp found.1;
                  other = its;
                  one = since_opening young usable_one.0 usable_one.1 usable_one.2 usable_failed (found.0 + 1) (of_place copies found.0 usable_one.1.pp found.1);
                })

      its_own : ok ≡ false → is_pp aim.pp c.pp ≡ true → OwnFailedSinceOpening device failed_copy
      its_own bad same =
          let disk : aim.pp.disk ≡ c.pp.disk = ap (λ (q : Pp). q.disk) (pp_same aim.pp c.pp same) in
          rose_since (own_faults c) (old.device.counts.faults c.pp.disk) (counts.faults c.pp.disk) before.own_since (subst (λ d. Rose (old.device.counts.faults d) (counts.faults d)) disk (rose bad))

      why_failed : OwnFailedSinceOpening device failed_copy ⊎ HaveSourcesFailed now copies failed_copy
      why_failed = by (either (not ok && is_pp aim.pp c.pp) (are_over now_targets && not (is_kept core x.request) && not o.older && is_among (due_of core x.request) c.pp)
          (both (is_write ask && is_running c) (not ok && is_pp aim.pp c.pp || (are_over now_targets && not (is_kept core x.request) && not o.older && is_among (due_of core x.request) c.pp)) hit).1)
        where
          by : (not ok && is_pp aim.pp c.pp ≡ true) ⊎ (are_over now_targets && not (is_kept core x.request) && not o.older && is_among (due_of core x.request) c.pp ≡ true)
              → OwnFailedSinceOpening device failed_copy ⊎ HaveSourcesFailed now copies failed_copy
          by (inl its) = let parts = both (not ok) (is_pp aim.pp c.pp) its in inl (its_own (is_false ok parts.0) parts.1)
          by (inr its) =
              let a = both (are_over now_targets && not (is_kept core x.request) && not o.older) (is_among (due_of core x.request) c.pp) its in
              let b = both (are_over now_targets && not (is_kept core x.request)) (not o.older) a.0 in
              let d = both (are_over now_targets) (not (is_kept core x.request)) b.0 in
              lost d.0 (is_false (is_kept core x.request) d.1) (is_false o.older b.1) a.1

      pub cause : IsCausedAmong now copies failed_copy
      cause = record { began = before_s.began; since = before_s.since; tried = before_s.tried; own_began = before_s.own_began; own_since = before_s.own_since; failed = λ e. why_failed }

    -- ---- all of it, while it is on

    -- the numbers that the marks need are those of the write, or of the copy that ends
    abbrev pub wants_more : Status → ℕ
    wants_more u = if_so (not (same_status u (unwrap_or core.status.in_flight core.status.committed))) 1

    module _ (paid : wants_more wanted + count_if (marks_later x) + option_map_or (copy_updates core) copy 0 ≤ wants_more core.status.wanted + count_if (marks_later o) + option_map_or (copy_updates core) core.copy 0)
        (why : IfSome copy (λ (c : OpenCopy). IsCausedAmong now (copies_in core.descriptor c.lv c.lp) c)) where
      keeps_going : IsGoing after
      keeps_going = record {
        fitting = fitting;
        told = told_so;
        status = status_sound;
        owned = owned;
        tickets = tickets_left core.flying at going.tickets;
        queue = left.rows ∙ ap (λ rows. option_map_or (λ (c : OpenCopy). if has_row core c then with_row (step_row core c) rows else rows) copy rows) (sym (rows_set core.requests place o x there refl));
        pinned = λ lv group. going.pinned lv group ∙ sym (count_same (pins lv group) core.requests place o x there refl);
        requests = all_set (IsOpenOne core) (IsOpenOne after) still core.requests place x its_one going.requests;
        copy = bring;
        hands = λ n. let all = out n in omega (arith, all);
        behind = λ p e. wanted_more mid due wanted writes like p (going.behind p (entailed_less mid due wanted writes like p e));
        reviewed = reviewed;
        fresh = fresh;
        clearings = λ p held clear. let parts = wanted_less mid due wanted writes like p clear in entailed.clear p held parts.0 parts.1;
        numbers =
            let low = going.numbers in
            let marks = count_set marks_later core.requests place o x there in
            let clean = ap (if_open core.requests) (clean_same mid due wanted writes like) in
            let still_open = open_set core.requests place x (clean_volumes after) in
            let members = members_same mid due wanted writes like in
            omega (arith, low, marks, clean, still_open, members, paid);
      }

      keeps_on : IsOn now
      keeps_on = let old_on = sound_so.on on in record {
        going = keeps_going;
        rows = rows_by marked after (λ who. same_owner row.owner who ≡ false) (λ who g other of. transfer_on who g (sym (ap (λ x. same_owner x who) own) ∙ other) of) (remove core.flying at) (remove old.device.flights at) (others core going.owned at row row_there)
            (rows_left marked core.flying old.device.flights at (rows_staler mid due wanted writes like core.flying old.device.flights (rows_beside core queue copy pool left core.flying old.device.flights old_on.rows)));
        caused = all_set AreKnown (AreCaused device after) caused_on core.requests place x (λ waiting. its_caused) pairs;
        chosen = if_on (λ (c : OpenCopy). AllByRecursion (IsChosenSince core c) core.requests) (λ (c : OpenCopy). AllByRecursion (IsChosenSince after c) requests)
            (λ c all. all_set (IsChosenSince core c) (IsChosenSince after c) (λ y is. is) core.requests place x (its_chosen c (all_at (IsChosenSince core c) core.requests place o all there)) all) copy entailed.chosen;
      }

      origin : IsTrueToOrigin now
      origin = let before = sound_so.origin in record {
        since = before.since;
        votes = before.votes;
        rows = before.rows;
        still_missing = λ d e. missing_same mid due wanted writes like d ∙ before.still_missing d e;
        missing = λ d e. before.missing d (sym (missing_same mid due wanted writes like d) ∙ e);
        stale = λ p e. of p (held_by mid due wanted writes like p e);
      }
        where
          Reason : Pp → Type 0
          Reason p = (calls_stale core.origin.table p ≡ true) ⊎ (is_missing after p.disk ≡ true) ⊎ FailedSince now p.disk

          as_before : (p : Pp) → is_held_stale core p || is_wanted_stale core p ≡ true → Reason p
          as_before p e = by (sound_so.origin.stale p e)
            where
              by : (calls_stale core.origin.table p ≡ true) ⊎ (is_missing core p.disk ≡ true) ⊎ FailedSince s p.disk → Reason p
              by (inl is) = inl is
              by (inr (inl gone)) = inr (inl (missing_same mid due wanted writes like p.disk ∙ gone))
              by (inr (inr since)) = inr (inr since)

          unsure_before : (p : Pp) → is_sure core p ≡ false → is_held_stale core p || is_wanted_stale core p ≡ true
          unsure_before p e = by (is_stale core p) (calls_stale (unwrap_or core.status.in_flight core.status.committed) p) (is_wanted_stale core p) e
            where
              by : (a g w : Bool) → not a && not w ≡ false → (a || g) || w ≡ true
              by true g w h = refl
              by false true w h = refl
              by false false true h = refl
              by false false false h = not_so (sym h)

          since_chosen : (k : ℕ) (t : Target) → slice_get now_targets k ≡ Some t → is_failed t.state ≡ true → FailedSince now t.pp.disk
          since_chosen k t t_there failed =
              let it = all_at (IsCounted now) now_targets k t its_counted t_there in
              rose_since (faults_at_first core t.pp.disk) t.faults (counts.faults t.pp.disk) it.began (all_at (IsCaused device after) now_targets k t its_caused t_there (ap (λ b. b || (t.usable && is_blamed after t.pp)) failed))

          of : (p : Pp) → (is_held_stale core p || is_wanted_stale core p ≡ true) ⊎ (due p ≡ true) → Reason p
          of p (inl before) = as_before p before
          of p (inr is) = of_due (entailed.due_is p is)
            where
              of_due : (is_among (due_of core x.request) p ≡ true) ⊎ (is_held_stale core p ≡ true) → Reason p
              of_due (inr held) = as_before p (ap (λ b. b || is_wanted_stale core p) held)
              of_due (inl its) = of_one one.blame
                where
                  one : IsDueOne core x.request p
                  one = due_one core x.request p its

                  -- the destination of a move counts as stale since the session began
                  of_kind : (b : Bool) → one.it.target.moves ≡ b → IsAimed b core ask one.it.target → is_sure_at core one.it.target ≡ false → Reason p
                  of_kind false stays copy unsure = as_before p (unsure_before p (ap (is_sure core) one.it.pp_is ∙ sym (ap (λ b. not b && is_sure core one.it.target.pp) stays) ∙ unsure))
                  of_kind true moves goes unsure =
                      let at_place = place_open core ask one.it.target.pp goes.0 in
                      inl (ap (calls_stale core.origin.table) (one.it.pp_is ∙ at_place.is) ∙ (move_of core at_place.copy (open_one core at_place.copy at_place.is_open going.copy) at_place.moves).called)

                  of_one : (is_failed one.it.target.state ≡ true) ⊎ (is_sure_at core one.it.target ≡ false) → Reason p
                  of_one (inl failed) = inr (inr (subst (λ (q : Pp). FailedSince now q.disk) (sym one.it.pp_is) (since_chosen one.it.place one.it.target one.it.there failed)))
                  of_one (inr unsure) = of_kind one.it.target.moves refl (all_at (IsTarget core ask) now_targets one.it.place one.it.target its_shape.targets one.it.there).copy unsure

      pub keeps : IsSound now
      keeps = sound_when_on s now refl refl sound_so on fitting told_so keeps_on out (all_set (AreCounted s) (AreCounted now) counted_on core.requests place x its_counted sound_so.counted)
          (all_set (IsAnswered s) (IsAnswered now) (answered_when_on s now refl on) core.requests place x (no_cause (IsLandedFor now x) o.landed waits_so) sound_so.answered) why origin
