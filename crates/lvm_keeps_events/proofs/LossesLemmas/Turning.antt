-- Which copies a turn makes stale or fresh, and why.
use Rattle.std.proofs.Common.{◌≡◌, ◌⊎◌, inl, inr, ℕ, Bool, true, false, ◌&&◌, ◌||◌, not, List, Some, slice_get, slice_set, refl, sym, ap, subst, ◌∙◌}
use Rattle.std.specs.Prelude.{IfSome, unwrap_or}
use Rattle.std.specs.List.{list_any}
use Rattle.std.specs.Option.{option_map_or}
use Rattle.std.proofs.lemmas.Map.Keys.{any_passes_from_place}
use Rattle.lvm_num.specs.Buffer.{Buffer}
use Rattle.lvm_num.specs.declared.place.Pp.{Pp}
use Rattle.lvm_num.specs.Status.{calls_stale}
use Rattle.lvm_num.specs.Descriptor.{is_pp}
use Rattle.lvm_num.proofs.Booleans.{not_so}
use Rattle.lvm_num.proofs.Lists.{all_at}
use Rattle.lvm_disk.specs.Counts.{Rose}
use Rattle.lvm_path.specs.declared.target.Target.{Target}
use Rattle.lvm_path.specs.Asks.{is_write, lv_of}
use Rattle.lvm_path.specs.Next.{with_start}
use Rattle.lvm_path.specs.Targets.{are_over, end_state, is_failed}
use Rattle.lvm_sched.specs.declared.writes.TargetState.TheVariants as stage
use Rattle.lvm_session.specs.declared.answers.Turned.{Turned}
use Rattle.lvm_session.specs.declared.answers.Turned.TheVariants as turned
use Rattle.lvm_session.specs.declared.bringing.CopyEnd.TheVariants as ending
use Rattle.lvm_session.specs.declared.bringing.OpenCopy.{OpenCopy}
use Rattle.lvm_session.specs.declared.bringing.Step.{Step}
use Rattle.lvm_session.specs.declared.bringing.Step.TheVariants as step
use Rattle.lvm_session.specs.declared.event.Event.{Event}
use Rattle.lvm_session.specs.declared.event.Event.TheVariants as event
use Rattle.lvm_session.specs.declared.flown.Owner.{Owner}
use Rattle.lvm_session.specs.declared.flown.Owner.TheVariants as owner
use Rattle.lvm_session.specs.declared.open.Open.{Open}
use Rattle.lvm_session.specs.declared.open.Power.TheVariants as power
use Rattle.lvm_session.specs.Bringing.{ends_if, is_whole, marked_by_end}
use Rattle.lvm_session.specs.Causes.{fails_on}
use Rattle.lvm_session.specs.Ends.{CopyLearns, Ends, CopyStepsOn, Learns, NoteLearns, StepLearns, StepLeaves, with_copy, with_return, without_step}
use Rattle.lvm_session.specs.Events.{landed_as}
use Rattle.lvm_session.specs.Judging.{is_missing, is_destination, is_running, is_stale, is_sure, is_sure_at, is_waiting, is_wanted_stale}
use Rattle.lvm_session.specs.Marks.{WantsDirtyIf, due_of, end_by_write, hits_copy, is_among}
use Rattle.lvm_session.specs.Requests.{IsAimed, IsShaped, IsTarget}
use Rattle.lvm_session.specs.Sound.{IsCopy, IsSound}
use Rattle.lvm_session.proofs.MovesLemmas.{place_open, stale_of}
use Rattle.lvm_session.specs.State.{Core, State}
use Rattle.lvm_session.specs.Turns.{Darkens, FinishMakes, Finishes, GoesOff, Makes, Moves, NoStart, OnMakes, TurnMakes, WasDark, WasOff, WasOn}
use Rattle.lvm_keeps_events.proofs.passed.Keeps.{set_here, both}
use Rattle.lvm_keeps_events.specs.DataEnds.{EndsData}
use Rattle.lvm_keeps_events.proofs.TargetsLemmas.{set_state}
use Rattle.lvm_keeps_events.proofs.DataEndsLemmas.{aim, aim_is, entails, going, long, mid, o, own, place, rose, there, x}
use Rattle.lvm_keeps_events.proofs.JudgingLemmas.DuesMarks.{IsDueOne, due_one, own_pp, pp_same}
use Rattle.lvm_keeps_events.proofs.RequestsLemmas.{failed_badly, shape, waits}
use Rattle.lvm_keeps_events.proofs.Lists.{all_and, either, set_either}
use Rattle.lvm_keeps_events.specs.Losses.{MarksFor, has_failed_on, is_marked, is_open_at}
use Rattle.lvm_keeps_events.proofs.LossesLemmas.Requests.{chooses_none, ended_fails_not, fails_at, landed_fails_not, none_fails, set_fails}
use Rattle.lvm_keeps_events.proofs.LossesLemmas.Reviewing.{IsReviewed, after_end_requests, marked_open, marked_whole, reviewed}
use Rattle.lvm_keeps_events.proofs.StatusLemmas.{Passes, begun_passes, dark_passes, dirty_passes, ended_passes, fresh_passes, lasts_on, lost_passes, marked_by, none, same_passes, stale_passes}

-- ---- what follows of the status and of the requests

-- a status that marks copies for their causes
pub of_due : (due : Pp → Bool) (old new : State) → Passes due none old.core.status new.core.status
    → ((p : Pp) → is_destination old.core p ≡ false → due p ≡ true → (is_marked old.core p ≡ true) ⊎ (is_missing new.core p.disk ≡ true) ⊎ (has_failed_on new.core p ≡ true))
    → ((p : Pp) → has_failed_on new.core p ≡ true → (has_failed_on old.core p ≡ true) ⊎ Rose (old.device.counts.faults p.disk) (new.device.counts.faults p.disk)) → MarksFor old new
of_due due old new passes why failed = record {
  marked = λ p copy e. by p copy (marked_by due none old.core.status new.core.status passes p e);
  failed = failed;
  lasting = λ p e shut. lasts_on due none old.core.status new.core.status passes p refl e;
  missing = passes.missing;
}
  where
    by : (p : Pp) → is_destination old.core p ≡ false → (is_marked old.core p ≡ true) ⊎ (due p ≡ true) → (is_marked old.core p ≡ true) ⊎ (is_missing new.core p.disk ≡ true) ⊎ (has_failed_on new.core p ≡ true)
    by p copy (inl was) = inl was
    by p copy (inr is) = why p copy is

-- one that marks none
of_status : (old new : State) → Passes none none old.core.status new.core.status
    → ((p : Pp) → has_failed_on new.core p ≡ true → (has_failed_on old.core p ≡ true) ⊎ Rose (old.device.counts.faults p.disk) (new.device.counts.faults p.disk)) → MarksFor old new
of_status old new passes failed = of_due none old new passes (λ p copy e. not_so e) failed

failed_same : (old new : State) → new.core.requests ≡ old.core.requests → (p : Pp) → has_failed_on new.core p ≡ true → (has_failed_on old.core p ≡ true) ⊎ Rose (old.device.counts.faults p.disk) (new.device.counts.faults p.disk)
failed_same old new same p e = inl (sym (ap (λ (os : List Open). list_any (fails_on p) os) same) ∙ e)

-- so where the requests are the same
of_same : (old new : State) → Passes none none old.core.status new.core.status → new.core.requests ≡ old.core.requests → MarksFor old new
of_same old new passes same = of_status old new passes (failed_same old new same)

-- and where one is changed that hadn't failed elsewhere
of_one : (old new : State) → Passes none none old.core.status new.core.status → (place : ℕ) (o x : Open) → slice_get old.core.requests place ≡ Some o → new.core.requests ≡ slice_set old.core.requests place x
    → ((p : Pp) → fails_on p x ≡ true → fails_on p o ≡ true) → MarksFor old new
of_one old new passes place o x there is on =
    of_status old new passes (λ p e. inl (none_fails p old.core.requests place o x there (on p) (sym (ap (λ (os : List Open). list_any (fails_on p) os) is) ∙ e)))

-- what a review adds to a session as it was but for its status
of_review : (old new : State) (on : Core) (free : Pp → Bool) → Passes none free old.core.status on.status → ((p : Pp) → is_open_at old.core p ≡ false → free p ≡ false) → on.requests ≡ old.core.requests → IsReviewed on new.core → MarksFor old new
of_review old new on free passes shut same r = record {
  marked = λ p copy e. by p (r.marked p e);
  failed = λ p e. inl (sym (r.failed p ∙ ap (λ (os : List Open). list_any (fails_on p) os) same) ∙ e);
  lasting = λ p e closed. r.lasting p (lasts_on none free old.core.status on.status passes p (shut p closed) e);
  missing = λ d e. r.missing d (passes.missing d e);
}
  where
    of : (p : Pp) → (is_marked old.core p ≡ true) ⊎ (none p ≡ true) → (is_marked old.core p ≡ true) ⊎ (is_missing new.core p.disk ≡ true) ⊎ (has_failed_on new.core p ≡ true)
    of p (inl was) = inl was
    of p (inr is) = not_so is

    by : (p : Pp) → (is_marked on p ≡ true) ⊎ (is_missing new.core p.disk ≡ true) → (is_marked old.core p ≡ true) ⊎ (is_missing new.core p.disk ≡ true) ⊎ (has_failed_on new.core p ≡ true)
    by p (inl was) = of p (marked_by none free old.core.status on.status passes p was)
    by p (inr gone) = inr (inl gone)

-- ---- the copy that is open

module _ (old : State) (sound : IsSound old) (on : old.core.power ≡ power.On) where
  bring : (c : OpenCopy) → old.core.copy ≡ Some c → IsCopy old.core c
  bring c is = subst (λ m. IfSome m (IsCopy old.core)) is ((sound.on on).going).copy

  -- while it is whole its partition is stale, where it is a copy
  whole_marked : (c : OpenCopy) (p : Pp) → is_destination old.core p ≡ false → old.core.copy ≡ Some c → is_running c ≡ true → is_whole old.core c ≡ true → is_pp p c.pp ≡ true → is_marked old.core p ≡ true
  whole_marked c p copy is runs whole same = by c.moves refl
    where
      by : (b : Bool) → c.moves ≡ b → is_marked old.core p ≡ true
      by false stays = ap (is_marked old.core) (pp_same p c.pp same)
          ∙ ap (λ b. (b || calls_stale (unwrap_or old.core.status.in_flight old.core.status.committed) c.pp) || is_wanted_stale old.core c.pp) ((stale_of old.core c (bring c is) stays).clearing runs whole).0
      by true moves = not_so (sym copy ∙ ap (λ m. option_map_or (λ (k : OpenCopy). k.moves && is_pp p k.pp) m false) is ∙ ap (λ b. b && is_pp p c.pp) moves ∙ same)

  -- ---- an event

  event_marks : (it : Event) (new : State) → Makes it old new → MarksFor old new
  event_marks (event.Land at how) new made = of_one old new (same_passes none none old.core.status new.core.status (ap (λ (s : State). s.core.status) made.is)) at made.request _ made.there (ap (λ (s : State). s.core.requests) made.is)
      (λ p e. landed_fails_not p (landed_as how made.request) refl e)
  event_marks (event.Admit at) new made = of_one old new (passes _ made.dirty) at made.request _ made.there (ap (λ (s : State). s.core.requests) made.is) chosen
    where
      passes : (b : Bool) → WantsDirtyIf b (lv_of made.request.request.ask) old.core.status new.core.status → Passes none none old.core.status new.core.status
      passes false same = same_passes none none old.core.status new.core.status same
      passes true wants = dirty_passes none none _ old.core.status new.core.status wants

      chosen : (p : Pp) → is_waiting made.request && is_write made.request.request.ask && list_any (fails_at p) made.targets ≡ true → fails_on p made.request ≡ true
      chosen p e =
          let parts = both (is_waiting made.request && is_write made.request.request.ask) (list_any (fails_at p) made.targets) e in
          chooses_none old made.request.request.ask p made.targets made.order made.chosen (both (is_waiting made.request) (is_write made.request.request.ask) parts.0).1 parts.1
  event_marks (event.Pin at) new made = of_one old new (same_passes none none old.core.status new.core.status (ap (λ (s : State). s.core.status) made.is)) at made.request _ made.there (ap (λ (s : State). s.core.requests) made.is) (λ p e. e)
  event_marks event.StartStatus new made = of_same old new (begun_passes none none made.disk old.core.status made.begun new.core.status made.begins made.started) (ap (λ (s : State). s.core.requests) made.is)
  event_marks (event.StartNote at disk) new made = of_same old new (same_passes none none old.core.status new.core.status (ap (λ (s : State). s.core.status) made.is)) (ap (λ (s : State). s.core.requests) made.is)
  event_marks (event.StartData at target) new made = of_one old new (same_passes none none old.core.status new.core.status (ap (λ (s : State). s.core.status) made.is)) at made.its.request _ made.its.there (ap (λ (s : State). s.core.requests) made.is) begun
    where
      begun : (p : Pp) → is_waiting made.its.request && is_write made.its.request.request.ask && list_any (fails_at p) (with_start made.its.request.request target).targets.items ≡ true → fails_on p made.its.request ≡ true
      begun p e =
          let parts = both (is_waiting made.its.request && is_write made.its.request.request.ask) (list_any (fails_at p) (with_start made.its.request.request target).targets.items) e in
          all_and (is_waiting made.its.request && is_write made.its.request.request.ask) (list_any (fails_at p) made.its.request.request.targets.items) parts.0
          (of (set_fails p made.its.request.request.targets.items target made.its.aim stage.Flying (sym (ap (list_any (fails_at p)) (set_state made.its.request.request.targets.items target made.its.aim stage.Flying made.its.aim_is)) ∙ parts.1)))
        where
          of : (list_any (fails_at p) made.its.request.request.targets.items ≡ true) ⊎ ((is_failed stage.Flying ≡ true) × (is_pp p made.its.aim.pp ≡ true)) → list_any (fails_at p) made.its.request.request.targets.items ≡ true
          of (inl was) = was
          of (inr is) = not_so is.0
  event_marks event.ReadCopy new made = of_same old new (same_passes none none old.core.status new.core.status (ap (λ (s : State). s.core.status) made.is)) (ap (λ (s : State). s.core.requests) made.is)
  event_marks event.WriteCopy new made = of_same old new (same_passes none none old.core.status new.core.status (ap (λ (s : State). s.core.status) made.is)) (ap (λ (s : State). s.core.requests) made.is)

  -- ---- a transfer of a request ends

  module _ (at id target : ℕ) (ok : Bool) (new : State) (ends : EndsData old new at id target ok) where
    abbrev was : Open
    was = o at id target ok old new sound on ends

    abbrev now : Open
    now = x at id target ok old new sound on ends

    abbrev its : Target
    its = aim at id target ok old new sound on ends

    abbrev between : Core
    between = mid at id target ok old new sound on ends now

    abbrev due : Pp → Bool
    due p = is_among (due_of between now.request) p || marked_by_end between (end_by_write between now ok its.pp) p

    passes : Passes due none old.core.status new.core.status
    passes = stale_passes due none old.core.status new.core.status (entails at id target ok old new sound on ends).marks

    requests : new.core.requests ≡ slice_set old.core.requests (place at id target ok old new sound on ends) now
    requests = after_end_requests between (end_by_write between now ok its.pp) new.core.status new.core (entails at id target ok old new sound on ends).is

    here : slice_get old.core.requests (place at id target ok old new sound on ends) ≡ Some was
    here = there at id target ok old new sound on ends

    waiting : is_waiting was ≡ true
    waiting = waits old.core (going at id target ok old new sound on ends) (place at id target ok old new sound on ends) target was here its (aim_is at id target ok old new sound on ends)
        at ends.row ends.returns.there (own at id target ok old new sound on ends) ok ends.buf (long at id target ok old new sound on ends)

    failed : (p : Pp) → has_failed_on new.core p ≡ true → (has_failed_on old.core p ≡ true) ⊎ Rose (old.device.counts.faults p.disk) (new.device.counts.faults p.disk)
    failed p e = by (set_either (fails_on p) old.core.requests (place at id target ok old new sound on ends) now (sym (ap (λ (os : List Open). list_any (fails_on p) os) requests) ∙ e))
      where
        of : is_waiting was && is_write was.request.ask ≡ true → (list_any (fails_at p) was.request.targets.items ≡ true) ⊎ ((is_failed (end_state ok) ≡ true) × (is_pp p its.pp ≡ true))
            → (has_failed_on old.core p ≡ true) ⊎ Rose (old.device.counts.faults p.disk) (new.device.counts.faults p.disk)
        of write (inl before) = inl (any_passes_from_place (fails_on p) old.core.requests (place at id target ok old new sound on ends) was here (all_and (is_waiting was && is_write was.request.ask) (list_any (fails_at p) was.request.targets.items) write before))
        of write (inr is) = inr (subst (λ (q : Pp). Rose (old.device.counts.faults q.disk) (new.device.counts.faults q.disk)) (sym (pp_same p its.pp is.1)) (rose at id target ok old new sound on ends (failed_badly ok is.0)))

        by : (has_failed_on old.core p ≡ true) ⊎ (fails_on p now ≡ true) → (has_failed_on old.core p ≡ true) ⊎ Rose (old.device.counts.faults p.disk) (new.device.counts.faults p.disk)
        by (inl before) = inl before
        by (inr is) = let parts = both (is_waiting was && is_write was.request.ask) (list_any (fails_at p) now.request.targets.items) is in of parts.0 (set_fails p was.request.targets.items target its (end_state ok) parts.1)

    -- a target that is due has failed, or wasn't sure
    due_why : (p : Pp) → is_destination old.core p ≡ false → is_among (due_of between now.request) p ≡ true → (is_marked old.core p ≡ true) ⊎ (is_missing new.core p.disk ≡ true) ⊎ (has_failed_on new.core p ≡ true)
    due_why p copy among = by one.blame
      where
        one : IsDueOne between now.request p
        one = due_one between now.request p among

        unsure : (a f w : Bool) → not a && not w ≡ false → (a || f) || w ≡ true
        unsure true f w e = refl
        unsure false true w e = refl
        unsure false false true e = refl
        unsure false false false e = not_so (sym e)

        its_shape : IsShaped old.core now
        its_shape = shape old.core (going at id target ok old new sound on ends) (place at id target ok old new sound on ends) target was here its (aim_is at id target ok old new sound on ends)
            at ends.row ends.returns.there (own at id target ok old new sound on ends) ok ends.buf (long at id target ok old new sound on ends)

        -- it is no place to which a copy moves
        stays : (b : Bool) → one.it.target.moves ≡ b → IsAimed b old.core now.request.ask one.it.target → one.it.target.moves ≡ false
        stays false is aimed = is
        stays true is aimed =
            let at_place = place_open old.core now.request.ask one.it.target.pp aimed.0 in
            not_so (sym copy ∙ ap (λ m. option_map_or (λ (k : OpenCopy). k.moves && is_pp p k.pp) m false) at_place.is_open ∙ ap (λ b. b && is_pp p at_place.copy.pp) at_place.moves ∙ ap (is_pp p) (sym (one.it.pp_is ∙ at_place.is)) ∙ own_pp p)

        moves_not : one.it.target.moves ≡ false
        moves_not = stays one.it.target.moves refl (all_at (IsTarget old.core now.request.ask) now.request.targets.items one.it.place one.it.target its_shape.targets one.it.there).copy

        by : (is_failed one.it.target.state ≡ true) ⊎ (is_sure_at between one.it.target ≡ false) → (is_marked old.core p ≡ true) ⊎ (is_missing new.core p.disk ≡ true) ⊎ (has_failed_on new.core p ≡ true)
        by (inl bad) = inr (inr (ap (λ (os : List Open). list_any (fails_on p) os) requests
            ∙ any_passes_from_place (fails_on p) (slice_set old.core.requests (place at id target ok old new sound on ends) now) (place at id target ok old new sound on ends) now (set_here old.core.requests (place at id target ok old new sound on ends) was now here)
            (all_and (is_waiting was && is_write was.request.ask) (list_any (fails_at p) now.request.targets.items) (all_and (is_waiting was) (is_write was.request.ask) waiting (both (is_write was.request.ask) (are_over now.request.targets.items) one.over).0)
            (any_passes_from_place (fails_at p) now.request.targets.items one.it.place one.it.target one.it.there (all_and (is_failed one.it.target.state) (is_pp p one.it.target.pp) bad (ap (is_pp p) (sym one.it.pp_is) ∙ own_pp p))))))
        by (inr none_sure) = inl (unsure (is_stale old.core p) (calls_stale (unwrap_or old.core.status.in_flight old.core.status.committed) p) (is_wanted_stale old.core p) (ap (is_sure between) one.it.pp_is ∙ sym (ap (λ b. not b && is_sure between one.it.target.pp) moves_not) ∙ none_sure))

    -- the copy that fails with it was whole
    copy_why : (p : Pp) → is_destination old.core p ≡ false → marked_by_end between (end_by_write between now ok its.pp) p ≡ true → is_marked old.core p ≡ true
    copy_why p copied e = whole_marked copy.0 p copied copy.1 (runs (option_map_or (hits_copy between now ok its.pp) old.core.copy false) refl e) whole.0 whole.1
      where
        copy : (c : OpenCopy) × (old.core.copy ≡ Some c)
        copy = marked_open between (end_by_write between now ok its.pp) p e

        whole : (is_whole old.core copy.0 ≡ true) × (is_pp p copy.0.pp ≡ true)
        whole = marked_whole between (end_by_write between now ok its.pp) p copy.0 copy.1 e

        of_hit : (w r h : Bool) → w && r && h ≡ true → r ≡ true
        of_hit true true h i = refl
        of_hit true false h i = not_so i
        of_hit false r h i = not_so i

        runs : (b : Bool) → option_map_or (hits_copy between now ok its.pp) old.core.copy false ≡ b → marked_by_end between (ends_if b ending.SyncFailed) p ≡ true → is_running copy.0 ≡ true
        runs false is i = not_so i
        runs true is i = of_hit (is_write was.request.ask) (is_running copy.0) _ (sym (ap (λ m. option_map_or (hits_copy between now ok its.pp) m false) copy.1) ∙ is)

    pub data_marks : MarksFor old new
    data_marks = of_due due old new passes (λ p copy e. by p copy (either (is_among (due_of between now.request) p) (marked_by_end between (end_by_write between now ok its.pp) p) e)) failed
      where
        by : (p : Pp) → is_destination old.core p ≡ false → (is_among (due_of between now.request) p ≡ true) ⊎ (marked_by_end between (end_by_write between now ok its.pp) p ≡ true) → (is_marked old.core p ≡ true) ⊎ (is_missing new.core p.disk ≡ true) ⊎ (has_failed_on new.core p ≡ true)
        by p copy (inl among) = due_why p copy among
        by p copy (inr marked) = inl (copy_why p copy marked)

  -- ---- another one does

  module _ (new : State) where
    no_passes : new.core.status ≡ old.core.status → Passes none none old.core.status new.core.status
    no_passes same = same_passes none none old.core.status new.core.status same

    note_marks : (at disk : ℕ) (ok : Bool) (buf : Buffer) → NoteLearns old.core at disk ok buf new.core → MarksFor old new
    note_marks at disk true buf it = of_same old new (no_passes (ap (λ (k : Core). k.status) it)) (ap (λ (k : Core). k.requests) it)
    note_marks at disk false buf it = of_review old new _ none (lost_passes none none disk old.core.status it.0 it.1) (λ p shut. refl) refl (reviewed _ new.core it.2)

    step_marks : (at_step : Step) (ok : Bool) (at : ℕ) (c : OpenCopy) (buf : Buffer) → old.core.copy ≡ Some c → is_running c ≡ true → StepLeaves at_step ok old.core at c buf new.core → MarksFor old new
    step_marks step.Idle ok at c buf is runs it = absurd it
    step_marks (step.Read hand) ok at c buf is runs it = absurd it
    step_marks (step.Reading source) true at c buf is runs it = of_same old new (no_passes (ap (λ (k : Core). k.status) it)) (ap (λ (k : Core). k.requests) it)
    step_marks (step.Reading source) false at c buf is runs it = of_review old new _ none (same_passes none none old.core.status old.core.status refl) (λ p shut. refl) refl (reviewed _ new.core it.reviews)
    step_marks step.Writing true at c buf is runs it = by (is_whole (without_step (with_return old.core at buf) c) it.next) it.goes
      where
        shut : (p : Pp) → is_open_at old.core p ≡ false → is_pp p it.next.pp ≡ false
        shut p none_open = ap (λ (k : OpenCopy). is_pp p k.pp) it.moves.is ∙ sym (ap (λ m. option_map_or (λ (k : OpenCopy). is_pp p k.pp) m false) is) ∙ none_open

        by : (b : Bool) → CopyStepsOn b (without_step (with_return old.core at buf) c) it.next it.on → MarksFor old new
        by false goes = of_review old new it.on none (same_passes none none old.core.status it.on.status (ap (λ (k : Core). k.status) goes)) (λ p closed. refl) (ap (λ (k : Core). k.requests) goes) (reviewed it.on new.core it.reviews)
        by true goes = of_review old new it.on (λ p. is_pp p it.next.pp) (fresh_passes none it.next.pp old.core.status it.on.status goes.0) shut (ap (λ (k : Core). k.requests) goes.1) (reviewed it.on new.core it.reviews)
    step_marks step.Writing false at c buf is runs it = of_due (marked_by_end old.core (Some ending.SyncFailed)) old new (stale_passes (marked_by_end old.core (Some ending.SyncFailed)) none old.core.status new.core.status it.marks)
        (λ p copy e. let whole = marked_whole old.core (Some ending.SyncFailed) p c is e in inl (whole_marked c p copy is runs whole.0 whole.1)) (failed_same old new (after_end_requests (with_copy (with_return old.core at buf) (record c { step = step.Idle })) (Some ending.SyncFailed) new.core.status new.core it.is))

    copy_marks : (at : ℕ) (ok : Bool) (buf : Buffer) → CopyLearns old.core at ok buf new.core → MarksFor old new
    copy_marks at ok buf it = by (is_running it.copy) refl it.learns
      where
        by : (b : Bool) → is_running it.copy ≡ b → StepLearns b old.core at it.copy ok buf new.core → MarksFor old new
        by true runs leaves = step_marks it.copy.step ok at it.copy buf it.is_open runs leaves
        by false over quits = of_same old new (no_passes (ap (λ (k : Core). k.status) quits)) (ap (λ (k : Core). k.requests) quits)

    end_marks : (at : ℕ) → Ends old new at → MarksFor old new
    end_marks at it = by it.row.owner refl it.learns
      where
        by : (whose : Owner) → it.row.owner ≡ whose → Learns whose old.core at it.ok it.buf new.core → MarksFor old new
        by (owner.Data id target) mine learns = data_marks at id target it.ok new (record { row = it.row; buf = it.buf; own = mine; returns = it.returns; learns = learns })
        by (owner.Status disk) mine learns = of_review old new _ none (ended_passes none none disk old.core.status learns.status it.ok learns.wants learns.ended) (λ p shut. refl) refl (reviewed _ new.core learns.reviews)
        by (owner.Note disk) mine learns = note_marks at disk it.ok it.buf learns
        by owner.Copy mine learns = copy_marks at it.ok it.buf learns

    -- ---- a turn

    dark_marks : Darkens old new → MarksFor old new
    dark_marks made = of_status old new (dark_passes none none old.core.status new.core.status made.status)
        (λ p e. ended_fails_not p _ old.core.requests (sym (ap (λ (k : Core). list_any (fails_on p) k.requests) made.is) ∙ e))

    off_marks : GoesOff old new → MarksFor old new
    off_marks made = of_status old new (no_passes (ap (λ (s : State). s.core.status) made.is)) (λ p e. ended_fails_not p _ old.core.requests (sym (ap (λ (s : State). list_any (fails_on p) s.core.requests) made.is) ∙ e))

    finish_marks : (answer : Turned) → FinishMakes old new answer → MarksFor old new
    finish_marks turned.Moved made = end_marks made.0 made.1
    finish_marks turned.Idle (inl finds) = of_same old new (no_passes (ap (λ (k : Core). k.status) finds.is)) (ap (λ (k : Core). k.requests) finds.is)
    finish_marks turned.Idle (inr nothing) = of_same old new (no_passes (ap (λ (s : State). s.core.status) nothing.is)) (ap (λ (s : State). s.core.requests) nothing.is)
    finish_marks turned.Dark made = dark_marks made.1
    finish_marks turned.Off made = off_marks made

    on_marks : (answer : Turned) → OnMakes old new answer → MarksFor old new
    on_marks answer (Moves it first made is) = event_marks it new made
    on_marks answer (NoStart it first start dark is) = dark_marks dark
    on_marks answer (Finishes none made) = finish_marks answer made

still_marks : (old new : State) → new ≡ old → MarksFor old new
still_marks old new same = of_same old new (same_passes none none old.core.status new.core.status (ap (λ (s : State). s.core.status) same)) (ap (λ (s : State). s.core.requests) same)

pub turn_marks : (old new : State) → IsSound old → (answer : Turned) → TurnMakes old new answer → MarksFor old new
turn_marks old new sound answer (WasDark dark is same) = still_marks old new same
turn_marks old new sound answer (WasOff off is same) = still_marks old new same
turn_marks old new sound answer (WasOn on made) = on_marks old sound on new answer made
