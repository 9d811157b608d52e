-- What is wanted, under way and committed.
use Rattle.std.proofs.Common.{◌≡◌, ◌⊎◌, inl, inr, ⊎_elim, ℕ, Bool, true, false, ◌&&◌, Option, Some, None, refl, sym, ap, subst, ◌∙◌}
use Rattle.std.specs.Prelude.{IsTrue, IsFalse}
use Rattle.std.proofs.lemmas.Bool.{cases_Bool, and_left}
use Rattle.lvm_num.specs.declared.place.Pp.{Pp}
use Rattle.lvm_num.specs.Geometry.{track_group_of}
use Rattle.lvm_num.specs.Record.{Stamped}
use Rattle.lvm_num.proofs.Booleans.{clash_gives, false_by}
use Rattle.lvm_invariant.specs.State.{Marks, ModelCopy, ModelState, stale_in, is_settled_stale, HasPassed, Live}
use Rattle.lvm_invariant.specs.Sound.{Complete, StaysFresh, Statuses, Sound, Nearly}
use Rattle.lvm_invariant.proofs.SoundLemmas.Sound.{complete_same}
use Rattle.lvm_invariant.proofs.StateLemmas.Claims.{Quiet, WantsKeep, BeginKeeps, CommitKeepsCore, UpdateEndKeeps}
use Rattle.lvm_invariant.proofs.Small.{and_right_false}
use Rattle.lvm_invariant.proofs.StateLemmas.Quieting.{nearly, quiet_nearly, quiet_of, quiet_sound}
use Rattle.lvm_invariant.specs.LandDone.{done}
use Rattle.lvm_invariant.specs.Commit.{Commits}
use Rattle.lvm_invariant.specs.Want.{Replaced, Wants, after_wants}
use Rattle.lvm_invariant.proofs.FoundLemmas.{same_one}

no_copy : {X : Type 0} (o : Option ModelCopy) (k : ModelCopy) → o ≡ None → o ≡ Some k → X
no_copy o k a b = absurd cc

no_update : {X : Type 0} (o : Option (Stamped Marks)) (u : Stamped Marks) → o ≡ None → o ≡ Some u → X
no_update o u a b = absurd cc

-- a fresh copy whose staleness isn't wanted is fresh by all three
all_three : (s : ModelState) → Statuses s → (e : Pp) → IsFalse (s.committed.value.stale e) → IsFalse (s.wanted.stale e) → StaysFresh s e
all_three s st e fresh wanted = record {
  committed = fresh;
  flying = λ u flies. ⊎_elim
      (λ (stale : IsTrue (u.value.stale e)).
      let k : Complete s e = st.flying_is_wanted e u flies stale wanted in
      ⊎_elim
      (λ (c : IsTrue (s.committed.value.stale k.copy.target)). clash_gives (s.committed.value.stale e) (subst (λ (p : Pp). IsTrue (s.committed.value.stale p)) k.target c) fresh)
      (λ (w : IsTrue (s.wanted.stale k.copy.target)). clash_gives (s.wanted.stale e) (subst (λ (p : Pp). IsTrue (s.wanted.stale p)) k.target w) wanted)
      (st.open_stale k.copy k.is_open))
      (λ (n : IsFalse (u.value.stale e)). n)
      (cases_Bool (u.value.stale e));
  wanted = wanted;
}

module _ (s : ModelState) (wanted : Marks) (missing : ℕ → Bool) (open_copy : Option ModelCopy) (step : Wants s wanted missing open_copy) (was : Nearly s) where
  abbrev new : ModelState
  new = after_wants s wanted missing open_copy

  not_before : (c : Pp) → IsFalse (wanted.stale c) → IsFalse (s.wanted.stale c)
  not_before c n = false_by (s.wanted.stale c) (wanted.stale c) (step.still c) n

  caught_before : (lv g : ℕ) (c : Pp) → HasPassed new lv g c → HasPassed s lv g c
  caught_before lv g c k = record {
    copy = k.copy;
    target = k.target;
    passed = k.passed;
    is_open = ⊎_elim
        (λ (same : open_copy ≡ s.open_copy). sym same ∙ k.is_open)
        (λ (ended : (open_copy ≡ None) × ((o : ModelCopy) → s.open_copy ≡ Some o → IsTrue (wanted.stale o.target))). no_copy open_copy k.copy ended.0 k.is_open)
        step.open_same;
  }

  -- a copy that is complete still is, or it is wanted stale
  complete_now : (c : Pp) → Complete s c → IsTrue (wanted.stale c) ⊎ Complete new c
  complete_now c k = ⊎_elim
      (λ (same : open_copy ≡ s.open_copy). inr (record { copy = k.copy; is_open = same ∙ k.is_open; target = k.target; passed = k.passed }))
      (λ (ended : (open_copy ≡ None) × ((o : ModelCopy) → s.open_copy ≡ Some o → IsTrue (wanted.stale o.target))). inl (subst (λ (p : Pp). IsTrue (wanted.stale p)) k.target (ended.1 k.copy k.is_open)))
      step.open_same

  complete_unless : (c : Pp) → IsFalse (wanted.stale c) → Complete s c → Complete new c
  complete_unless c n k = ⊎_elim (λ (w : IsTrue (wanted.stale c)). clash_gives (wanted.stale c) w n) (λ (h : Complete new c). h) (complete_now c k)

  kept_now : (e : Pp) → IsFalse (wanted.stale e) → StaysFresh s e → StaysFresh new e
  kept_now e n k = record { committed = k.committed; flying = k.flying; wanted = n }

  statuses_now : Statuses new
  statuses_now = record {
    stale_flies = λ c u flies stale fresh. ⊎_elim
        (λ (w : IsTrue (s.wanted.stale c)). inl (step.still c w))
        (λ (k : Complete s c). complete_now c k)
        (was.statuses.stale_flies c u flies stale fresh);
    stale_is_wanted = λ c stale n. complete_unless c n (was.statuses.stale_is_wanted c stale (not_before c n));
    flying_is_wanted = λ c u flies stale n. complete_unless c n (was.statuses.flying_is_wanted c u flies stale (not_before c n));
    kept = λ lv b c copy.
        let old = was.statuses.kept lv b c copy in
        ⊎_elim
        (λ (w : IsTrue (wanted.stale old.0)). ⊎_elim
        (λ (before : IsTrue (s.wanted.stale old.0)). clash_gives (s.wanted.stale old.0) before old.2.wanted)
        (⊎_elim
        (λ (by : Replaced s wanted old.0). (by.other, was.tied.owner lv b by.lv by.block old.0 by.other old.1 by.copy by.other_copy, kept_now by.other by.kept (all_three s was.statuses by.other by.fresh (not_before by.other by.kept))))
        (λ (none : (l k : ℕ) → IsTrue (s.is_copy l k old.0) → ⊥). absurd (none lv b old.1)))
        (step.added old.0 w))
        (λ (n : IsFalse (wanted.stale old.0)). (old.0, old.1, kept_now old.0 n old.2))
        (cases_Bool (wanted.stale old.0));
    open_there = step.open_there;
    open_stale = λ o is. ⊎_elim
        (λ (same : open_copy ≡ s.open_copy). ⊎_elim (λ (c : IsTrue (s.committed.value.stale o.target)). inl c) (λ (w : IsTrue (s.wanted.stale o.target)). inr (step.still o.target w)) (was.statuses.open_stale o (sym same ∙ is)))
        (λ (ended : (open_copy ≡ None) × ((p : ModelCopy) → s.open_copy ≡ Some p → IsTrue (wanted.stale p.target))). no_copy open_copy o ended.0 is)
        step.open_same;
    dirty_flies = was.statuses.dirty_flies;
    dirty_is_wanted = λ lv h. step.still_dirty lv (was.statuses.dirty_is_wanted lv h);
    dirty_flying_is_wanted = λ lv u f h. step.still_dirty lv (was.statuses.dirty_flying_is_wanted lv u f h);
  }

  quiet : Quiet s new
  quiet = quiet_of s new refl refl (λ lv b c live. record { copy = live.copy; counts = ⊎_elim (λ (f : IsFalse (is_settled_stale s c)). inl f) (λ (k : HasPassed new lv (track_group_of b) c). inr (caught_before lv (track_group_of b) c k)) live.counts }) (λ lv h. h) step.missing_still

  there_before : (d : ℕ) → IsFalse (missing d) → IsFalse (s.missing d)
  there_before d n = false_by (s.missing d) (missing d) (step.missing_still d) n

  pub wants_core : Sound new
  wants_core =
      let n = quiet_nearly s new quiet was (record { statuses = statuses_now; home = λ d lv g there. was.notes.home d lv g (there_before d there) }) in
      record { blocks = n.blocks; tied = n.tied; statuses = n.statuses; behind = record { left_behind = step.behind }; notes = n.notes; holds = n.holds }

pub wants_keep : WantsKeep
wants_keep s wanted missing open_copy step was = wants_core s wanted missing open_copy step was

module _ (s : ModelState) (u : Stamped Marks) (none : s.in_flight ≡ None) (is : u.value ≡ s.wanted) (sound : Sound s) where
  abbrev begun : ModelState
  begun = record s { in_flight = Some u }

  is_wanted : (w : Stamped Marks) → Some u ≡ Some w → (c : Pp) → w.value.stale c ≡ s.wanted.stale c
  is_wanted w e c = ap (λ (x : Stamped Marks). x.value.stale c) (sym (same_one u w e)) ∙ ap (λ (m : Marks). m.stale c) is

  is_dirty : (w : Stamped Marks) → Some u ≡ Some w → (lv : ℕ) → w.value.dirty lv ≡ s.wanted.dirty lv
  is_dirty w e lv = ap (λ (x : Stamped Marks). x.value.dirty lv) (sym (same_one u w e)) ∙ ap (λ (m : Marks). m.dirty lv) is

  begun_statuses : Statuses begun
  begun_statuses = record {
    stale_flies = λ c w flies stale fresh. inr (complete_same s begun refl c (sound.statuses.stale_is_wanted c stale (sym (is_wanted w flies c) ∙ fresh)));
    stale_is_wanted = λ c stale n. complete_same s begun refl c (sound.statuses.stale_is_wanted c stale n);
    flying_is_wanted = λ c w flies stale n. clash_gives (s.wanted.stale c) (sym (is_wanted w flies c) ∙ stale) n;
    kept = λ lv b c copy. let k = sound.statuses.kept lv b c copy in (k.0, k.1, record { committed = k.2.committed; flying = λ w flies. is_wanted w flies k.0 ∙ k.2.wanted; wanted = k.2.wanted });
    open_there = sound.statuses.open_there;
    open_stale = sound.statuses.open_stale;
    dirty_flies = λ lv w flies h. is_dirty w flies lv ∙ sound.statuses.dirty_is_wanted lv h;
    dirty_is_wanted = sound.statuses.dirty_is_wanted;
    dirty_flying_is_wanted = λ lv w flies h. sym (is_dirty w flies lv) ∙ h;
  }

  live_then : (lv b : ℕ) (c : Pp) → Live begun lv b c → Live s lv b c
  live_then lv b c live = record {
    copy = live.copy;
    counts = ⊎_elim
        (λ (f : IsFalse (s.committed.value.stale c && u.value.stale c)). ⊎_elim
        (λ (stale : IsTrue (s.committed.value.stale c)).
        let k = sound.statuses.stale_is_wanted c stale (ap (λ (m : Marks). m.stale c) (sym is) ∙ (ap (λ (t : Bool). t && u.value.stale c) (sym stale) ∙ f)) in
        inr (record { copy = k.copy; is_open = k.is_open; target = k.target; passed = k.passed lv b live.copy }))
        (λ (fresh : IsFalse (s.committed.value.stale c)). inl (and_left (s.committed.value.stale c) (stale_in s.in_flight c) fresh))
        (cases_Bool (s.committed.value.stale c)))
        (λ (k : HasPassed begun lv (track_group_of b) c). inr (record { copy = k.copy; is_open = k.is_open; target = k.target; passed = k.passed }))
        live.counts;
  }

  begun_core : Sound begun
  begun_core =
      let quiet : Quiet s begun = quiet_of s begun refl refl live_then (λ lv h. h) (λ d h. h) in
      quiet_sound s begun quiet sound (record { statuses = begun_statuses; home = sound.notes.home }) (record { left_behind = sound.behind.left_behind })

pub begin_keeps : BeginKeeps
begin_keeps s u none is sound = begun_core s u none is sound

module _ (s : ModelState) (u : Stamped Marks) (open_copy : Option ModelCopy) (step : Commits s u open_copy) (sound : Sound s) where
  abbrev committed : ModelState
  committed = record s { committed = u; open_copy = open_copy }

  is_u : (w : Stamped Marks) → s.in_flight ≡ Some w → w ≡ u
  is_u w flies = same_one w u (sym flies ∙ step.flies)

  complete_after : (c : Pp) → IsTrue (u.value.stale c) → Complete s c → Complete committed c
  complete_after c stale k = record {
    copy = k.copy;
    target = k.target;
    passed = k.passed;
    is_open = ⊎_elim
        (λ (same : open_copy ≡ Some k.copy). same)
        (λ (fresh : IsFalse (u.value.stale k.copy.target)). clash_gives (u.value.stale c) stale (subst (λ (p : Pp). IsFalse (u.value.stale p)) k.target fresh))
        (step.open_done k.copy k.is_open);
  }

  committed_statuses : Statuses committed
  committed_statuses = record {
    stale_flies = λ c w flies stale fresh. clash_gives (u.value.stale c) stale (ap (λ (x : Stamped Marks). x.value.stale c) (sym (is_u w flies)) ∙ fresh);
    stale_is_wanted = λ c stale n. complete_after c stale (sound.statuses.flying_is_wanted c u step.flies stale n);
    flying_is_wanted = λ c w flies stale n. complete_after c (ap (λ (x : Stamped Marks). x.value.stale c) (sym (is_u w flies)) ∙ stale) (sound.statuses.flying_is_wanted c w flies stale n);
    kept = λ lv b c copy. let k = sound.statuses.kept lv b c copy in (k.0, k.1, record { committed = k.2.flying u step.flies; flying = k.2.flying; wanted = k.2.wanted });
    open_there = λ o is. sound.statuses.open_there o (step.open_same o is).0;
    open_stale = λ o is. (step.open_same o is).1;
    dirty_flies = λ lv w flies h. ap (λ (x : Stamped Marks). x.value.dirty lv) (is_u w flies) ∙ h;
    dirty_is_wanted = λ lv h. sound.statuses.dirty_flying_is_wanted lv u step.flies h;
    dirty_flying_is_wanted = sound.statuses.dirty_flying_is_wanted;
  }

  live_after : (lv b : ℕ) (c : Pp) → Live committed lv b c → Live s lv b c
  live_after lv b c live = record {
    copy = live.copy;
    counts = ⊎_elim
        (λ (f : IsFalse (u.value.stale c && stale_in s.in_flight c)).
        let fresh : IsFalse (u.value.stale c) = twice (u.value.stale c) (ap (λ (o : Option (Stamped Marks)). u.value.stale c && stale_in o c) (sym step.flies) ∙ f) in
        inl (and_right_false (s.committed.value.stale c) (stale_in s.in_flight c) (ap (λ (o : Option (Stamped Marks)). stale_in o c) step.flies ∙ fresh)))
        (λ (k : HasPassed committed lv (track_group_of b) c). inr (record { copy = k.copy; is_open = (step.open_same k.copy k.is_open).0; target = k.target; passed = k.passed }))
        live.counts;
  }
    where
      twice : (a : Bool) → IsFalse (a && a) → IsFalse a
      twice true h = h
      twice false h = h

  committed_nearly : Nearly committed
  committed_nearly =
      let quiet : Quiet s committed = quiet_of s committed refl refl live_after (λ lv h. sound.statuses.dirty_flies lv u step.flies h) (λ d h. h) in
      quiet_nearly s committed quiet (nearly s sound) (record { statuses = committed_statuses; home = sound.notes.home })

pub commit_keeps : CommitKeepsCore
commit_keeps s u open_copy step sound = committed_nearly s u open_copy step sound

module _ (s : ModelState) (done : s.in_flight ≡ Some s.committed) (sound : Sound s) where
  abbrev ended : ModelState
  ended = record s { in_flight = None }

  none_some : {X : Type 0} (w : Stamped Marks) → None ≡ Some w → X
  none_some w e = absurd cc

  ended_statuses : Statuses ended
  ended_statuses = record {
    stale_flies = λ c w flies stale fresh. none_some w flies;
    stale_is_wanted = λ c stale n. complete_same s ended refl c (sound.statuses.stale_is_wanted c stale n);
    flying_is_wanted = λ c w flies stale n. none_some w flies;
    kept = λ lv b c copy. let k = sound.statuses.kept lv b c copy in (k.0, k.1, record { committed = k.2.committed; flying = λ w flies. none_some w flies; wanted = k.2.wanted });
    open_there = sound.statuses.open_there;
    open_stale = sound.statuses.open_stale;
    dirty_flies = λ lv w flies h. none_some w flies;
    dirty_is_wanted = sound.statuses.dirty_is_wanted;
    dirty_flying_is_wanted = λ lv w flies h. none_some w flies;
  }

  ended_core : Sound ended
  ended_core =
      let quiet : Quiet s ended = quiet_of s ended refl refl (λ lv b c live. record {
        copy = live.copy;
        counts = ⊎_elim
            (λ (f : IsFalse (s.committed.value.stale c && true)). inl (and_left (s.committed.value.stale c) (stale_in s.in_flight c) (once (s.committed.value.stale c) f)))
            (λ (k : HasPassed ended lv (track_group_of b) c). inr (record { copy = k.copy; is_open = k.is_open; target = k.target; passed = k.passed }))
            live.counts;
      }) (λ lv h. h) (λ d h. h) in
      quiet_sound s ended quiet sound (record { statuses = ended_statuses; home = sound.notes.home }) (record { left_behind = sound.behind.left_behind })
    where
      once : (a : Bool) → IsFalse (a && true) → IsFalse a
      once true h = h
      once false h = h

pub update_end_keeps : UpdateEndKeeps
update_end_keeps s done sound = ended_core s done sound
