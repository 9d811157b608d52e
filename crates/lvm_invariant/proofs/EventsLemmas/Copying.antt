-- The copy that is brought up.
use Rattle.std.proofs.Common.{◌≡◌, ◌⊎◌, inl, inr, ⊎_elim, ℕ, Bool, true, false, List, Option, Some, None, refl, sym, ap, subst, ◌∙◌}
use Rattle.std.specs.Prelude.{IsTrue, IsFalse}
use Rattle.std.proofs.lemmas.Bool.{cases_Bool, and_left}
use Rattle.lvm_num.specs.declared.place.Pp.{Pp}
use Rattle.lvm_num.specs.Geometry.{track_group_of}
use Rattle.lvm_num.proofs.Booleans.{clash_gives, false_by}
use Rattle.lvm_invariant.proofs.Small.{IsIn}
use Rattle.lvm_invariant.specs.State.{Marks, ModelCopy, StepWrite, Going, Queued, ModelState, covers, stale_in, is_settled_stale, HasPassed, Live, Started, told}
use Rattle.lvm_invariant.specs.Sound.{Complete, Statuses, MayDiffer, Agree, Quiescent, Blocks, ModelHolds, Sound}
use Rattle.lvm_invariant.proofs.SoundLemmas.Sound.{complete_same, live_same, equal_same, recorded_same, each_same}
use Rattle.lvm_invariant.proofs.StateLemmas.Claims.{Quiet, CopyWriteKeepsCore, OpenKeepsCore, ClearKeepsCore}
use Rattle.lvm_invariant.proofs.UpdatesLemmas.Requests.{alone, past_of, one_req}
use Rattle.lvm_invariant.proofs.StateLemmas.Quieting.{quiet_of, quiet_sound}
use Rattle.lvm_invariant.specs.CopyWrite.{PassesGroups, CopyWrites}
use Rattle.lvm_invariant.specs.Updates.{with_block}
use Rattle.lvm_invariant.specs.Open.{Opens}
use Rattle.lvm_invariant.specs.Clear.{Clears}

the_copy : (a b : ModelCopy) → Some a ≡ Some b → a ≡ b
the_copy a b e = cc

module _ (s : ModelState) (i : ℕ) (r : Queued) (value : ℕ → List ℕ) (target : Pp) (open_copy : Option ModelCopy) (step_write : Option StepWrite) (block : ℕ → ℕ → Pp → List ℕ) (step : CopyWrites s i r value target open_copy block) (sound : Sound s) where
  abbrev new : ModelState
  new = record s { media = with_block s.media block; open_copy = open_copy; step_write = step_write }

  elsewhere : (j lv b : ℕ) (e : Queued) → Started s j e → IsTrue (covers e lv b) → IsTrue (covers r lv b) → ⊥
  elsewhere j lv b e started over_e over =
      let same : i ≡ j = alone s sound i j r e step.there started.there step.past (past_of e.phase Going started.going refl) (record { lv = lv; block = b; first = over; second = over_e; writes = inr started.write }) in
      clash_gives r.write (ap (λ (q : Queued). q.write) (one_req (sym step.there ∙ ap s.queue same ∙ started.there)) ∙ started.write) step.read

  -- a copy that is live now was live, or it is the target and has the value there
  live_was : (lv b : ℕ) (c : Pp) → Live new lv b c → Live s lv b c ⊎ ((c ≡ target) × IsTrue (covers r lv b) × (block lv b c ≡ value b))
  live_was lv b c live = ⊎_elim
      (λ (f : IsFalse (is_settled_stale s c)). inl (record { copy = live.copy; counts = inl f }))
      (λ (k : HasPassed new lv (track_group_of b) c). ⊎_elim
      (λ (same : open_copy ≡ s.open_copy). inl (record { copy = live.copy; counts = inr (record { copy = k.copy; is_open = sym same ∙ k.is_open; target = k.target; passed = k.passed }) }))
      (λ (p : PassesGroups s r value target block open_copy).
      let is : p.new ≡ k.copy = the_copy p.new k.copy (sym p.is_now ∙ k.is_open) in
      let at : p.old.target ≡ c = sym p.same_target ∙ ap (λ (q : ModelCopy). q.target) is ∙ k.target in
      ⊎_elim
      (λ (before : IsTrue (p.old.passed lv (track_group_of b))). inl (record { copy = live.copy; counts = inr (record { copy = p.old; is_open = p.is_open; target = at; passed = before }) }))
      (λ (now : IsTrue (s.is_copy lv b p.old.target) → IsTrue (covers r lv b) × (block lv b p.old.target ≡ value b)).
      let h = now (subst (λ (x : Pp). IsTrue (s.is_copy lv b x)) (sym at) live.copy) in
      inr (sym at ∙ p.own, h.0, subst (λ (x : Pp). block lv b x ≡ value b) at h.1))
      (p.passes lv b (ap (λ (q : ModelCopy). q.passed lv (track_group_of b)) is ∙ k.passed)))
      step.open_now)
      live.counts

  seen : (lv b : ℕ) → IsTrue (covers r lv b) → IsIn (told s lv b).values (value b) × (IsTrue (told s lv b).loose ⊎ ((e : Pp) → Live s lv b e → s.media.block lv b e ≡ value b))
  seen lv b over = sound.holds.got i lv b r value step.there step.read step.past step.got over

  -- where the step doesn't go, nothing changes
  off_block : (lv b : ℕ) → IsFalse (covers r lv b) → (c : Pp) → block lv b c ≡ s.media.block lv b c
  off_block lv b off c = ⊎_elim
      (λ (same : block lv b c ≡ s.media.block lv b c). same)
      (λ (h : IsTrue (covers r lv b) × (c ≡ target) × (block lv b c ≡ value b)). clash_gives (covers r lv b) h.0 off)
      (step.media lv b c)

  off_live : (lv b : ℕ) → IsFalse (covers r lv b) → (c : Pp) → Live new lv b c → Live s lv b c
  off_live lv b off c live = ⊎_elim
      (λ (l : Live s lv b c). l)
      (λ (h : (c ≡ target) × IsTrue (covers r lv b) × (block lv b c ≡ value b)). clash_gives (covers r lv b) h.1 off)
      (live_was lv b c live)

  -- where it goes and the block isn't loose, each live copy holds the value afterwards
  on_block : (lv b : ℕ) → IsTrue (covers r lv b) → ((e : Pp) → Live s lv b e → s.media.block lv b e ≡ value b) → (c : Pp) → Live new lv b c → block lv b c ≡ value b
  on_block lv b over equal c live = ⊎_elim
      (λ (l : Live s lv b c). ⊎_elim
      (λ (same : block lv b c ≡ s.media.block lv b c). same ∙ equal c l)
      (λ (h : IsTrue (covers r lv b) × (c ≡ target) × (block lv b c ≡ value b)). h.2)
      (step.media lv b c))
      (λ (h : (c ≡ target) × IsTrue (covers r lv b) × (block lv b c ≡ value b)). h.2)
      (live_was lv b c live)

  allowed_on : (lv b : ℕ) → Quiescent s lv b → IsTrue (covers r lv b) → (c : Pp) → Live new lv b c → IsIn (told s lv b).values (block lv b c)
  allowed_on lv b settled over c live = ⊎_elim
      (λ (l : Live s lv b c). ⊎_elim
      (λ (same : block lv b c ≡ s.media.block lv b c). subst (IsIn (told s lv b).values) (sym same) (settled.allowed c l))
      (λ (h : IsTrue (covers r lv b) × (c ≡ target) × (block lv b c ≡ value b)). subst (IsIn (told s lv b).values) (sym h.2) (seen lv b over).0)
      (step.media lv b c))
      (λ (h : (c ≡ target) × IsTrue (covers r lv b) × (block lv b c ≡ value b)). subst (IsIn (told s lv b).values) (sym h.2) (seen lv b over).0)
      (live_was lv b c live)

  equal_on : (lv b : ℕ) → IsTrue (covers r lv b) → (active : Bool) → s.is_active lv ≡ active → Agree new lv b ⊎ MayDiffer new lv b active
  equal_on lv b over active on = ⊎_elim
      (λ (loose : IsTrue (told s lv b).loose). by_mode active on loose)
      (λ (equal : (e : Pp) → Live s lv b e → s.media.block lv b e ≡ value b). inl (value b, on_block lv b over equal))
      (seen lv b over).1
    where
      by_mode : (x : Bool) → s.is_active lv ≡ x → IsTrue (told s lv b).loose → Agree new lv b ⊎ MayDiffer new lv b x
      by_mode true is loose = let at = sound.tied.inside i r step.there lv b over in clash_gives (told s lv b).loose loose (sound.tied.tight lv b at.0 at.1 (inl is))
      by_mode false is loose = inr (inl loose)

  settled_now : (lv b : ℕ) → Quiescent s lv b → Quiescent new lv b
  settled_now lv b settled = record {
    calm = λ j e started over. settled.calm j e (record { there = started.there; write = started.write; going = started.going }) over;
    allowed = λ c live. ⊎_elim
        (λ (over : IsTrue (covers r lv b)). allowed_on lv b settled over c live)
        (λ (off : IsFalse (covers r lv b)). subst (IsIn (told s lv b).values) (sym (off_block lv b off c)) (settled.allowed c (off_live lv b off c live)))
        (cases_Bool (covers r lv b));
    equal = ⊎_elim
        (λ (over : IsTrue (covers r lv b)). equal_on lv b over (s.is_active lv) refl)
        (λ (off : IsFalse (covers r lv b)). equal_same s new refl lv b (λ h. h) (λ c live. (off_live lv b off c live, off_block lv b off c)) (s.is_active lv) settled.equal)
        (cases_Bool (covers r lv b));
  }

  was_started : (j : ℕ) (e : Queued) → Started new j e → Started s j e
  was_started j e started = record { there = started.there; write = started.write; going = started.going }

  off_if_started : (j lv b : ℕ) (e : Queued) → Started s j e → IsTrue (covers e lv b) → IsFalse (covers r lv b)
  off_if_started j lv b e started over = ⊎_elim (λ (h : IsTrue (covers r lv b)). absurd (elsewhere j lv b e started over h)) (λ (f : IsFalse (covers r lv b)). f) (cases_Bool (covers r lv b))

  copy_blocks : Blocks new
  copy_blocks = record {
    each = each_same s new (λ j e started. record { there = started.there; write = started.write; going = started.going }) settled_now sound.blocks;
    busy = λ j lv b e started over.
        let was = was_started j e started in
        let busy = sound.blocks.busy j lv b e was over in
        let off = off_if_started j lv b e was over in
        record {
          known = busy.known;
          aimed = λ c live. busy.aimed c (off_live lv b off c live);
          value = λ c live. subst (λ (v : List ℕ). IsIn (told s lv b).values v ⊎ (v ≡ e.value b)) (sym (off_block lv b off c)) (busy.value c (off_live lv b off c live));
          well = λ c at. off_block lv b off c ∙ busy.well c at;
        };
    recorded = λ j lv b e started over.
        recorded_same s new refl lv b e (sound.blocks.recorded j lv b e (was_started j e started) over);
  }

  -- a live copy of the block of a request
  some_live : (j lv b : ℕ) (e : Queued) → s.queue j ≡ Some e → IsTrue (covers e lv b) → (c : Pp) × Live s lv b c
  some_live j lv b e there over =
      let inside = sound.tied.inside j e there lv b over in
      let kept = sound.statuses.kept lv b inside.0 inside.1 in
      (kept.0, record { copy = kept.1; counts = inl (and_left (s.committed.value.stale kept.0) (stale_in s.in_flight kept.0) kept.2.committed) })

  -- what a read knows of a value there stays true
  equal_now : (j lv b : ℕ) (e : Queued) (v : List ℕ) → s.queue j ≡ Some e → IsTrue (covers e lv b) → IsTrue (told s lv b).loose ⊎ ((c : Pp) → Live s lv b c → s.media.block lv b c ≡ v)
      → IsTrue (told s lv b).loose ⊎ ((c : Pp) → Live new lv b c → block lv b c ≡ v)
  equal_now j lv b e v there over (inl loose) = inl loose
  equal_now j lv b e v there over (inr equal) = ⊎_elim
      (λ (on : IsTrue (covers r lv b)). ⊎_elim
      (λ (loose : IsTrue (told s lv b).loose). inl loose)
      (λ (same : (c : Pp) → Live s lv b c → s.media.block lv b c ≡ value b).
      let l = some_live j lv b e there over in
      inr (λ c live. on_block lv b on same c live ∙ sym (same l.0 l.1) ∙ equal l.0 l.1))
      (seen lv b on).1)
      (λ (off : IsFalse (covers r lv b)). inr (λ c live. off_block lv b off c ∙ equal c (off_live lv b off c live)))
      (cases_Bool (covers r lv b))

  copy_holds : ModelHolds new
  copy_holds = record {
    order = sound.holds.order;
    reads = λ j lv b e there read past over c x at.
        let h = sound.holds.reads j lv b e there read past over c x at in
        ⊎_elim
        (λ (same : block lv b c ≡ s.media.block lv b c).
        subst (λ (v : List ℕ). IsIn (told s lv b).values v × (IsTrue (told s lv b).loose ⊎ ((g : Pp) → Live new lv b g → block lv b g ≡ v))) (sym same) (h.0, equal_now j lv b e (s.media.block lv b c) there over h.1))
        (λ (k : IsTrue (covers r lv b) × (c ≡ target) × (block lv b c ≡ value b)).
        subst (λ (v : List ℕ). IsIn (told s lv b).values v × (IsTrue (told s lv b).loose ⊎ ((g : Pp) → Live new lv b g → block lv b g ≡ v))) (sym k.2) ((seen lv b k.0).0, equal_now j lv b e (value b) there over (seen lv b k.0).1))
        (step.media lv b c);
    got = λ j lv b e v there read past got over.
        let h = sound.holds.got j lv b e v there read past got over in
        (h.0, equal_now j lv b e (v b) there over h.1);
  }

  complete_now : (c : Pp) → Complete s c → Complete new c
  complete_now c k = ⊎_elim
      (λ (same : open_copy ≡ s.open_copy). record { copy = k.copy; is_open = same ∙ k.is_open; target = k.target; passed = k.passed })
      (λ (p : PassesGroups s r value target block open_copy).
      let is : p.old ≡ k.copy = the_copy p.old k.copy (sym p.is_open ∙ k.is_open) in
      record {
        copy = p.new;
        is_open = p.is_now;
        target = p.same_target ∙ ap (λ (q : ModelCopy). q.target) is ∙ k.target;
        passed = λ lv b copy. p.still lv (track_group_of b) (ap (λ (q : ModelCopy). q.passed lv (track_group_of b)) is ∙ k.passed lv b copy);
      })
      step.open_now

  copy_statuses : Statuses new
  copy_statuses = record {
    stale_flies = λ c u f stale fresh. ⊎_elim (λ (w : IsTrue (s.wanted.stale c)). inl w) (λ (k : Complete s c). inr (complete_now c k)) (sound.statuses.stale_flies c u f stale fresh);
    stale_is_wanted = λ c stale m. complete_now c (sound.statuses.stale_is_wanted c stale m);
    flying_is_wanted = λ c u f stale m. complete_now c (sound.statuses.flying_is_wanted c u f stale m);
    kept = λ lv b c copy. let k = sound.statuses.kept lv b c copy in (k.0, k.1, record { committed = k.2.committed; flying = k.2.flying; wanted = k.2.wanted });
    open_there = λ m is. ⊎_elim
        (λ (same : open_copy ≡ s.open_copy). sound.statuses.open_there m (sym same ∙ is))
        (λ (p : PassesGroups s r value target block open_copy). subst (λ (x : Pp). IsFalse (s.missing x.disk)) (sym p.same_target ∙ ap (λ (q : ModelCopy). q.target) (the_copy p.new m (sym p.is_now ∙ is))) (sound.statuses.open_there p.old p.is_open))
        step.open_now;
    open_stale = λ m is. ⊎_elim
        (λ (same : open_copy ≡ s.open_copy). sound.statuses.open_stale m (sym same ∙ is))
        (λ (p : PassesGroups s r value target block open_copy). subst (λ (x : Pp). IsTrue (s.committed.value.stale x) ⊎ IsTrue (s.wanted.stale x)) (sym p.same_target ∙ ap (λ (q : ModelCopy). q.target) (the_copy p.new m (sym p.is_now ∙ is))) (sound.statuses.open_stale p.old p.is_open))
        step.open_now;
    dirty_flies = sound.statuses.dirty_flies;
    dirty_is_wanted = sound.statuses.dirty_is_wanted;
    dirty_flying_is_wanted = sound.statuses.dirty_flying_is_wanted;
  }

  copy_core : Sound new
  copy_core = record {
    blocks = copy_blocks;
    tied = record { open_writes = sound.tied.open_writes; modes = sound.tied.modes; tight = sound.tied.tight; owner = sound.tied.owner; inside = sound.tied.inside; place = sound.tied.place };
    statuses = copy_statuses;
    behind = record { left_behind = sound.behind.left_behind };
    notes = record { home = sound.notes.home; pinned = sound.notes.pinned };
    holds = copy_holds;
  }

pub copy_write_keeps : CopyWriteKeepsCore
copy_write_keeps s i r value target open_copy step_write block step sound = copy_core s i r value target open_copy step_write block step sound

-- ---- a copy is opened

module _ (s : ModelState) (o : ModelCopy) (step : Opens s o) (sound : Sound s) where
  abbrev opened : ModelState
  opened = record s { open_copy = Some o }

  none_open : {X : Type 0} (k : ModelCopy) → s.open_copy ≡ Some k → X
  none_open k is = absurd (two (s.open_copy) step.none is)
    where
      two : (x : Option ModelCopy) → x ≡ None → x ≡ Some k → ⊥
      two x a b = cc

  open_core : Sound opened
  open_core =
      let quiet : Quiet s opened = quiet_of s opened refl refl (λ lv b c live. record {
        copy = live.copy;
        counts = ⊎_elim (λ (f : IsFalse (is_settled_stale s c)). inl f)
            (λ (k : HasPassed opened lv (track_group_of b) c). clash_gives (o.passed lv (track_group_of b)) (ap (λ (q : ModelCopy). q.passed lv (track_group_of b)) (the_copy o k.copy k.is_open) ∙ k.passed) (step.passed lv (track_group_of b))) live.counts;
      }) (λ lv h. h) (λ d h. h) in
      quiet_sound s opened quiet sound (record {
        home = sound.notes.home;
        statuses = record {
          stale_flies = λ c u f stale fresh. ⊎_elim (λ (w : IsTrue (s.wanted.stale c)). inl w) (λ (k : Complete s c). none_open k.copy k.is_open) (sound.statuses.stale_flies c u f stale fresh);
          stale_is_wanted = λ c stale m. let k = sound.statuses.stale_is_wanted c stale m in none_open k.copy k.is_open;
          flying_is_wanted = λ c u f stale m. let k = sound.statuses.flying_is_wanted c u f stale m in none_open k.copy k.is_open;
          kept = λ lv b c copy. let k = sound.statuses.kept lv b c copy in (k.0, k.1, record { committed = k.2.committed; flying = k.2.flying; wanted = k.2.wanted });
          open_there = λ m is. subst (λ (q : ModelCopy). IsFalse (s.missing q.target.disk)) (the_copy o m is) step.there;
          open_stale = λ m is. inl (subst (λ (q : ModelCopy). IsTrue (s.committed.value.stale q.target)) (the_copy o m is) step.stale);
          dirty_flies = sound.statuses.dirty_flies;
          dirty_is_wanted = sound.statuses.dirty_is_wanted;
          dirty_flying_is_wanted = sound.statuses.dirty_flying_is_wanted;
        };
      }) (record { left_behind = sound.behind.left_behind })

pub open_keeps : OpenKeepsCore
open_keeps s o step sound = open_core s o step sound

-- ---- its staleness is no longer wanted

module _ (s : ModelState) (wanted : Marks) (c : Pp) (step : Clears s wanted c) (sound : Sound s) where
  abbrev cleared : ModelState
  cleared = record s { wanted = wanted }

  complete_if : (e : Pp) → IsTrue (s.wanted.stale e) → IsFalse (wanted.stale e) → Complete cleared e
  complete_if e w m = ⊎_elim
      (λ (h : IsTrue (wanted.stale e)). clash_gives (wanted.stale e) h m)
      (λ (is : e ≡ c). complete_same s cleared refl e (subst (λ (p : Pp). Complete s p) (sym is) step.complete))
      (step.still e w)

  clear_core : Sound cleared
  clear_core =
      let quiet : Quiet s cleared = quiet_of s cleared refl refl (live_same s cleared refl) (λ lv h. h) (λ d h. h) in
      quiet_sound s cleared quiet sound (record {
        home = sound.notes.home;
        statuses = record {
          stale_flies = λ e u f stale fresh. ⊎_elim
              (λ (w : IsTrue (s.wanted.stale e)). ⊎_elim (λ (h : IsTrue (wanted.stale e)). inl h) (λ (is : e ≡ c). inr (complete_same s cleared refl e (subst (λ (p : Pp). Complete s p) (sym is) step.complete))) (step.still e w))
              (λ (k : Complete s e). inr (complete_same s cleared refl e k))
              (sound.statuses.stale_flies e u f stale fresh);
          stale_is_wanted = λ e stale m. ⊎_elim
              (λ (w : IsTrue (s.wanted.stale e)). complete_if e w m)
              (λ (f : IsFalse (s.wanted.stale e)). complete_same s cleared refl e (sound.statuses.stale_is_wanted e stale f))
              (cases_Bool (s.wanted.stale e));
          flying_is_wanted = λ e u f stale m. ⊎_elim
              (λ (w : IsTrue (s.wanted.stale e)). complete_if e w m)
              (λ (h : IsFalse (s.wanted.stale e)). complete_same s cleared refl e (sound.statuses.flying_is_wanted e u f stale h))
              (cases_Bool (s.wanted.stale e));
          kept = λ lv b e copy. let k = sound.statuses.kept lv b e copy in (k.0, k.1, record { committed = k.2.committed; flying = k.2.flying; wanted = false_by (wanted.stale k.0) (s.wanted.stale k.0) (step.added k.0) k.2.wanted });
          open_there = sound.statuses.open_there;
          open_stale = λ o is. ⊎_elim
              (λ (h : IsTrue (s.committed.value.stale o.target)). inl h)
              (λ (w : IsTrue (s.wanted.stale o.target)). ⊎_elim (λ (h : IsTrue (wanted.stale o.target)). inr h) (λ (e : o.target ≡ c). inl (subst (λ (p : Pp). IsTrue (s.committed.value.stale p)) (sym e) step.stale)) (step.still o.target w))
              (sound.statuses.open_stale o is);
          dirty_flies = sound.statuses.dirty_flies;
          dirty_is_wanted = λ lv h. step.still_dirty lv (sound.statuses.dirty_is_wanted lv h);
          dirty_flying_is_wanted = λ lv u f h. step.still_dirty lv (sound.statuses.dirty_flying_is_wanted lv u f h);
        };
      }) (record { left_behind = step.behind })

pub clear_keeps : ClearKeepsCore
clear_keeps s wanted c step sound = clear_core s wanted c step sound
