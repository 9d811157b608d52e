-- A transfer of a write that has started starts or ends.
use Rattle.std.proofs.Common.{◌≡◌, ◌⊎◌, inl, inr, ⊎_elim, ℕ, List, Some, sym, ap, subst, ◌∙◌, eq-eqb, eqb-true, refl}
use Rattle.std.specs.Prelude.{IsTrue, IsFalse, ◌==◌}
use Rattle.std.proofs.lemmas.Bool.{cases_Bool}
use Rattle.lvm_num.specs.declared.place.Pp.{Pp}
use Rattle.lvm_num.specs.Geometry.{track_group_of}
use Rattle.lvm_num.proofs.Booleans.{clash_gives}
use Rattle.lvm_invariant.proofs.Small.{IsIn}
use Rattle.lvm_invariant.specs.State.{Stage, Well, Queued, ModelState, covers, Started, told}
use Rattle.lvm_invariant.specs.Sound.{Quiescent, Busy, Recorded, Blocks, Sound}
use Rattle.lvm_invariant.proofs.UpdatesLemmas.Requests.{put_same, put_other, staged_at, staged_was, staged_is, one_write, one_req, started_cases, by_started}
use Rattle.lvm_invariant.specs.Transfer.{Restages, restaged}
use Rattle.lvm_invariant.specs.Updates.{staged}
use Rattle.lvm_invariant.proofs.SoundLemmas.Sound.{live_same, named_same, equal_same, recorded_same}

module _ (s : ModelState) (sound : Sound s) (i : ℕ) (r : Queued) (c : Pp) (stage : Stage) (block : ℕ → ℕ → Pp → List ℕ) (step : Restages s i r c stage block) where
  abbrev next : Queued
  next = record r { targets = staged r.targets c stage }

  abbrev new : ModelState
  new = restaged s i r c stage block

  is_started : Started new i next
  is_started = record { there = put_same s.queue i next; write = step.started.write; going = step.started.going }

  same_if_off : (lv b : ℕ) (e : Pp) → (IsTrue (covers r lv b) → ⊥) → block lv b e ≡ s.media.block lv b e
  same_if_off lv b e off = elim (step.media lv b e) [
    | inl same ↦ same
    | inr new ↦ absurd (off new.0)
  ]

  settled_now : (lv b : ℕ) → Quiescent s lv b → Quiescent new lv b
  settled_now lv b settled = record {
    calm = λ j e started over. ⊎_elim
        (λ (is : (j ≡ i) × (next ≡ e)). off (ap (λ (q : Queued). covers q lv b) is.1 ∙ over))
        (λ (old : IsFalse (j == i) × Started s j e). settled.calm j e old.1 over)
        (started_cases s new i next refl j e started);
    allowed = λ e live. subst (IsIn (told s lv b).values) (sym (same_if_off lv b e off)) (settled.allowed e (live_same s new refl lv b e live));
    equal = equal_same s new refl lv b (λ h. h) (λ e live. (live_same s new refl lv b e live, same_if_off lv b e off)) (s.is_active lv) settled.equal;
  }
    where
      off : IsTrue (covers r lv b) → ⊥
      off over = settled.calm i r step.started over

  busy_now : (lv b : ℕ) → IsTrue (covers r lv b) → Busy new next lv b
  busy_now lv b over =
      let busy = sound.blocks.busy i lv b r step.started over in
      record {
        known = busy.known;
        aimed = λ e live. let at = busy.aimed e (live_same s new refl lv b e live) in staged_is r.targets c e stage at.0 at.1;
        value = λ e live. ⊎_elim
            (λ (same : block lv b e ≡ s.media.block lv b e). ⊎_elim
            (λ (h : IsIn (told s lv b).values (s.media.block lv b e)). inl (subst (IsIn (told s lv b).values) (sym same) h))
            (λ (h : s.media.block lv b e ≡ r.value b). inr (same ∙ h))
            (busy.value e (live_same s new refl lv b e live)))
            (λ (new : IsTrue (covers r lv b) × (e ≡ c) × (block lv b e ≡ r.value b)). inr new.2)
            (step.media lv b e);
        well = λ e at. ⊎_elim
            (λ (same : block lv b e ≡ s.media.block lv b e). ⊎_elim
            (λ (is : (stage ≡ Well) × (e ≡ c)). subst (λ (f : Pp). block lv b f ≡ r.value b) (sym is.1) (step.well is.0 lv b over))
            (λ (was : r.targets e ≡ Some Well). same ∙ busy.well e was)
            (staged_at r.targets c e stage Well at))
            (λ (new : IsTrue (covers r lv b) × (e ≡ c) × (block lv b e ≡ r.value b)). new.2)
            (step.media lv b e);
      }

  recorded_now : (lv b : ℕ) → IsTrue (covers r lv b) → Recorded new next lv b
  recorded_now lv b over =
      let recorded = sound.blocks.recorded i lv b r step.started over in
      record {
        named = λ on several e x at. let was = staged_was r.targets c e stage x at step.was.0 step.was.1 in named_same s new refl e.disk lv (track_group_of b) (recorded.named on several e was.0 was.1);
        one = let z = staged_is r.targets c recorded.one.0 stage recorded.one.1 recorded.one.2 in (recorded.one.0, z.0, z.1);
        dirty = recorded.dirty;
        single = λ alone_is e f x y at_e at_f.
            let a = staged_was r.targets c e stage x at_e step.was.0 step.was.1 in
            let d = staged_was r.targets c f stage y at_f step.was.0 step.was.1 in
            recorded.single alone_is e f a.0 d.0 a.1 d.1;
      }

  busy_kept : (j lv b : ℕ) (e : Queued) → IsFalse (j == i) → Started s j e → IsTrue (covers e lv b) → Busy new e lv b
  busy_kept j lv b e other started over =
      let busy = sound.blocks.busy j lv b e started over in
      let off : IsTrue (covers r lv b) → ⊥ = λ over_r. clash_gives (j == i) (eq-eqb j i (sym (one_write s sound i j lv b r e step.started started over_r over))) other in
      record {
        known = busy.known;
        aimed = λ f live. busy.aimed f (live_same s new refl lv b f live);
        value = λ f live. subst (λ (v : List ℕ). IsIn (told s lv b).values v ⊎ (v ≡ e.value b)) (sym (same_if_off lv b f off)) (busy.value f (live_same s new refl lv b f live));
        well = λ f at. same_if_off lv b f off ∙ busy.well f at;
      }

  pub restaged_blocks : Blocks new
  restaged_blocks = record {
    each = λ lv b. ⊎_elim
        (λ (settled : Quiescent s lv b). inl (settled_now lv b settled))
        (λ (by : (j : ℕ) × (e : Queued) × Started s j e × IsTrue (covers e lv b)). ⊎_elim
        (λ (same : IsTrue (by.0 == i)). inr (i, next, is_started, ap (λ (q : Queued). covers q lv b) (one_req (sym step.started.there ∙ ap s.queue (sym (eqb-true _ _ same)) ∙ by.2.there)) ∙ by.3))
        (λ (other : IsFalse (by.0 == i)). inr (by.0, by.1, record { there = put_other s.queue i by.0 next other ∙ by.2.there; write = by.2.write; going = by.2.going }, by.3))
        (cases_Bool (by.0 == i)))
        (sound.blocks.each lv b);
    busy = by_started s new i next refl (Busy new) busy_now busy_kept;
    recorded = by_started s new i next refl (Recorded new) recorded_now (λ j lv b e other started over. recorded_same s new refl lv b e (sound.blocks.recorded j lv b e started over));
  }
