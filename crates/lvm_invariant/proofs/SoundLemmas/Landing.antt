-- A write that has started lands.
use Rattle.std.proofs.Common.{◌≡◌, ◌⊎◌, inl, inr, ⊎_elim, ℕ, List, Option, Some, sym, ap, subst, ◌∙◌, eq-eqb, eqb-true, refl}
use Rattle.std.specs.Prelude.{IsTrue, IsFalse, ◌==◌}
use Rattle.std.proofs.lemmas.Bool.{cases_Bool}
use Rattle.lvm_num.specs.declared.place.Pp.{Pp}
use Rattle.lvm_num.specs.Geometry.{track_group_of}
use Rattle.lvm_num.proofs.Booleans.{clash_gives}
use Rattle.lvm_vol.specs.May.{Known, known}
use Rattle.lvm_invariant.proofs.Small.{IsIn}
use Rattle.lvm_invariant.specs.State.{Stage, Well, Going, Landed, ModelPhase, Queued, ModelState, covers, is_settled_stale, HasPassed, Live, Started, told}
use Rattle.lvm_invariant.specs.Sound.{Agree, Quiescent, Blocks, Sound}
use Rattle.lvm_invariant.proofs.StateLemmas.Effects.{ClosesOnly, DoneEffect, LostEffect}
use Rattle.lvm_invariant.proofs.UpdatesLemmas.Requests.{put_cases, put_other, one_write, one_req}
use Rattle.lvm_vol.specs.Legal.{lands}
use Rattle.lvm_vol.specs.declared.entry.Vol.TheVariants.{Lv}
use Rattle.lvm_vol.specs.Facts.{Fact}
use Rattle.lvm_invariant.specs.LandDone.{IsDropped}
use Rattle.lvm_invariant.specs.Updates.{land, landed}
use Rattle.lvm_invariant.proofs.SoundLemmas.Sound.{live_same, equal_same, recorded_same}

not_going : {X : Type 0} (p : ModelPhase) → Landed ≡ p → p ≡ Going → X
not_going p a b = absurd cc

module _ (s : ModelState) (sound : Sound s) (i : ℕ) (r : Queued) (facts : List Fact) (started_r : Started s i r) (closes : ClosesOnly s i r facts) where
  abbrev new : ModelState
  new = landed s i r facts

  started_before : (j : ℕ) (e : Queued) → Started new j e → IsFalse (j == i) × Started s j e
  started_before j e started = elim (put_cases s.queue i j (land r) e started.there) [
    | inl is ↦ not_going e.phase (ap (λ (q : Queued). q.phase) is.1) started.going
    | inr other ↦ (other.0, record { there = other.1; write = started.write; going = started.going })
  ]

  elsewhere : (j lv b : ℕ) (e : Queued) → IsFalse (j == i) → Started s j e → IsTrue (covers e lv b) → IsTrue (covers r lv b) → ⊥
  elsewhere j lv b e other started over over_r = clash_gives (j == i) (eq-eqb j i (sym (one_write s sound i j lv b r e started_r started over_r over))) other

  settled_off : (lv b : ℕ) → IsFalse (covers r lv b) → Quiescent s lv b → Quiescent new lv b
  settled_off lv b off settled = record {
    calm = λ j e started over. settled.calm j e (started_before j e started).1 over;
    allowed = λ e live. subst (λ (k : Known). IsIn k.values (s.media.block lv b e)) (sym (closes.outside lv b off)) (settled.allowed e (live_same s new refl lv b e live));
    equal = equal_same s new refl lv b (λ h. ap (λ (k : Known). k.loose) (closes.outside lv b off) ∙ h) (λ e live. (live_same s new refl lv b e live, refl)) (s.is_active lv) settled.equal;
  }

  -- given that, where it went over, the live copies hold one allowed value now
  pub landed_blocks : ((lv b : ℕ) → IsTrue (covers r lv b) → ((e : Pp) → Live s lv b e → IsIn (known facts (Lv lv) b).values (s.media.block lv b e)) × Agree s lv b) → Blocks new
  landed_blocks lands = record {
    each = λ lv b. ⊎_elim
        (λ (over : IsTrue (covers r lv b)). let at = lands lv b over in inl (record {
          calm = λ j e started over_e. let was = started_before j e started in elsewhere j lv b e was.0 was.1 over_e over;
          allowed = λ e live. at.0 e (live_same s new refl lv b e live);
          equal = inl (at.1.0, λ e live. at.1.1 e (live_same s new refl lv b e live));
        }))
        (λ (off : IsFalse (covers r lv b)). ⊎_elim
        (λ (settled : Quiescent s lv b). inl (settled_off lv b off settled))
        (λ (by : (j : ℕ) × (e : Queued) × Started s j e × IsTrue (covers e lv b)). ⊎_elim
        (λ (same : IsTrue (by.0 == i)). clash_gives (covers r lv b) (ap (λ (q : Queued). covers q lv b) (one_req (sym started_r.there ∙ ap s.queue (sym (eqb-true _ _ same)) ∙ by.2.there)) ∙ by.3) off)
        (λ (other : IsFalse (by.0 == i)). inr (by.0, by.1, record { there = put_other s.queue i by.0 (land r) other ∙ by.2.there; write = by.2.write; going = by.2.going }, by.3))
        (cases_Bool (by.0 == i)))
        (sound.blocks.each lv b))
        (cases_Bool (covers r lv b));
    busy = λ j lv b e started over.
        let was = started_before j e started in
        let busy = sound.blocks.busy j lv b e was.1 over in
        let off : IsFalse (covers r lv b) = ⊎_elim (λ (over_r : IsTrue (covers r lv b)). absurd (elsewhere j lv b e was.0 was.1 over over_r)) (λ (n : IsFalse (covers r lv b)). n) (cases_Bool (covers r lv b)) in
        record {
          known = subst (λ (k : Known). (values : List (List ℕ)) × (k.values ≡ Some values)) (sym (closes.outside lv b off)) busy.known;
          aimed = λ f live. busy.aimed f (live_same s new refl lv b f live);
          value = λ f live. subst (λ (k : Known). IsIn k.values (s.media.block lv b f) ⊎ (s.media.block lv b f ≡ e.value b)) (sym (closes.outside lv b off)) (busy.value f (live_same s new refl lv b f live));
          well = busy.well;
        };
    recorded = λ j lv b e started over.
        let was = started_before j e started in
        recorded_same s new refl lv b e (sound.blocks.recorded j lv b e was.1 over);
  }

-- a dropped copy isn't live
dropped_not_live : (s : ModelState) (sound : Sound s) (i : ℕ) (r : Queued) → Started s i r → (lv b : ℕ) → IsTrue (covers r lv b) → (e : Pp) → IsDropped s r e → Live s lv b e → ⊥
dropped_not_live s sound i r started lv b over e dropped live =
    let place = sound.tied.place i r started.there lv b over in
    ⊎_elim
    (λ (fresh : IsFalse (is_settled_stale s e)). clash_gives (is_settled_stale s e) dropped.stale fresh)
    (λ (k : HasPassed s lv (track_group_of b) e). dropped.uncaught (subst (λ (g : ℕ). HasPassed s r.lv g e) place.1 (subst (λ (v : ℕ). HasPassed s v (track_group_of b) e) place.0 k)))
    live.counts

pub done_blocks : (s : ModelState) (i : ℕ) (r : Queued) (facts : List Fact) → DoneEffect s i r facts → Sound s → Blocks (landed s i r facts)
done_blocks s i r facts step sound = landed_blocks s sound i r facts step.started step.closes
    (λ lv b over. (
      (λ e live. subst (λ (m : Option (List (List ℕ))). IsIn m (s.media.block lv b e)) (sym (step.may lv b over)) (inl (sym (holds lv b over e live)))),
      (r.value b, λ e live. holds lv b over e live),
    ))
  where
    holds : (lv b : ℕ) → IsTrue (covers r lv b) → (e : Pp) → Live s lv b e → s.media.block lv b e ≡ r.value b
    holds lv b over e live =
        let busy = sound.blocks.busy i lv b r step.started over in
        let at = busy.aimed e live in
        ⊎_elim
        (λ (well : at.0 ≡ Well). busy.well e (at.1 ∙ ap (λ (x : Stage). Some x) well))
        (λ (dropped : IsDropped s r e). absurd (dropped_not_live s sound i r step.started lv b over e dropped live))
        (step.ended e at.0 at.1)

pub lost_blocks : (s : ModelState) (i : ℕ) (r : Queued) (facts : List Fact) → LostEffect s i r facts → Sound s → Blocks (landed s i r facts)
lost_blocks s i r facts step sound = landed_blocks s sound i r facts step.started step.closes
    (λ lv b over. (
      (λ e live. let busy = sound.blocks.busy i lv b r step.started over in step.may lv b over (s.media.block lv b e)
          (⊎_elim
          (λ (h : IsIn (told s lv b).values (s.media.block lv b e)). inl h)
          (λ (h : s.media.block lv b e ≡ r.value b). inr (busy.known, h))
          (busy.value e live))),
      (s.media.block lv b step.kept, λ e live. ap (s.media.block lv b) (only lv b over e live)),
    ))
  where
    only : (lv b : ℕ) → IsTrue (covers r lv b) → (e : Pp) → Live s lv b e → e ≡ step.kept
    only lv b over e live =
        let busy = sound.blocks.busy i lv b r step.started over in
        let at = busy.aimed e live in
        ⊎_elim
        (λ (same : e ≡ step.kept). same)
        (λ (dropped : IsDropped s r e). absurd (dropped_not_live s sound i r step.started lv b over e dropped live))
        (step.ended e at.0 at.1)
