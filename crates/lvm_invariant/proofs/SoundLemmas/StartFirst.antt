-- The first transfer of a write.
use Rattle.std.proofs.Common.{◌≡◌, ◌⊎◌, inl, inr, ⊎_elim, ℕ, Bool, true, false, ◌&&◌, not, List, Option, Some, None, refl, sym, ap, subst, ◌∙◌, eqb-true}
use Rattle.std.specs.Prelude.{IsTrue, IsFalse, ◌==◌}
use Rattle.std.proofs.lemmas.Bool.{cases_Bool}
use Rattle.lvm_num.specs.declared.place.Pp.{Pp}
use Rattle.lvm_num.specs.Geometry.{track_group_of}
use Rattle.lvm_num.specs.Record.{Stamped}
use Rattle.lvm_num.proofs.Booleans.{first_holds, clash_gives, both_fail}
use Rattle.lvm_invariant.proofs.Small.{IsIn}
use Rattle.lvm_invariant.specs.State.{Marks, Stage, Todo, Flying, Well, ModelPhase, Ready, Going, Queued, ModelState, covers, stale_in, is_settled_stale, is_usable, HasPassed, Live, Named, Started, told}
use Rattle.lvm_invariant.specs.Sound.{Quiescent, Busy, Recorded, Blocks, Complete, Sound}
use Rattle.lvm_invariant.proofs.UpdatesLemmas.Requests.{put_same, put_other, staged_cases, staged_was, staged_is, alone, past_of, one_req, started_cases, by_started}
use Rattle.lvm_invariant.specs.StartWrite.{MayStartWrite, going, started_first}
use Rattle.lvm_invariant.proofs.SoundLemmas.Sound.{live_same, equal_same, recorded_same}

-- a phase isn't two
pub not_both : {X : Type 0} (p : ModelPhase) → p ≡ Ready → p ≡ Going → X
not_both p a b = absurd cc

pub known_of : (may : Option (List (List ℕ))) (value : List ℕ) → IsIn may value → (values : List (List ℕ)) × (may ≡ Some values)
known_of None value h = absurd h
known_of (Some values) value h = (values, refl)

-- usable: fresh, and the disk is there
usable_of : (stale missing : Bool) → IsFalse stale → IsFalse missing → IsTrue (not stale && not missing)
usable_of true missing a b = absurd cc
usable_of false true a b = absurd cc
usable_of false false a b = refl

module _ (s : ModelState) (sound : Sound s) (i : ℕ) (r : Queued) (c : Pp) (may : MayStartWrite s i r c) where
  abbrev new : ModelState
  new = started_first s i r c

  abbrev next : Queued
  next = going r c

  -- where nothing is pending, each live copy of its partition is a target
  settled_true : (e : Pp) → IsTrue (s.is_copy r.lv r.first e) → IsTrue (s.wanted.stale e) → IsFalse (is_settled_stale s e) → ⊥
  settled_true e copy wanted live = clash_gives (is_settled_stale s e) (may.quiet e copy wanted) live

  source_kept : IsFalse (s.wanted.stale may.source)
  source_kept = ⊎_elim
      (λ (w : IsTrue (s.wanted.stale may.source)). clash_gives (s.committed.value.stale may.source) (first_holds (s.committed.value.stale may.source) (stale_in s.in_flight may.source) (may.quiet may.source may.source_copy w)) (both_fail (s.committed.value.stale may.source) (s.missing may.source.disk) may.source_usable).0)
      (λ (n : IsFalse (s.wanted.stale may.source)). n)
      (cases_Bool (s.wanted.stale may.source))

  target_if_fresh : (e : Pp) → IsTrue (s.is_copy r.lv r.first e) → IsFalse (is_settled_stale s e) → IsFalse (s.committed.value.stale e) → r.targets e ≡ Some Todo
  target_if_fresh e copy live fresh = ⊎_elim
      (λ (gone : IsTrue (s.missing e.disk)). absurd (settled_true e copy (sound.behind.left_behind r.lv r.first e may.source copy fresh gone may.source_copy may.source_usable source_kept) live))
      (λ (there : IsFalse (s.missing e.disk)). may.each e copy (inl (usable_of (s.committed.value.stale e) (s.missing e.disk) fresh there)))
      (cases_Bool (s.missing e.disk))

  flying_fresh : (o : Option (Stamped Marks)) (e : Pp) → IsTrue (s.committed.value.stale e) → IsFalse (s.committed.value.stale e && stale_in o e) → (u : Stamped Marks) × (o ≡ Some u) × IsFalse (u.value.stale e)
  flying_fresh None e stale live = clash_gives (s.committed.value.stale e && true) (ap (λ (t : Bool). t && true) stale) live
  flying_fresh (Some u) e stale live = (u, refl, sym (ap (λ (t : Bool). t && u.value.stale e) stale) ∙ live)

  target_if_cleared : (e : Pp) → IsTrue (s.is_copy r.lv r.first e) → IsFalse (is_settled_stale s e) → IsTrue (s.committed.value.stale e) → r.targets e ≡ Some Todo
  target_if_cleared e copy live stale =
      let flies = flying_fresh s.in_flight e stale live in
      ⊎_elim
      (λ (w : IsTrue (s.wanted.stale e)). absurd (settled_true e copy w live))
      (λ (k : Complete s e). may.each e copy (inr (record { copy = k.copy; is_open = k.is_open; target = k.target; passed = k.passed r.lv r.first copy })))
      (sound.statuses.stale_flies e flies.0 flies.1 stale flies.2)

  target_if_live : (e : Pp) → IsTrue (s.is_copy r.lv r.first e) → IsFalse (is_settled_stale s e) ⊎ HasPassed s r.lv (track_group_of r.first) e → r.targets e ≡ Some Todo
  target_if_live e copy (inl live) = ⊎_elim (target_if_cleared e copy live) (target_if_fresh e copy live) (cases_Bool (s.committed.value.stale e))
  target_if_live e copy (inr caught) = may.each e copy (inr caught)

  there_if_target : (e : Pp) (stage : Stage) → r.targets e ≡ Some stage → IsFalse (s.missing e.disk)
  there_if_target e stage at = ⊎_elim
      (λ (u : IsTrue (is_usable s e)). (both_fail (s.committed.value.stale e) (s.missing e.disk) u).1)
      (λ (k : HasPassed s r.lv (track_group_of r.first) e). subst (λ (f : Pp). IsFalse (s.missing f.disk)) k.target (sound.statuses.open_there k.copy k.is_open))
      (may.usable e stage at)

  -- no other write that has started goes where this one goes
  others_elsewhere : (j lv b : ℕ) (e : Queued) → Started s j e → IsTrue (covers r lv b) → IsTrue (covers e lv b) → ⊥
  others_elsewhere j lv b e started over_r over_e =
      let same : i ≡ j = alone s sound i j r e may.there started.there (past_of r.phase Ready may.ready refl) (past_of e.phase Going started.going refl) (record { lv = lv; block = b; first = over_r; second = over_e; writes = inl may.write }) in
      let is : r ≡ e = one_req (sym may.there ∙ ap s.queue same ∙ started.there) in
      not_both e.phase (ap (λ (q : Queued). q.phase) (sym is) ∙ may.ready) started.going

  settled_where : (lv b : ℕ) → IsTrue (covers r lv b) → Quiescent s lv b
  settled_where lv b over = elim (sound.blocks.each lv b) [
    | inl settled ↦ settled
    | inr by ↦ absurd (others_elsewhere by.0 lv b by.1 by.2 over by.3)
  ]

  is_started : Started new i next
  is_started = record { there = put_same s.queue i next; write = may.write; going = refl }

  -- a write that had started is another
  another : (j : ℕ) (e : Queued) → Started s j e → IsFalse (j == i)
  another j e started = ⊎_elim
      (λ (same : IsTrue (j == i)).
      let is : r ≡ e = one_req (sym may.there ∙ ap s.queue (sym (eqb-true _ _ same)) ∙ started.there) in
      not_both e.phase (ap (λ (q : Queued). q.phase) (sym is) ∙ may.ready) started.going)
      (λ (n : IsFalse (j == i)). n)
      (cases_Bool (j == i))

  calm_now : (lv b : ℕ) → IsFalse (covers r lv b) → Quiescent s lv b → Quiescent new lv b
  calm_now lv b off settled = record {
    calm = λ j e started over. ⊎_elim
        (λ (is : (j ≡ i) × (next ≡ e)). clash_gives (covers r lv b) (ap (λ (q : Queued). covers q lv b) is.1 ∙ over) off)
        (λ (old : IsFalse (j == i) × Started s j e). settled.calm j e old.1 over)
        (started_cases s new i next refl j e started);
    allowed = λ e live. settled.allowed e (live_same s new refl lv b e live);
    equal = equal_same s new refl lv b (λ h. h) (λ e live. (live_same s new refl lv b e live, refl)) (s.is_active lv) settled.equal;
  }

  busy_now : (lv b : ℕ) → IsTrue (covers r lv b) → Busy new next lv b
  busy_now lv b over =
      let settled = settled_where lv b over in
      let place = sound.tied.place i r may.there lv b over in
      let copy_of : (e : Pp) → IsTrue (s.is_copy lv b e) → IsTrue (s.is_copy r.lv r.first e) = λ e copy. subst (λ (f : Pp → Bool). IsTrue (f e)) place.2 (subst (λ (v : ℕ). IsTrue (s.is_copy v b e)) place.0 copy) in
      let back : IsTrue (s.is_copy lv b may.source) = subst (λ (v : ℕ). IsTrue (s.is_copy v b may.source)) (sym place.0) (subst (λ (f : Pp → Bool). IsTrue (f may.source)) (sym place.2) may.source_copy) in
      let live_one : Live s lv b may.source = record { copy = back; counts = inl (fresh_settled (s.committed.value.stale may.source) (s.missing may.source.disk) (stale_in s.in_flight may.source) may.source_usable) } in
      let at_first : (e : Pp) → IsFalse (is_settled_stale s e) ⊎ HasPassed s lv (track_group_of b) e → IsFalse (is_settled_stale s e) ⊎ HasPassed s r.lv (track_group_of r.first) e = λ e counts. ⊎_elim (λ (f : IsFalse (is_settled_stale s e)). inl f) (λ (k : HasPassed s lv (track_group_of b) e). inr (subst (λ (g : ℕ). HasPassed s r.lv g e) place.1 (subst (λ (v : ℕ). HasPassed s v (track_group_of b) e) place.0 k))) counts in
      record {
        known = known_of (told s lv b).values (s.media.block lv b may.source) (settled.allowed may.source live_one);
        aimed = λ e live. staged_is r.targets c e Flying Todo (target_if_live e (copy_of e live.copy) (at_first e (live_same s new refl lv b e live).counts));
        value = λ e live. inl (settled.allowed e (live_same s new refl lv b e live));
        well = λ e is. ⊎_elim
            (λ (f : Flying ≡ Well). absurd (differ f))
            (λ (t : r.targets e ≡ Some Well). absurd (todo (may.unstarted e Well t)))
            (staged_cases r.targets c e Flying Well is);
      }
    where
      fresh_settled : (a m f : Bool) → IsTrue (not a && not m) → IsFalse (a && f)
      fresh_settled true m f h = absurd cc
      fresh_settled false m f h = refl

      differ : Flying ≡ Well → ⊥
      differ e = cc

      todo : Well ≡ Todo → ⊥
      todo e = cc

  recorded_now : (lv b : ℕ) → IsTrue (covers r lv b) → Recorded new next lv b
  recorded_now lv b over =
      let place = sound.tied.place i r may.there lv b over in
      record {
        named = λ on several e stage at.
            let was = staged_was r.targets c e Flying stage at Todo may.target in
            let n = may.named (subst (λ (v : ℕ). IsTrue (s.is_active v)) place.0 on) several e was.0 was.1 in
            let there = there_if_target e was.0 was.1 in
            let own : Named new e.disk r.lv (track_group_of r.first) = record { home = sound.notes.home e.disk r.lv (track_group_of r.first) there ∙ n.0; flying = n.1 } in
            subst (λ (v : ℕ). Named new e.disk v (track_group_of b)) (sym place.0) (subst (λ (g : ℕ). Named new e.disk r.lv g) (sym place.1) own);
        one = let z = staged_is r.targets c c Flying Todo may.target in (c, z.0, z.1);
        dirty = λ soft several. subst (λ (v : ℕ). IsTrue (s.committed.value.dirty v)) (sym place.0) (may.dirty (subst (λ (v : ℕ). IsTrue (s.is_passive v)) place.0 soft) several);
        single = λ alone_is e f x y at_e at_f.
            let a = staged_was r.targets c e Flying x at_e Todo may.target in
            let b2 = staged_was r.targets c f Flying y at_f Todo may.target in
            may.single alone_is e f a.0 b2.0 a.1 b2.1;
      }

  busy_kept : (j lv b : ℕ) (e : Queued) → IsFalse (j == i) → Started s j e → IsTrue (covers e lv b) → Busy new e lv b
  busy_kept j lv b e other started over =
      let busy = sound.blocks.busy j lv b e started over in
      record { known = busy.known; aimed = λ f live. busy.aimed f (live_same s new refl lv b f live); value = λ f live. busy.value f (live_same s new refl lv b f live); well = busy.well }

  pub first_blocks : Blocks new
  first_blocks = record {
    each = λ lv b. ⊎_elim
        (λ (over : IsTrue (covers r lv b)). inr (i, next, is_started, over))
        (λ (off : IsFalse (covers r lv b)). ⊎_elim
        (λ (settled : Quiescent s lv b). inl (calm_now lv b off settled))
        (λ (by : (j : ℕ) × (e : Queued) × Started s j e × IsTrue (covers e lv b)).
        inr (by.0, by.1, record { there = put_other s.queue i by.0 next (another by.0 by.1 by.2) ∙ by.2.there; write = by.2.write; going = by.2.going }, by.3))
        (sound.blocks.each lv b))
        (cases_Bool (covers r lv b));
    busy = by_started s new i next refl (Busy new) busy_now busy_kept;
    recorded = by_started s new i next refl (Recorded new) recorded_now (λ j lv b e other started over. recorded_same s new refl lv b e (sound.blocks.recorded j lv b e started over));
  }
