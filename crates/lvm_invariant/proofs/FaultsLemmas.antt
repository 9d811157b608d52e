-- A change of a session that has its causes.
use Rattle.std.proofs.Common.{◌≡◌, ◌⊎◌, inl, inr, ⊎_elim, ℕ, ◌≤◌, Bool, true, false, ◌==◌, List, [], ◌∷◌, ◌++◌, Option, Some, None, sym, ap, subst, ◌∙◌, arith, append_assoc}
use Rattle.std.specs.Prelude.{IsTrue, if◌then◌else◌}
use Rattle.std.specs.List.{AllByRecursion}
use Rattle.lvm_num.specs.declared.place.Pp.{Pp}
use Rattle.lvm_num.specs.Record.{Stamped}
use Rattle.lvm_num.proofs.Lists.{all_weaker, all_push}
use Rattle.lvm_disk.specs.Counts.{Rose}
use Rattle.lvm_vol.specs.declared.entry.Outcome.{Outcome}
use Rattle.lvm_vol.specs.declared.entry.Outcome.TheVariants as outcome
use Rattle.lvm_vol.specs.Facts.{Request, Fact, Landed}
use Rattle.lvm_invariant.specs.State.{Marks, Badly, Queued, ModelCopy, ModelState}
use Rattle.lvm_invariant.specs.Faults.{Faults, FaultsRose, SomeFailed, NoneFailed, IsStaleForCause}
use Rattle.lvm_invariant.specs.Caused.{LandingIsCaused, FactIsCaused, Since, Caused}
use Rattle.lvm_invariant.specs.Why.{asked_at}
use Rattle.lvm_invariant.proofs.CountingLemmas.{rose_then}

pub append_all : {X : Type 0} (P : X → Type 0) (xs ys : List X) → AllByRecursion P xs → AllByRecursion P ys → AllByRecursion P (xs ++ ys)
append_all P [] ys all more = more
append_all P (x ∷ xs) ys all more = (all.0, append_all P xs ys all.1 more)

-- Counts go on from w, and the place that an event enters, if any, is asked then.
module _ (w : Faults) (now : ℕ → ℕ) (place : Option ℕ) (rises : (d : ℕ) → w.now d ≤ now d) where
  abbrev after : Faults
  after = record w { now = now; asked = asked_at place w }

  pub fails_still : (d : ℕ) → FaultsRose w d → FaultsRose after d
  fails_still d h = rose_then (w.began d) (w.now d) (now d) h (rises d)

  pub cause_stays : (c : Pp) → IsStaleForCause w c → IsStaleForCause after c
  cause_stays c h = ⊎_elim (λ a. inl a) (λ rest. ⊎_elim (λ b. inr (inl b)) (λ f. inr (inr (fails_still c.disk f))) rest) h

  some_still : SomeFailed w → SomeFailed after
  some_still h = (h.0, fails_still h.0 h.1)

  none_before : NoneFailed after → NoneFailed w
  none_before none d h = none d (fails_still d h)

  -- what an event changes
  pub record Change (s new : ModelState) : Type 0 where
    pub copies : new.is_copy ≡ s.is_copy
    pub missing : (d : ℕ) → IsTrue (new.missing d) → IsTrue (s.missing d) ⊎ FaultsRose after d
    pub still_missing : (d : ℕ) → IsTrue (s.missing d) → IsTrue (new.missing d)
    pub committed : (c : Pp) → IsTrue (new.committed.value.stale c) → IsTrue (s.committed.value.stale c) ⊎ IsStaleForCause after c
    pub in_flight : (c : Pp) (u : Stamped Marks) → new.in_flight ≡ Some u → IsTrue (u.value.stale c) → (s.in_flight ≡ Some u) ⊎ IsStaleForCause after c
    pub wanted : (c : Pp) → IsTrue (new.wanted.stale c) → IsTrue (s.wanted.stale c) ⊎ IsStaleForCause after c
    pub brought_up : (o : ModelCopy) → new.open_copy ≡ Some o → ((p : ModelCopy) × (s.open_copy ≡ Some p) × (p.target ≡ o.target)) ⊎ IsStaleForCause after o.target
    pub failed : (i : ℕ) (r : Queued) (c : Pp) → new.queue i ≡ Some r → r.targets c ≡ Some Badly
        → ((e : Queued) × (s.queue i ≡ Some e) × (e.targets c ≡ Some Badly) × (asked_at place w i ≡ w.asked i)) ⊎ Rose (asked_at place w i c.disk) (now c.disk)
    pub landed : (new.facts ≡ s.facts) ⊎ ((f : Fact) × (new.facts ≡ s.facts ++ f ∷ []) × FactIsCaused after new f)

  module _ (s new : ModelState) (change : Change s new) (caused : Caused w s) where
    landing_stays : (q : Request) (how : Outcome) → LandingIsCaused w s q how → LandingIsCaused after new q how
    landing_stays q outcome.Lost h = some_still h
    landing_stays q outcome.ReadFailed h = some_still h
    landing_stays q outcome.Off h = λ none. h (none_before none)
    landing_stays q outcome.NoFresh h = λ none lv b c over copy. h (none_before none) lv b c over (sym (ap (λ (is : ℕ → ℕ → Pp → Bool). is lv b c) change.copies) ∙ copy)
    landing_stays q outcome.Done h = tt
    landing_stays q outcome.Got h = tt
    landing_stays q outcome.Dark h = tt

    fact_stays : (f : Fact) → FactIsCaused w s f → FactIsCaused after new f
    fact_stays (Landed q how started got) h = landing_stays q how h
    fact_stays _ h = tt

    since_then : Since after new new.facts
    since_then =
        let old : AllByRecursion (FactIsCaused after new) caused.landed.since = all_weaker (FactIsCaused w s) (FactIsCaused after new) fact_stays caused.landed.since caused.landed.caused in
        ⊎_elim
        (λ (same : new.facts ≡ s.facts). record { since = caused.landed.since; is = same ∙ caused.landed.is; caused = old })
        (λ (more : (f : Fact) × (new.facts ≡ s.facts ++ f ∷ []) × FactIsCaused after new f). record {
          since = caused.landed.since ++ more.0 ∷ [];
          is = more.1 ∙ ap (λ (l : List Fact). l ++ more.0 ∷ []) caused.landed.is ∙ append_assoc w.past caused.landed.since (more.0 ∷ []);
          caused = all_push (FactIsCaused after new) caused.landed.since more.0 old more.2;
        })
        change.landed

    begun : (i d : ℕ) → w.began d ≤ w.now d
    begun i d = omega (arith, caused.asked_since i d, caused.asked_before i d)

    asked_from : (p : Option ℕ) (i d : ℕ) → w.began d ≤ asked_at p w i d
    asked_from None i d = caused.asked_since i d
    asked_from (Some j) i d = by_test (i == j)
      where
        by_test : (t : Bool) → w.began d ≤ (if t then w.now else w.asked i) d
        by_test true = begun i d
        by_test false = caused.asked_since i d

    asked_to : (p : Option ℕ) (i d : ℕ) → asked_at p w i d ≤ now d
    asked_to None i d = omega (arith, caused.asked_before i d, rises d)
    asked_to (Some j) i d = by_test (i == j)
      where
        by_test : (t : Bool) → (if t then w.now else w.asked i) d ≤ now d
        by_test true = rises d
        by_test false = omega (arith, caused.asked_before i d, rises d)

    pub change_keeps : Caused after new
    change_keeps = record {
      asked_since = asked_from place;
      asked_before = asked_to place;
      missing = λ d h. ⊎_elim (λ was. ⊎_elim (λ a. inl a) (λ f. inr (fails_still d f)) (caused.missing d was)) (λ f. inr f) (change.missing d h);
      still_missing = λ d h. change.still_missing d (caused.still_missing d h);
      committed = λ c h. ⊎_elim (λ was. cause_stays c (caused.committed c was)) (λ k. k) (change.committed c h);
      in_flight = λ c u flies h. ⊎_elim (λ was. cause_stays c (caused.in_flight c u was h)) (λ k. k) (change.in_flight c u flies h);
      wanted = λ c h. ⊎_elim (λ was. cause_stays c (caused.wanted c was)) (λ k. k) (change.wanted c h);
      brought_up = λ o is. ⊎_elim
          (λ (was : (p : ModelCopy) × (s.open_copy ≡ Some p) × (p.target ≡ o.target)). subst (IsStaleForCause after) was.2 (cause_stays was.0.target (caused.brought_up was.0 was.1)))
          (λ k. k) (change.brought_up o is);
      failed = λ i r c there bad. ⊎_elim
          (λ (was : (e : Queued) × (s.queue i ≡ Some e) × (e.targets c ≡ Some Badly) × (asked_at place w i ≡ w.asked i)).
          subst (λ (a : ℕ → ℕ). Rose (a c.disk) (now c.disk)) (sym was.3) (rose_then (w.asked i c.disk) (w.now c.disk) (now c.disk) (caused.failed i was.0 c was.1 was.2) (rises c.disk)))
          (λ k. k) (change.failed i r c there bad);
      landed = since_then;
    }
