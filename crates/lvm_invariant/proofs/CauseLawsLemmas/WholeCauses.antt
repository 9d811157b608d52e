-- Each event keeps the causes, a list of events does, and what follows from them.
use Rattle.std.proofs.Common.{◌≡◌, inl, ⊎_elim, ℕ, Bool, true, false, not, List, [], ◌∷◌, ◌++◌, Some, None, refl, sym, ap, subst, ◌∙◌, arith, append_assoc, append-nil}
use Rattle.std.specs.Prelude.{IsTrue, IsFalse}
use Rattle.std.specs.List.{AllByRecursion}
use Rattle.lvm_vol.specs.Facts.{Fact, Cut}
use Rattle.lvm_vol.specs.declared.entry.Outcome.TheVariants as outcome
use Rattle.lvm_invariant.specs.Over.{landings}
use Rattle.lvm_invariant.specs.State.{Marks, ModelState}
use Rattle.lvm_invariant.specs.Found.{Votes}
use Rattle.lvm_invariant.specs.Good.{Good}
use Rattle.lvm_invariant.specs.Events.{Event}
use Rattle.lvm_invariant.proofs.EventsLemmas.Each.{each_keeps}
use Rattle.lvm_invariant.specs.Faults.{Faults, FaultsRose, NoneFailed}
use Rattle.lvm_invariant.specs.Caused.{FactIsCaused, Since, Caused}
use Rattle.lvm_invariant.specs.Why.{enters}
use Rattle.lvm_invariant.specs.CauseLaws.{EachEventKeepsCauses, CausedSteps, at_beginning, IsUnasked, EachMomentIsCaused, VotesAreLostByFaults, OffIsCaused, CutIsCaused, FirstIsUnasked}
use Rattle.lvm_invariant.proofs.FaultsLemmas.{append_all, change_keeps}
use Rattle.lvm_invariant.proofs.CauseLawsLemmas.EachCause.{changes}

pub each_keeps_causes : EachEventKeepsCauses
each_keeps_causes votes event old new before after step good caused =
    subst (λ (w : Faults). Caused w new) (sym step.counts.rest)
    (change_keeps before after.now (enters event) step.counts.none_falls old new
    (changes votes old before after.now step.counts.none_falls good caused event new step.step step.why) caused)

steps_keep : (votes : Votes) (events : List Event) (old new : ModelState) (before after : Faults) → CausedSteps votes events old new before after → Good votes old → Caused before old → Caused after new
steps_keep votes [] old new before after steps good caused = subst (λ (w : Faults). Caused w new) (sym steps.1) (subst (Caused before) (sym steps.0) caused)
steps_keep votes (event ∷ events) old new before after steps good caused =
    steps_keep votes events steps.0 new steps.1 after steps.3 (each_keeps votes event old steps.0 steps.2.step good) (each_keeps_causes votes event old steps.0 before steps.1 steps.2 good caused)

first_caused : (s : ModelState) (counts : ℕ → ℕ) → IsUnasked s → Caused (at_beginning s counts) s
first_caused s counts fresh = record {
  asked_since = λ i d. omega arith;
  asked_before = λ i d. omega arith;
  missing = λ d h. inl h;
  still_missing = λ d h. h;
  committed = λ c h. inl h;
  in_flight = λ c u flies h. absurd (nothing u (sym fresh.in_flight ∙ flies));
  wanted = λ c h. inl (ap (λ (m : Marks). m.stale c) (sym fresh.wanted) ∙ h);
  brought_up = λ o is. absurd (nothing o (sym fresh.open_copy ∙ is));
  failed = λ i r c there bad. absurd (nothing r (sym (fresh.queue i) ∙ there));
  landed = record { since = []; is = sym (append-nil s.facts); caused = tt };
}
  where
    nothing : {X : Type 0} (x : X) → None ≡ Some x → ⊥
    nothing x e = absurd cc

pub each_moment_caused : EachMomentIsCaused
each_moment_caused votes events old new counts after good fresh steps = steps_keep votes events old new (at_beginning old counts) after steps good (first_caused old counts fresh)

-- members that were missing are those that are, where no disk has failed
same_test : (a b : Bool) → (IsTrue a → IsTrue b) → (IsTrue b → IsTrue a) → not a ≡ not b
same_test true true h k = refl
same_test false false h k = refl
same_test true false h k = absurd (no_truth (h refl))
  where
    no_truth : IsTrue false → ⊥
    no_truth e = absurd cc
same_test false true h k = absurd (no_truth (k refl))
  where
    no_truth : IsTrue false → ⊥
    no_truth e = absurd cc

pub votes_lost : VotesAreLostByFaults
votes_lost votes s w caused enough lost none =
    let same : (d : ℕ) → not (s.missing d) ≡ not (w.missing d) =
    λ d. same_test (s.missing d) (w.missing d) (λ h. ⊎_elim (λ was. was) (λ (f : FaultsRose w d). absurd (none d f)) (caused.missing d h)) (caused.still_missing d) in
    both (votes.writes (λ d. not (w.missing d))) enough (ap votes.writes (λ t d. sym (same d) t) ∙ lost)
  where
    both : (b : Bool) → IsTrue b → IsFalse b → ⊥
    both true h k = absurd cc
    both false h k = absurd cc

-- landings of which each has its cause
all_landings : (s : ModelState) (w : Faults) (started : ℕ → Bool) → (NoneFailed w → ⊥) → (places : List ℕ) → AllByRecursion (FactIsCaused w s) (landings outcome.Off s.name started places)
all_landings s w started why [] = tt
all_landings s w started why (i ∷ places) = (why, all_landings s w started why places)

dark_landings : (s : ModelState) (w : Faults) (started : ℕ → Bool) (places : List ℕ) → AllByRecursion (FactIsCaused w s) (landings outcome.Dark s.name started places)
dark_landings s w started [] = tt
dark_landings s w started (i ∷ places) = (tt, dark_landings s w started places)

-- entries that have their cause
since_more : (w : Faults) (s : ModelState) (facts more : List Fact) → AllByRecursion (FactIsCaused w s) more → Since w s facts → Since w s (facts ++ more)
since_more w s facts more all old = record {
  since = old.since ++ more;
  is = ap (λ (l : List Fact). l ++ more) old.is ∙ append_assoc w.past old.since more;
  caused = append_all (FactIsCaused w s) old.since more old.caused all;
}

pub off_caused : OffIsCaused
off_caused votes s w first rest started caused enough off =
    since_more w s s.facts (landings outcome.Off s.name started first) (all_landings s w started (votes_lost votes s w caused enough off.lost) first) caused.landed

pub cut_caused : CutIsCaused
cut_caused s w places started caused =
    since_more w s (s.facts ++ Cut ∷ []) (landings outcome.Dark s.name started places) (dark_landings s w started places) (since_more w s s.facts (Cut ∷ []) (tt, tt) caused.landed)

pub first_is_unasked : FirstIsUnasked
first_is_unasked = record { queue = λ i. refl; in_flight = refl; open_copy = refl; wanted = refl }
