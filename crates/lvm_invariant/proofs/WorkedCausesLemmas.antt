-- Causes of worked sessions.
use Rattle.std.proofs.Common.{◌≡◌, inr, ⊎_elim, ℕ, ◌≤◌, Bool, true, false, List, [], ◌∷◌, Some, None, refl, arith}
use Rattle.std.specs.Prelude.{if◌then◌else◌}
use Rattle.lvm_num.specs.declared.place.Pp.{Pp}
use Rattle.lvm_disk.specs.Counts.{Rose}
use Rattle.lvm_invariant.specs.State.{ModelState, Stage, Todo, Badly}
use Rattle.lvm_num.specs.Descriptor.{is_pp}
use Rattle.lvm_num.proofs.Booleans.{not_so}
use Rattle.lvm_invariant.specs.Found.{Votes}
use Rattle.lvm_invariant.specs.Events.{Event, Allows, AllowsAll, made, after_all}
use Rattle.lvm_invariant.specs.First.{first_copy, second_copy, at_rest}
use Rattle.lvm_invariant.specs.Worked.{none_fresh, read_fails, first_at}
use Rattle.lvm_invariant.proofs.FirstLemmas.{nothing}
use Rattle.lvm_invariant.proofs.WorkedLemmas.Reads.{read_fails_allowed, none_fresh_allowed}
use Rattle.lvm_invariant.specs.Faults.{Faults}
use Rattle.lvm_invariant.specs.Why.{Why, enters, asked_at, CausedStep}
use Rattle.lvm_invariant.specs.CauseLaws.{CausedSteps, at_beginning}
use Rattle.lvm_invariant.specs.WorkedCauses.{none_failed, both_failed, first_failed, LeadsWithCauses, LossIsCaused, FailedReadIsCaused, FaultsAreNeeded}

-- the counts after an event
abbrev counted : Event → Faults → (ℕ → ℕ) → Faults
counted event w now = record w { now = now; asked = asked_at (enters event) w }

caused_step : (votes : Votes) (event : Event) (s : ModelState) (w : Faults) (now : ℕ → ℕ) → Allows votes event s → ((d : ℕ) → w.now d ≤ now d) → Why event s w.now now → CausedStep votes event s (made event s) w (counted event w now)
caused_step votes event s w now allowed rises why = record { step = (allowed, refl); counts = record { none_falls = rises; rest = refl }; why = why }

-- each event with the counts after it
abbrev Reasons : Votes → List Event → List (ℕ → ℕ) → ModelState → Faults → Type 0
Reasons votes [] counts s w = Unit {0}
Reasons votes (event ∷ events) [] s w = ⊥
Reasons votes (event ∷ events) (now ∷ counts) s w = ((d : ℕ) → w.now d ≤ now d) × Why event s w.now now × Reasons votes events counts (made event s) (counted event w now)

abbrev counted_all : List Event → List (ℕ → ℕ) → Faults → Faults
counted_all [] counts w = w
counted_all (event ∷ events) [] w = w
counted_all (event ∷ events) (now ∷ counts) w = counted_all events counts (counted event w now)

caused_steps : (votes : Votes) (events : List Event) (counts : List (ℕ → ℕ)) (s : ModelState) (w : Faults) → AllowsAll votes events s → Reasons votes events counts s w
    → CausedSteps votes events s (after_all events s) w (counted_all events counts w)
caused_steps votes [] counts s w allowed reasons = (refl, refl)
caused_steps votes (event ∷ events) [] s w allowed reasons = absurd reasons
caused_steps votes (event ∷ events) (now ∷ counts) s w allowed reasons = (
  made event s,
  counted event w now,
  caused_step votes event s w now allowed.0 reasons.0 reasons.1,
  caused_steps votes events counts (made event s) (counted event w now) allowed.1 reasons.2,
)

one_rose : (n m : ℕ) → n ≡ 0 → m ≡ 1 → Rose n m
one_rose n m before after = record { later = omega (arith, before, after); risen = omega (arith, before, after) }

none_falls : (d : ℕ) → 0 ≤ first_failed d
none_falls d = omega arith

-- events that are allowed lead to the last of the counts, where each has its reason
leads_to : (votes : Votes) (events : List Event) (counts : List (ℕ → ℕ)) (s : ModelState) (last : ℕ → ℕ) → AllowsAll votes events s → (counted_all events counts (at_beginning s none_failed)).now ≡ last
    → Reasons votes events counts s (at_beginning s none_failed) → LeadsWithCauses votes events s last
leads_to votes events counts s last allowed now reasons =
    record { after = counted_all events counts (at_beginning s none_failed); now = now; steps = caused_steps votes events counts s (at_beginning s none_failed) allowed reasons }

pub loss_is_caused : LossIsCaused
loss_is_caused votes mode =
    leads_to votes none_fresh (none_failed ∷ both_failed ∷ both_failed ∷ []) (at_rest mode false) both_failed (none_fresh_allowed votes mode) refl (
      (λ d. omega arith),
      (λ c. refl),
      ((λ d. omega arith), ((λ d gone. inr (one_rose 0 1 refl refl)), (λ c stale. not_so stale)), ((λ d. omega arith), tt, tt)),
    )

-- the chosen copy is to be read
is_todo : (c : Pp) (stage : Stage) → first_at Todo c ≡ Some stage → stage ≡ Todo
is_todo c stage = by (is_pp c first_copy)
  where
    by : (t : Bool) → (if t then Some Todo else None) ≡ Some stage → stage ≡ Todo
    by true h = cc
    by false h = nothing stage h

pub failed_read_is_caused : FailedReadIsCaused
failed_read_is_caused votes mode =
    leads_to votes read_fails (none_failed ∷ none_failed ∷ none_failed ∷ first_failed ∷ first_failed ∷ []) (at_rest mode true) first_failed (read_fails_allowed votes mode) refl (
      (λ d. omega arith),
      (λ c. refl),
      (
        (λ d. omega arith),
        (λ c stage at. is_todo c stage at),
        ((λ d. omega arith), (λ bad. absurd cc), (none_falls, (λ bad. one_rose 0 1 refl refl), ((λ d. omega arith), (first_copy, Badly, refl), tt))),
      ),
    )

-- where no count has risen, nothing has failed
unrisen : Rose 0 0 → ⊥
unrisen rose = absurd (omega (arith, rose.risen))

pub faults_are_needed : FaultsAreNeeded
faults_are_needed mode = record {
  missing = λ caused. ⊎_elim (λ was. not_so was) (λ rose. unrisen rose) (caused.missing 0 refl);
  stale = λ caused. ⊎_elim (λ was. not_so was) (λ rest. ⊎_elim (λ gone. not_so gone) (λ rose. unrisen rose) rest) (caused.wanted second_copy refl);
}
