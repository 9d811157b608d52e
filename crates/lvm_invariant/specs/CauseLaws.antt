-- Each event keeps the causes, and what follows from them.
use Rattle.std.specs.Prelude.{◌≡◌, ℕ, Bool, not, List, [], ◌∷◌, ◌++◌, None, IsTrue, IsFalse}
use Rattle.lvm_vol.specs.declared.entry.Outcome.TheVariants as outcome
use Rattle.lvm_vol.specs.Facts.{Cut}
use Rattle.lvm_invariant.specs.State.{ModelState}
use Rattle.lvm_invariant.specs.Found.{Votes}
use Rattle.lvm_invariant.specs.Good.{Good}
use Rattle.lvm_invariant.specs.Events.{Event}
use Rattle.lvm_invariant.specs.Off.{GoesOff}
use Rattle.lvm_invariant.specs.Faults.{Faults, NoneFailed}
use Rattle.lvm_invariant.specs.Over.{landings}
use Rattle.lvm_invariant.specs.First.{at_first}
use Rattle.lvm_invariant.specs.Caused.{Since, Caused}
use Rattle.lvm_invariant.specs.Why.{CausedStep}

-- Each event of a good state keeps the causes.
abbrev pub EachEventKeepsCauses : Type 0
EachEventKeepsCauses =
    (votes : Votes) (event : Event) (old new : ModelState) (before after : Faults) → CausedStep votes event old new before after → Good votes old → Caused before old → Caused after new

-- these events, one after another, with their causes
abbrev pub CausedSteps : Votes → List Event → ModelState → ModelState → Faults → Faults → Type 0
CausedSteps votes [] old new before after = (new ≡ old) × (after ≡ before)
CausedSteps votes (event ∷ events) old new before after = (s : ModelState) × (w : Faults) × CausedStep votes event old s before w × CausedSteps votes events s new w after

-- what causes are judged by when a session begins, at these counts
abbrev pub at_beginning : ModelState → (ℕ → ℕ) → Faults
at_beginning s counts = record { now = counts; began = counts; asked = λ i. counts; missing = s.missing; stale = s.committed.value.stale; past = s.facts }

-- nothing is asked and nothing under way
pub record IsUnasked (s : ModelState) : Type 0 where
  pub queue : (i : ℕ) → s.queue i ≡ None
  pub in_flight : s.in_flight ≡ None
  pub open_copy : s.open_copy ≡ None
  pub wanted : s.wanted ≡ s.committed.value

-- A session that begins so has its causes at each moment.
abbrev pub EachMomentIsCaused : Type 0
EachMomentIsCaused =
    (votes : Votes) (events : List Event) (old new : ModelState) (counts : ℕ → ℕ) (after : Faults)
    → Good votes old → IsUnasked old → CausedSteps votes events old new (at_beginning old counts) after → Caused after new

-- Where the members that weren't missing when a session began had votes enough, they still have unless a disk has failed;
abbrev pub VotesAreLostByFaults : Type 0
VotesAreLostByFaults =
    (votes : Votes) (s : ModelState) (w : Faults) → Caused w s → IsTrue (votes.writes (λ d. not (w.missing d))) → IsFalse (votes.writes (λ d. not (s.missing d))) → NoneFailed w → ⊥

-- so the landings of a group that goes off have their cause too, also where only the first of them have landed.
abbrev pub OffIsCaused : Type 0
OffIsCaused =
    (votes : Votes) (s : ModelState) (w : Faults) (first rest : List ℕ) (started : ℕ → Bool)
    → Caused w s → IsTrue (votes.writes (λ d. not (w.missing d))) → GoesOff votes s (first ++ rest) started → Since w s (s.facts ++ landings outcome.Off s.name started first)

-- Where the power is cut and open requests land as Dark, which needs no fault, what the history tells has its causes still.
abbrev pub CutIsCaused : Type 0
CutIsCaused = (s : ModelState) (w : Faults) (first : List ℕ) (started : ℕ → Bool) → Caused w s → Since w s ((s.facts ++ Cut ∷ []) ++ landings outcome.Dark s.name started first)

-- The first good session begins so.
abbrev pub FirstIsUnasked : Type 0
FirstIsUnasked = IsUnasked at_first
