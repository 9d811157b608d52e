-- Turns until nothing may be made.
use Rattle.std.proofs.Common.{◌≡◌, ◌≤◌, ◌<◌, ◌+◌, ◌-◌, ◌⊎◌, inl, inr, false, ℕ, List, [], ◌∷◌, length, refl, sym, ◌∙◌, ap, subst, arith}
use Rattle.lvm_disk.specs.Counts.{RoseBy}
use Rattle.lvm_disk.specs.Device.{Device, Flight}
use Rattle.lvm_disk.specs.Paths.{Here, Path, Then}
use Rattle.lvm_disk.proofs.CountingLemmas.{rose_by_after, rose_by_more, rose_by_none}
use Rattle.lvm_session.specs.declared.open.Power.TheVariants as power
use Rattle.lvm_session.specs.State.{State}
use Rattle.lvm_session.specs.Enabled.{first_event, is_lost}
use Rattle.lvm_session.specs.declared.answers.Turned.{Turned}
use Rattle.lvm_session.specs.declared.answers.Turned.TheVariants as turned
use Rattle.lvm_session.specs.Turns.{Finds, FindsNothing, TurnMakes}
use Rattle.lvm_session.specs.Left.{left_of}
use Rattle.lvm_going.specs.Going.{RunsOn}
use Rattle.lvm_going.proofs.JoinsLemmas.{runs_both, runs_none}
use Rattle.lvm_keeps_events.specs.Telling.{TurnTells}
use Rattle.lvm_driver.specs.Drains.{IsAny, IsDrained, IsTurn, LastTurn, NoTurn, ThenMoves, ThenWaits, TurnsWhile}
use Rattle.lvm_keeps_events.proofs.CountsLemmas.{turn_counts}

-- So far turns have been made, and the patience that is gone went with answers that nothing has ended.
pub record Goes (first now : State) (patience left : ℕ) : Type 0 where
  pub turns : Path IsTurn IsAny first now
  pub unstuck : now.core.power ≡ power.Stuck → ⊥
  pub fewer : left ≤ patience
  pub waited : RoseBy (patience - left) first.device.counts.waits now.device.counts.waits
  pub runs : RunsOn first now
  pub costs : TurnsWhile IsAny patience first left now

pub begins : (first : State) (patience : ℕ) → (first.core.power ≡ power.Stuck → ⊥) → Goes first first patience patience
begins first patience unstuck = record {
  turns = Here tt;
  unstuck = unstuck;
  fewer = omega arith;
  waited = let none : 0 ≡ patience - patience = omega arith in subst (λ n. RoseBy n first.device.counts.waits first.device.counts.waits) none (rose_by_none first.device.counts.waits);
  runs = runs_none first;
  costs = NoTurn;
}

none_out : (fs : List Flight) → length fs ≡ 0 → fs ≡ []
none_out [] none = refl
none_out (f ∷ fs) none = absurd (omega (arith, none))

same_core : {old new : State} → Finds old new ⊎ FindsNothing old new → new.core ≡ old.core
same_core (inl finds) = finds.is
same_core (inr nothing) = ap (λ (s : State). s.core) nothing.is

module _ (first old new : State) (patience left : ℕ) (so_far : Goes first old patience left) where
  -- ---- one turn more

  pub path : (answer : Turned) → TurnMakes old new answer → Path IsTurn IsAny first new
  path answer made = Then so_far.turns (answer, made) tt

  waited_on : (answer : Turned) → TurnMakes old new answer → RoseBy (patience - left) first.device.counts.waits new.device.counts.waits
  waited_on answer made = rose_by_after so_far.waited (turn_counts old new answer made).waits

  not_stuck : power.On ≡ power.Stuck → ⊥
  not_stuck e = absurd (cc e)

  pub runs_then : RunsOn old new → RunsOn first new
  runs_then runs = runs_both first old new so_far.runs runs

  pub moved : TurnMakes old new turned.Moved → TurnTells old new turned.Moved → 1 ≤ left → RunsOn old new → Goes first new patience left
  moved made tells some runs = record {
    runs = runs_then runs;
    turns = path turned.Moved made;
    unstuck = λ stuck. not_stuck (sym tells.power_is ∙ stuck);
    fewer = so_far.fewer;
    waited = waited_on turned.Moved made;
    costs = ThenMoves so_far.costs tt some made;
  }

  -- where transfers are out none has ended
  finds : TurnTells old new turned.Idle → (length new.device.flights ≡ 0 → ⊥) → Finds old new
  finds tells out = by (tells.idle.0 refl).still
    where
      by : Finds old new ⊎ FindsNothing old new → Finds old new
      by (inl finds) = finds
      by (inr nothing) = absurd (out (ap (λ (s : State). length s.device.flights) nothing.is ∙ ap length nothing.idle))

  pub waits : TurnMakes old new turned.Idle → TurnTells old new turned.Idle → (length new.device.flights ≡ 0 → ⊥) → 1 ≤ left → RunsOn old new → Goes first new patience (left - 1)
  waits made tells out some runs =
      let few = so_far.fewer in
      let more : patience - left + 1 ≡ patience - (left - 1) = omega (arith, few, some) in
      let one : left ≡ left - 1 + 1 = omega (arith, some) in
      record {
        runs = runs_then runs;
        turns = path turned.Idle made;
        unstuck = λ stuck. not_stuck (sym tells.power_is ∙ stuck);
        fewer = omega (arith, few);
        waited = subst (λ n. RoseBy n first.device.counts.waits new.device.counts.waits) more (rose_by_more so_far.waited (finds tells out).waits.waits);
        costs = ThenWaits so_far.costs tt one made (finds tells out);
      }

  -- ---- the end

  pub last_turn : 1 ≤ left → (answer : Turned) → TurnMakes old new answer → LastTurn IsAny patience left first new answer
  last_turn some answer made = record { old = old; turns = so_far.costs; may = tt; some = some; makes = made }

  pub drained : TurnTells old new turned.Idle → length new.device.flights ≡ 0 → IsDrained new
  drained tells none =
      let still = tells.idle.0 refl in
      record { on = tells.power_is; votes = votes still.still; none = ap first_event (same_core still.still) ∙ still.none; idle = none_out new.device.flights none }
    where
      -- where transfers are out they still are
      votes : Finds old new ⊎ FindsNothing old new → is_lost new.core ≡ false
      votes (inl finds) =
          let still_out : length new.device.flights ≡ length old.device.flights = ap (λ (d : Device). length d.flights) finds.waits.new_is in
          absurd (omega (arith, finds.waits.out, still_out, none))
      votes (inr nothing) = ap (λ (s : State). is_lost s.core) nothing.is ∙ nothing.votes

-- ---- how long it takes

pub less_by_move : (old new : State) (left : ℕ) → TurnTells old new turned.Moved → left_of new.core + left < left_of old.core + left
less_by_move old new left tells = let less = tells.moved refl in omega (arith, less)

pub less_by_wait : (old new : State) (left : ℕ) → TurnTells old new turned.Idle → 1 ≤ left → left_of new.core + (left - 1) < left_of old.core + left
less_by_wait old new left tells some = let same = ap left_of (same_core (tells.idle.0 refl).still) in omega (arith, same, some)
