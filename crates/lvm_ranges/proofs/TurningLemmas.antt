-- What goes on beside copies that are brought up.
use Rattle.lvm_ranges.proofs.passed.Going.{path_shape, path_frames, goes_any, leaves_both, leaves_none, stays_unstuck}
use Rattle.std.proofs.Common.{◌≡◌, ◌≤◌, ◌+◌, ◌-◌, ◌⊎◌, inl, inr, ℕ, refl, sym, ◌∙◌, subst, arith}
use Rattle.lvm_disk.specs.Counts.{RoseBy}
use Rattle.lvm_disk.specs.Paths.{Here, Path, Then}
use Rattle.lvm_disk.proofs.CountingLemmas.{rose_by_after, rose_by_more, rose_by_none}
use Rattle.lvm_session.specs.declared.answers.Turned.{Turned}
use Rattle.lvm_session.specs.declared.answers.Turned.TheVariants as turned
use Rattle.lvm_session.specs.declared.open.Power.TheVariants as power
use Rattle.lvm_session.specs.Sound.{IsSound}
use Rattle.lvm_session.specs.State.{Core, State}
use Rattle.lvm_session.specs.Turns.{Finds, FindsNothing, TurnMakes}
use Rattle.lvm_ranges.specs.passed.Going.{RunsOn}
use Rattle.lvm_ranges.specs.passed.KeepsEvents.{TurnTells}
use Rattle.lvm_ranges.specs.passed.Driver.{IsAny, IsTurn, LastTurn, NoTurn, ThenMoves, ThenWaits}
use Rattle.lvm_ranges.proofs.passed.KeepsEvents.{turn_counts, loses_both, loses_none, turn_loses}
use Rattle.lvm_ranges.proofs.KeepingLemmas.Tables.{table_same, table_then, turn_table}
use Rattle.lvm_ranges.specs.declared.fault.SyncFault.{SyncFault}
use Rattle.lvm_ranges.specs.declared.fault.SyncFault.TheVariants as fault
use Rattle.lvm_ranges.specs.Passing.{EachTurnWhile, EndsTurning}
use Rattle.lvm_ranges.specs.Turning.{GoesBeside, IsUnderWay, MakesLast, MakesTurn}

-- as many more
rose_by_both : {m n a b c : ℕ} → RoseBy m a b → RoseBy n b c → RoseBy (m + n) a c
rose_by_both one two = record { later = omega (arith, one.later, two.later); risen = omega (arith, one.risen, two.risen, one.later, two.later) }

rose_same : (n a b : ℕ) → RoseBy 0 a b → RoseBy (n - n) a b
rose_same n a b rose = let none : 0 ≡ n - n = omega arith in subst (λ k. RoseBy k a b) none rose

pub beside_none : (s : State) (left : ℕ) → GoesBeside s s left left
beside_none s left = record {
  leaves = leaves_none s;
  table = table_same s.core;
  orders = refl;
  loses = loses_none s;
  fewer = omega arith;
  waited = rose_same left s.device.counts.waits s.device.counts.waits (rose_by_none s.device.counts.waits);
}

pub beside_both : (old mid new : State) (a b c : ℕ) → GoesBeside old mid a b → GoesBeside mid new b c → GoesBeside old new a c
beside_both old mid new a b c one two =
    let high = one.fewer in
    let low = two.fewer in
    let both : a - b + (b - c) ≡ a - c = omega (arith, high, low) in
    record {
      leaves = leaves_both old mid new one.leaves two.leaves;
      table = table_then old.core mid.core new.core one.table two.table;
      orders = two.orders ∙ one.orders;
      loses = loses_both old mid new (path_shape one.leaves).counts (path_shape two.leaves).counts one.loses two.loses;
      fewer = omega (arith, high, low);
      waited = subst (λ n. RoseBy n old.device.counts.waits new.device.counts.waits) both (rose_by_both one.waited two.waited);
    }

pub unstuck_beside : (old new : State) (a b : ℕ) → GoesBeside old new a b → (old.core.power ≡ power.Stuck → ⊥) → new.core.power ≡ power.Stuck → ⊥
unstuck_beside old new a b beside = stays_unstuck old.core new.core (path_shape beside.leaves).power

-- ---- turns by the patience

-- some turns, whatever they cost
abbrev pub TurnsIn : (Core → Type 0) → State → State → Type 0
TurnsIn Is = Path (λ (old new : State). Is old.core × IsTurn old new) IsAny

pub turns_in : (Is : Core → Type 0) {patience : ℕ} {first : State} {left : ℕ} {now : State} → EachTurnWhile Is patience left first now → TurnsIn Is first now
turns_in Is NoTurn = Here tt
turns_in Is (ThenMoves turns may some made) = Then (turns_in Is turns) (may, (turned.Moved, made)) tt
turns_in Is (ThenWaits turns may one made finds) = Then (turns_in Is turns) (may, (turned.Idle, made)) tt

module _ (Is : Core → Type 0) (patience left after : ℕ) (first old new : State) (turns : EachTurnWhile Is patience left first old) (may : Is old.core) where
  pub one_turn : MakesTurn old new left after → EachTurnWhile Is patience after first new
  one_turn (inl moved) = subst (λ (n : ℕ). EachTurnWhile Is patience n first new) (sym moved.1) (ThenMoves turns may moved.0 moved.2)
  one_turn (inr waited) = ThenWaits turns may waited.0 waited.1 waited.2

  none_made : (after ≡ left) × (new ≡ old) → EachTurnWhile Is patience after first new × Is new.core
  none_made same = (
    subst (λ (n : ℕ). EachTurnWhile Is patience n first new) (sym same.0) (subst (λ (s : State). EachTurnWhile Is patience left first s) (sym same.1) turns),
    subst (λ (s : State). Is s.core) (sym same.1) may,
  )

  last_made : (answer : Turned) → (1 ≤ left) × (after ≡ left) × TurnMakes old new answer → LastTurn (λ (s : State). Is s.core) patience after first new answer
  last_made answer made = subst (λ (n : ℕ). LastTurn (λ (s : State). Is s.core) patience n first new answer) (sym made.1) (record { old = old; turns = turns; may = may; some = made.0; makes = made.2 })

  pub last_turn : (why : SyncFault) → MakesLast old new left after why → EndsTurning Is patience after first new why
  last_turn fault.Dark made = inr (last_made turned.Dark made)
  last_turn fault.Off made = inr (last_made turned.Off made)
  last_turn fault.Stuck made = none_made made
  last_turn fault.Busy made = none_made made
  last_turn fault.NoVolume made = none_made made
  last_turn fault.OutOfRange made = none_made made
  last_turn fault.HistoryFull made = none_made made
  last_turn (fault.SyncFailed disk) made = none_made made
  last_turn (fault.NoFresh lp) made = none_made made
  last_turn (fault.Missing disk) made = none_made made

-- ---- what runs on

pub runs_beside : (old new : State) (left : ℕ) → IsSound old → (answer : Turned) → TurnMakes old new answer → RunsOn old new → GoesBeside old new left left
runs_beside old new left sound answer made runs = record {
  leaves = goes_any runs;
  table = turn_table old new answer sound made;
  orders = (path_frames runs).orders;
  loses = turn_loses old new answer sound made;
  fewer = omega arith;
  waited = rose_same left old.device.counts.waits new.device.counts.waits (rose_by_after (rose_by_none old.device.counts.waits) (turn_counts old new answer made).waits);
}

-- where something is under way a turn that moves nothing finds that nothing has ended
pub finds_of : (old new : State) → IsUnderWay old → TurnTells old new turned.Idle → Finds old new
finds_of old new under_way tells = by (tells.idle.0 refl).still
  where
    by : Finds old new ⊎ FindsNothing old new → Finds old new
    by (inl finds) = finds
    by (inr nothing) =
        let still = tells.idle.0 refl in
        absurd (under_way (record { on = still.on; votes = nothing.votes; none = still.none; idle = nothing.idle }))

pub waits_beside : (old new : State) (left : ℕ) → 1 ≤ left → IsSound old → IsUnderWay old → TurnMakes old new turned.Idle → TurnTells old new turned.Idle → RunsOn old new → GoesBeside old new left (left - 1)
waits_beside old new left some sound under_way made tells runs = record {
  leaves = goes_any runs;
  table = turn_table old new turned.Idle sound made;
  orders = (path_frames runs).orders;
  loses = turn_loses old new turned.Idle sound made;
  fewer = omega arith;
  waited =
      let one : 0 + 1 ≡ left - (left - 1) = omega (arith, some) in
      subst (λ n. RoseBy n old.device.counts.waits new.device.counts.waits) one (rose_by_more (rose_by_none old.device.counts.waits) (finds_of old new under_way tells).waits.waits);
}
