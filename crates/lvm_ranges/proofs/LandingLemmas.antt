-- Turns until a range has landed.
use Rattle.std.proofs.Common.{◌≡◌, ◌≤◌, ◌<◌, ◌+◌, ◌-◌, ◌&&◌, ◌||◌, ◌==◌, ◌⊎◌, inl, inr, ℕ, Bool, true, false, List, [], ◌∷◌, refl, sym, ◌∙◌, ap, subst, arith}
use Rattle.std.specs.Prelude.{Ok}
use Rattle.std.specs.List.{list_any, AllByRecursion}
use Rattle.lvm_num.proofs.Booleans.{not_so}
use Rattle.lvm_disk.specs.Counts.{RoseBy}
use Rattle.lvm_disk.specs.Paths.{Here, Path, Then}
use Rattle.lvm_disk.proofs.CountingLemmas.{rose_by_after, rose_by_more, rose_by_none}
use Rattle.lvm_session.specs.declared.open.Open.{Open}
use Rattle.lvm_session.specs.declared.open.Power.TheVariants as power
use Rattle.lvm_session.specs.declared.answers.Turned.{Turned}
use Rattle.lvm_session.specs.declared.answers.Turned.TheVariants as turned
use Rattle.lvm_session.specs.Judging.{is_waiting}
use Rattle.lvm_session.specs.Left.{left_of}
use Rattle.lvm_session.specs.Requests.{IsLanded}
use Rattle.lvm_session.specs.Sound.{IsOver, IsSound, waits}
use Rattle.lvm_session.specs.State.{State}
use Rattle.lvm_session.specs.Turns.{Finds, FindsNothing, TurnMakes}
use Rattle.lvm_driver.specs.passed.KeepsEvents.{is_last, TurnTells, power_by}
use Rattle.lvm_driver.specs.passed.Going.{is_moving, RunsOn}
use Rattle.lvm_driver.proofs.passed.Going.{path_frames, runs_both, runs_none}
use Rattle.lvm_driver.proofs.passed.KeepsEvents.{turn_ends, turn_counts}
use Rattle.lvm_keeps_events.specs.Losing.{LosesByFaults, LosesVotesByFaults}
use Rattle.lvm_keeps_events.proofs.LosingLemmas.Losing.{loses_both, loses_none, turn_loses}
use Rattle.lvm_keeps_events.proofs.LosingLemmas.Votes.{votes_go}
use Rattle.lvm_driver.proofs.StandingLemmas.{none_waits_still}
use Rattle.lvm_driver.specs.Drains.{IsAny, LastTurn, NoTurn, ThenMoves, ThenWaits, TurnsWhile}
use Rattle.lvm_posts.specs.declared.asked.Asked.{Asked}
use Rattle.lvm_ranges.specs.Keeping.{KeepsTable}
use Rattle.lvm_ranges.specs.Landing.{AwaitCosts, HavePiecesLanded, IsUnfinished, TurnsFor, TurnsLeave}
use Rattle.lvm_ranges.proofs.KeepingLemmas.Tables.{table_same, table_then, turn_table}

-- what goes on over turns, and over each call
pub record GoesWith (first now : State) : Type 0 where
  pub table : KeepsTable first.core now.core
  pub unstuck : now.core.power ≡ power.Stuck → ⊥
  pub runs : RunsOn first now
  pub loses : LosesByFaults first now

pub at_first : (first : State) → (first.core.power ≡ power.Stuck → ⊥) → GoesWith first first
at_first first unstuck = record { table = table_same first.core; unstuck = unstuck; runs = runs_none first; loses = loses_none first }

-- no turn leaves a session stuck
not_stuck : (answer : Turned) → power_by answer ≡ power.Stuck → ⊥
not_stuck turned.Moved e = absurd (cc e)
not_stuck turned.Idle e = absurd (cc e)
not_stuck turned.Dark e = absurd (cc e)
not_stuck turned.Off e = absurd (cc e)

pub with_turn : (first old new : State) (answer : Turned) → GoesWith first old → IsSound old → TurnMakes old new answer → TurnTells old new answer → RunsOn old new → GoesWith first new
with_turn first old new answer so_far sound made tells runs = record {
  table = table_then first.core old.core new.core so_far.table (turn_table old new answer sound made);
  unstuck = λ stuck. not_stuck answer (sym tells.power_is ∙ stuck);
  runs = runs_both first old new so_far.runs runs;
  loses = loses_both first old new (path_frames so_far.runs).keeps.counts (path_frames runs).keeps.counts so_far.loses (turn_loses old new answer sound made);
}

-- so the votes go by faults alone
pub votes_with : (first now : State) → GoesWith first now → LosesVotesByFaults first now
votes_with first now on = votes_go first now (path_frames on.runs).keeps.descriptor on.loses

pub turns_leave : (first now : State) → GoesWith first now → TurnsLeave first now
turns_leave first now on = record { table = on.table; runs = on.runs; votes = votes_with first now on }

-- So far turns were made while some piece hadn't landed, and the patience that is gone went with answers that nothing has ended.
pub record Goes (asked : Asked) (first now : State) (patience left : ℕ) : Type 0 where
  pub turns : Path (TurnsFor asked) IsAny first now
  pub on : GoesWith first now
  pub fewer : left ≤ patience
  pub waited : RoseBy (patience - left) first.device.counts.waits now.device.counts.waits

pub begins : (asked : Asked) (first : State) (patience : ℕ) → (first.core.power ≡ power.Stuck → ⊥) → Goes asked first first patience patience
begins asked first patience unstuck = record {
  turns = Here tt;
  on = at_first first unstuck;
  fewer = omega arith;
  waited = let none : 0 ≡ patience - patience = omega arith in subst (λ n. RoseBy n first.device.counts.waits first.device.counts.waits) none (rose_by_none first.device.counts.waits);
}

-- ---- what waits

-- one that waits by its number waits
some_waits : (os : List Open) (id : ℕ) → waits os id ≡ true → list_any is_waiting os ≡ true
some_waits [] id is = not_so is
some_waits (o ∷ os) id is = by (is_waiting o) (o.request.id == id) (some_waits os id) is
  where
    by : (a b : Bool) → (waits os id ≡ true → list_any is_waiting os ≡ true) → (a && b) || waits os id ≡ true → a || list_any is_waiting os ≡ true
    by true b rest is = refl
    by false b rest is = rest is

-- none does that has landed
none_waits : (os : List Open) (id : ℕ) → AllByRecursion IsLanded os → waits os id ≡ false
none_waits [] id all = refl
none_waits (o ∷ os) id all = by (is_waiting o) all.0.landed (none_waits os id all.1)
  where
    by : (a : Bool) → a ≡ false → waits os id ≡ false → (a && o.request.id == id) || waits os id ≡ false
    by true is rest = not_so (sym is)
    by false is rest = rest

-- once a session is over each range has landed
over_landed : (asked : Asked) (s : State) → IsSound s → IsOver s → HavePiecesLanded asked s
over_landed asked s sound over k less = sound.told.each (asked.first + k) ∙ none_waits s.core.requests (asked.first + k) over.landed

ends_so : (answer : Turned) → (answer ≡ turned.Dark) ⊎ (answer ≡ turned.Off) → is_last answer ≡ true
ends_so answer (inl dark) = ap is_last dark
ends_so answer (inr off) = ap is_last off

module _ (asked : Asked) (first old new : State) (patience left : ℕ) (so_far : Goes asked first old patience left) (unfinished : IsUnfinished asked old) where
  pub path : (answer : Turned) → TurnMakes old new answer → Path (TurnsFor asked) IsAny first new
  path answer made = Then so_far.turns (unfinished, (answer, made)) tt

  waited_on : (answer : Turned) → TurnMakes old new answer → RoseBy (patience - left) first.device.counts.waits new.device.counts.waits
  waited_on answer made = rose_by_after so_far.waited (turn_counts old new answer made).waits

  pub goes : IsSound old → (answer : Turned) → TurnMakes old new answer → TurnTells old new answer → RunsOn old new → Goes asked first new patience left
  goes sound answer made tells runs = record { turns = path answer made; on = with_turn first old new answer so_far.on sound made tells runs; fewer = so_far.fewer; waited = waited_on answer made }

  pub landed_at_end : IsSound old → (answer : Turned) → TurnMakes old new answer → TurnTells old new answer → (answer ≡ turned.Dark) ⊎ (answer ≡ turned.Off) → HavePiecesLanded asked new
  landed_at_end sound answer made tells ended = let last = ends_so answer ended in over_landed asked new (turn_ends old new answer sound made last).0 (tells.over last)

  -- while a piece hasn't landed some transfer is out
  pub finds : IsSound old → is_moving old.core ≡ false → TurnTells old new turned.Idle → Finds old new
  finds sound unmoved tells = by (tells.idle.0 refl).still
    where
      waiting : list_any is_waiting old.core.requests ≡ true
      waiting = some_waits old.core.requests (asked.first + unfinished.piece) (sym (sound.told.each (asked.first + unfinished.piece)) ∙ unfinished.waits)

      by : Finds old new ⊎ FindsNothing old new → Finds old new
      by (inl finds) = finds
      by (inr nothing) =
          let still = tells.idle.0 refl in
          not_so (sym (none_waits_still old sound unmoved still.on nothing.votes still.none nothing.idle) ∙ waiting)

  pub idles : IsSound old → is_moving old.core ≡ false → TurnMakes old new turned.Idle → TurnTells old new turned.Idle → 1 ≤ left → RunsOn old new → Goes asked first new patience (left - 1)
  idles sound unmoved made tells some runs =
      let few = so_far.fewer in
      let more : patience - left + 1 ≡ patience - (left - 1) = omega (arith, few, some) in
      record {
        turns = path turned.Idle made;
        on = with_turn first old new turned.Idle so_far.on sound made tells runs;
        fewer = omega (arith, few);
        waited = subst (λ n. RoseBy n first.device.counts.waits new.device.counts.waits) more (rose_by_more so_far.waited (finds sound unmoved tells).waits.waits);
      }

-- ---- what it costs

-- And each of these turns that has waited has cost one of the patience.
pub record Costs (asked : Asked) (first now : State) (patience left : ℕ) : Type 0 where
  pub on : Goes asked first now patience left
  pub turns : TurnsWhile (IsUnfinished asked) patience first left now

pub costs_nothing : (asked : Asked) (first : State) (patience : ℕ) → (first.core.power ≡ power.Stuck → ⊥) → Costs asked first first patience patience
costs_nothing asked first patience unstuck = record { on = begins asked first patience unstuck; turns = NoTurn }

module _ (asked : Asked) (first old new : State) (patience left : ℕ) (so_far : Costs asked first old patience left) (unfinished : IsUnfinished asked old) (sound : IsSound old) (some : 1 ≤ left) where
  pub one_move : TurnMakes old new turned.Moved → TurnTells old new turned.Moved → RunsOn old new → Costs asked first new patience left
  one_move made tells runs = record { on = goes asked first old new patience left so_far.on unfinished sound turned.Moved made tells runs; turns = ThenMoves so_far.turns unfinished some made }

  pub one_wait : is_moving old.core ≡ false → TurnMakes old new turned.Idle → TurnTells old new turned.Idle → RunsOn old new → Costs asked first new patience (left - 1)
  one_wait unmoved made tells runs =
      let one : left ≡ left - 1 + 1 = omega (arith, some) in
      record {
        on = idles asked first old new patience left so_far.on unfinished sound unmoved made tells some runs;
        turns = ThenWaits so_far.turns unfinished one made (finds asked first old new patience left so_far.on unfinished sound unmoved tells);
      }

  last_turn : (answer : Turned) → TurnMakes old new answer → LastTurn (IsUnfinished asked) patience left first new answer
  last_turn answer made = record { old = old; turns = so_far.turns; may = unfinished; some = some; makes = made }

  pub costs_at_end : (answer : Turned) → TurnMakes old new answer → (answer ≡ turned.Dark) ⊎ (answer ≡ turned.Off) → AwaitCosts asked patience left first new (Ok tt)
  costs_at_end answer made (inl dark) = inr (inl (last_turn turned.Dark (subst (TurnMakes old new) dark made)))
  costs_at_end answer made (inr off) = inr (inr (last_turn turned.Off (subst (TurnMakes old new) off made)))

-- ---- how long it takes

same_core : {old new : State} → Finds old new ⊎ FindsNothing old new → new.core ≡ old.core
same_core (inl finds) = finds.is
same_core (inr nothing) = ap (λ (s : State). s.core) nothing.is

pub less_by_move : (old new : State) (left : ℕ) → TurnTells old new turned.Moved → left_of new.core + left < left_of old.core + left
less_by_move old new left tells = let less = tells.moved refl in omega (arith, less)

pub less_by_wait : (old new : State) (left : ℕ) → TurnTells old new turned.Idle → 1 ≤ left → left_of new.core + (left - 1) < left_of old.core + left
less_by_wait old new left tells some = let same = ap left_of (same_core (tells.idle.0 refl).still) in omega (arith, same, some)
