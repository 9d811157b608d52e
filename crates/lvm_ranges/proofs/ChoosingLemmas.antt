-- When a turn chooses the targets of requests, whose numbers and asks stay.
use Rattle.std.proofs.Common.{◌≡◌, ◌≤◌, ◌++◌, ℕ, zero, suc, inl, inr, Bool, true, false, List, [], ◌∷◌, map, Some, slice_get, slice_set, sym, ap, subst, if◌then◌else◌, arith}
use Rattle.std.specs.List.{AllByRecursion}
use Rattle.lvm_num.specs.declared.place.Pp.{Pp}
use Rattle.lvm_num.proofs.Lists.{all_weaker, all_at}
use Rattle.lvm_vol.specs.declared.entry.Outcome.{Outcome}
use Rattle.lvm_vol.specs.declared.entry.Outcome.TheVariants as outcome
use Rattle.lvm_sched.specs.declared.writes.TargetState.{TargetState}
use Rattle.lvm_sched.specs.declared.writes.TargetState.TheVariants as stage
use Rattle.lvm_path.specs.declared.ask.Ask.{Ask}
use Rattle.lvm_path.specs.declared.target.Target.{Target}
use Rattle.lvm_path.specs.Asks.{is_write}
use Rattle.lvm_path.specs.Targets.{end_state, with_state}
use Rattle.lvm_session.specs.declared.event.Event.{Event}
use Rattle.lvm_session.specs.declared.event.Event.TheVariants as event
use Rattle.lvm_session.specs.declared.flown.Owner.{Owner}
use Rattle.lvm_session.specs.declared.flown.Owner.TheVariants as owner
use Rattle.lvm_session.specs.declared.open.Open.{Open}
use Rattle.lvm_session.specs.declared.answers.Turned.{Turned}
use Rattle.lvm_session.specs.declared.answers.Turned.TheVariants as turned
use Rattle.lvm_session.specs.Dark.{ended_as}
use Rattle.lvm_session.specs.Ends.{Ends, Learns}
use Rattle.lvm_session.specs.Events.{Chooses, ChoosesBy, copy_of, landed_as, destination_target, target_at}
use Rattle.lvm_session.specs.Judging.{aims, copies_for, is_running, is_waiting, destination_aims}
use Rattle.lvm_session.specs.State.{Core, State}
use Rattle.lvm_session.specs.Turns.{FinishMakes, Finishes, Makes, Moves, NoStart, OnMakes, TurnMakes, WasDark, WasOff, WasOn}
use Rattle.lvm_keeps.proofs.Lists.{all_mapped, all_set}
use Rattle.lvm_driver.proofs.passed.KeepsEvents.{copy_stays, marked_stays, note_stays, status_stays}
use Rattle.lvm_ranges.specs.Choosing.{AreSince, TurnChoosesSince}

-- this holds of its number and its ask, and where it has this number or a later one its targets were chosen since
abbrev pub IsSo : (ℕ → Ask → Type 0) → (ℕ → ℕ) → ℕ → Open → Type 0
IsSo Holds faults from o = Holds o.request.id o.request.ask × (from ≤ o.request.id → AreSince faults o)

-- so of each request
abbrev pub AreAllSo : (ℕ → Ask → Type 0) → (ℕ → ℕ) → ℕ → Core → Type 0
AreAllSo Holds faults from core = AllByRecursion (IsSo Holds faults from) core.requests

module _ (old new : State) (Holds : ℕ → Ask → Type 0) (faults : ℕ → ℕ) (from : ℕ) (low : (disk : ℕ) → faults disk ≤ old.device.counts.faults disk) (all : AreAllSo Holds faults from old.core) where
  abbrev IsNow : Open → Type 0
  IsNow = IsSo Holds faults from

  -- ---- the targets of a request

  abbrev IsKept : Target → Type 0
  IsKept t = faults t.pp.disk ≤ t.faults

  -- one that comes to be in another state was chosen as it was
  state_since : (ts : List Target) (place : ℕ) (state : TargetState) → AllByRecursion IsKept ts → AllByRecursion IsKept (with_state ts place state)
  state_since [] place state kept = tt
  state_since (t ∷ ts) zero state kept = (kept.0, kept.1)
  state_since (t ∷ ts) (suc place) state kept = (kept.0, state_since ts place state kept.1)

  -- one that is chosen now has the faults of its disk
  copies_since : (ask : Ask) (ps : List Pp) → AllByRecursion IsKept (map (target_at old ask) ps)
  copies_since ask [] = tt
  copies_since ask (p ∷ ps) = (low p.disk, copies_since ask ps)

  places_since : (ask : Ask) (ps : List Pp) → AllByRecursion IsKept (map (destination_target old ask) ps)
  places_since ask [] = tt
  places_since ask (p ∷ ps) = (low p.disk, places_since ask ps)

  all_since : (ask : Ask) (ps qs : List Pp) → AllByRecursion IsKept (map (target_at old ask) ps ++ map (destination_target old ask) qs)
  all_since ask [] qs = places_since ask qs
  all_since ask (p ∷ ps) qs = (low p.disk, all_since ask ps qs)

  order_since : (ask : Ask) (order : List ℕ) → AllByRecursion IsKept (map (λ n. target_at old ask (copy_of (copies_for old.core ask) n)) order)
  order_since ask [] = tt
  order_since ask (n ∷ order) = (low (copy_of (copies_for old.core ask) n).disk, order_since ask order)

  chosen_since : (ask : Ask) (targets : List Target) (order : List ℕ) → Chooses old ask targets order → AllByRecursion IsKept targets
  chosen_since ask targets order chosen = by (is_write ask) chosen
    where
      by : (b : Bool) → ChoosesBy b old ask targets order → AllByRecursion IsKept targets
      by true its = subst (λ (ts : List Target). AllByRecursion IsKept ts) (sym its.0) (all_since ask (aims old.core ask) (destination_aims old.core ask))
      by false reads = subst (λ (ts : List Target). AllByRecursion IsKept ts) (sym reads.targets_are) (order_since ask order)

  -- ---- the requests stay, or one changes, or all land

  stay : new.core.requests ≡ old.core.requests → AreAllSo Holds faults from new.core
  stay same = subst (λ (os : List Open). AllByRecursion IsNow os) (sym same) all

  set_one : (k : ℕ) (x : Open) → new.core.requests ≡ slice_set old.core.requests k x → IsNow x → AreAllSo Holds faults from new.core
  set_one k x set its = subst (λ (os : List Open). AllByRecursion IsNow os) (sym set) (all_set IsNow IsNow (λ o is. is) old.core.requests k x its all)

  was : (k : ℕ) (o : Open) → slice_get old.core.requests k ≡ Some o → IsNow o
  was k o there = all_at IsNow old.core.requests k o all there

  all_end : (how : Outcome) → new.core.requests ≡ map (ended_as how) old.core.requests → AreAllSo Holds faults from new.core
  all_end how same = subst (λ (os : List Open). AllByRecursion IsNow os) (sym same) (all_mapped IsNow IsNow (ended_as how) on old.core.requests all)
    where
      on : (o : Open) → IsNow o → IsNow (ended_as how o)
      on o is = by (is_waiting o)
        where
          by : (b : Bool) → IsNow (if b then landed_as how o else o)
          by true = is
          by false = is

  -- ---- the events

  event_since : (it : Event) → Makes it old new → AreAllSo Holds faults from new.core
  event_since (event.Land place how) made = set_one place _ (ap (λ (s : State). s.core.requests) made.is) (was place made.request made.there)
  event_since (event.Admit place) made = set_one place _ (ap (λ (s : State). s.core.requests) made.is) ((was place made.request made.there).0, λ above. chosen_since made.request.request.ask made.targets made.order made.chosen)
  event_since (event.Pin place) made = set_one place _ (ap (λ (s : State). s.core.requests) made.is) (was place made.request made.there)
  event_since event.StartStatus made = stay (ap (λ (s : State). s.core.requests) made.is)
  event_since (event.StartNote place disk) made = stay (ap (λ (s : State). s.core.requests) made.is)
  event_since (event.StartData place target) made =
      let before = was place made.its.request made.its.there in
      set_one place _ (ap (λ (s : State). s.core.requests) made.is) (before.0, λ above. state_since made.its.request.request.targets.items target stage.Flying (before.1 above))
  event_since event.ReadCopy made = stay (ap (λ (s : State). s.core.requests) made.is)
  event_since event.WriteCopy made = stay (ap (λ (s : State). s.core.requests) made.is)

  end_since : (at : ℕ) → Ends old new at → AreAllSo Holds faults from new.core
  end_since at it = by it.row.owner it.learns
    where
      by : (who : Owner) → Learns who old.core at it.ok it.buf new.core → AreAllSo Holds faults from new.core
      by (owner.Data id target) learns =
          let before = was learns.place learns.its.request learns.its.there in
          set_one learns.place _ (marked_stays _ new.core _ learns.entails.is).requests (before.0, λ above. state_since learns.its.request.request.targets.items target (end_state it.ok) (before.1 above))
      by (owner.Status disk) learns = stay (status_stays old.core new.core at disk it.ok it.buf learns).requests
      by (owner.Note disk) learns = stay (note_stays old.core new.core at disk it.ok it.buf learns).requests
      by owner.Copy learns = stay (copy_stays (is_running learns.copy) it.ok old.core new.core at learns.copy it.buf learns.learns).requests

  -- ---- a turn

  finish_since : (answer : Turned) → FinishMakes old new answer → AreAllSo Holds faults from new.core
  finish_since turned.Moved made = end_since made.0 made.1
  finish_since turned.Idle (inl finds) = stay (ap (λ (c : Core). c.requests) finds.is)
  finish_since turned.Idle (inr nothing) = stay (ap (λ (s : State). s.core.requests) nothing.is)
  finish_since turned.Dark made = all_end outcome.Dark (ap (λ (c : Core). c.requests) made.1.is)
  finish_since turned.Off made = all_end outcome.Off (ap (λ (s : State). s.core.requests) made.is)

  on_since : (answer : Turned) → OnMakes old new answer → AreAllSo Holds faults from new.core
  on_since answer (Moves it first made is) = event_since it made
  on_since answer (NoStart it first start dark is) = all_end outcome.Dark (ap (λ (c : Core). c.requests) dark.is)
  on_since answer (Finishes none made) = finish_since answer made

  turn_since : (answer : Turned) → TurnMakes old new answer → AreAllSo Holds faults from new.core
  turn_since answer (WasDark dark is same) = stay (ap (λ (s : State). s.core.requests) same)
  turn_since answer (WasOff off is same) = stay (ap (λ (s : State). s.core.requests) same)
  turn_since answer (WasOn on made) = on_since answer made

-- ---- each of the two

abbrev IsAny : ℕ → Ask → Type 0
IsAny id ask = Unit {0}

abbrev none : ℕ → ℕ
none disk = 0

none_before : (ts : List Target) → AllByRecursion (λ (t : Target). none t.pp.disk ≤ t.faults) ts
none_before [] = tt
none_before (t ∷ ts) = (omega arith, none_before ts)

pub turn_chooses : TurnChoosesSince
turn_chooses old new answer made faults from low all =
    all_weaker (IsSo IsAny faults from) (λ (o : Open). from ≤ o.request.id → AreSince faults o) (λ o is. is.1) new.core.requests
    (turn_since old new IsAny faults from low (all_weaker (λ (o : Open). from ≤ o.request.id → AreSince faults o) (IsSo IsAny faults from) (λ o is. (tt, is)) old.core.requests all) answer made)

-- what holds of the number and the ask of each request goes on to hold
pub turn_keeps_asks : (old new : State) (answer : Turned) → TurnMakes old new answer → (Holds : ℕ → Ask → Type 0) → AllByRecursion (λ (o : Open). Holds o.request.id o.request.ask) old.core.requests
    → AllByRecursion (λ (o : Open). Holds o.request.id o.request.ask) new.core.requests
turn_keeps_asks old new answer made Holds all =
    all_weaker (IsSo Holds none 0) (λ (o : Open). Holds o.request.id o.request.ask) (λ o is. is.0) new.core.requests
    (turn_since old new Holds none 0 (λ disk. omega arith)
    (all_weaker (λ (o : Open). Holds o.request.id o.request.ask) (IsSo Holds none 0) (λ o is. (is, λ above. none_before o.request.targets.items)) old.core.requests all) answer made)
