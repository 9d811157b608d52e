-- The first event of a turn by its parts.
use Rattle.std.proofs.Common.{◌≡◌, ◌<◌, ℕ, true, false, if◌then◌else◌, Option, Some, None, length, length-set, refl, ◌∙◌, ap, subst, arith}
use Rattle.std.proofs.lemmas.Option.{slice_get_within}
use Rattle.lvm_disk.specs.Device.{Device}
use Rattle.lvm_session.specs.declared.event.Event.{Event}
use Rattle.lvm_session.specs.declared.event.Event.TheVariants as event
use Rattle.lvm_session.specs.State.{Core, State, state}
use Rattle.lvm_session.specs.Enabled.{first_event, first_of, is_lost, landing, or_next, parts_to_settle, parts_to_start}
use Rattle.lvm_session.specs.declared.answers.Turned.{Turned}
use Rattle.lvm_session.specs.declared.answers.Turned.TheVariants as turned
use Rattle.lvm_session.specs.Events.{StartsData, begun_as}
use Rattle.lvm_session.specs.Turns.{Makes, Moves, NoStart, OnMakes, is_start}
use Rattle.lvm_moves.specs.Launching.{StartGives}
use Rattle.lvm_moves.specs.Moving.{FirstGives}
use Rattle.lvm_moves.specs.Starts.{CanStart, StartsFirst}
use Rattle.lvm_session_turn.specs.Taking.{FirstMakes}

-- ---- the parts

of_lost : (core : Core) → is_lost core ≡ true → first_event core ≡ landing core
of_lost core lost = ap (λ b. if b then landing core else or_next (first_of parts_to_settle core) (first_of parts_to_start core)) lost

of_both : (core : Core) → is_lost core ≡ false → first_event core ≡ or_next (first_of parts_to_settle core) (first_of parts_to_start core)
of_both core votes = ap (λ b. if b then landing core else or_next (first_of parts_to_settle core) (first_of parts_to_start core)) votes

settled_first : (core : Core) (it : Event) → is_lost core ≡ false → first_of parts_to_settle core ≡ Some it → first_event core ≡ Some it
settled_first core it votes is = of_both core votes ∙ ap (λ (o : Option Event). or_next o (first_of parts_to_start core)) is

started_next : (core : Core) → is_lost core ≡ false → first_of parts_to_settle core ≡ None → first_event core ≡ first_of parts_to_start core
started_next core votes is = of_both core votes ∙ ap (λ (o : Option Event). or_next o (first_of parts_to_start core)) is

-- what can be started is a start
pub starts : (it : Event) (device : Device) (core : Core) → CanStart it device core → is_start it ≡ true
starts (event.Land place how) device core can = absurd can
starts (event.Admit place) device core can = absurd can
starts (event.Pin place) device core can = absurd can
starts event.StartStatus device core can = refl
starts (event.StartNote place disk) device core can = refl
starts (event.StartData place target) device core can = refl
starts event.ReadCopy device core can = refl
starts event.WriteCopy device core can = refl

-- ---- the request of which a transfer is started

pub started_there : (it : Event) (old new : State) → Makes it old new → (place target : ℕ) → it ≡ event.StartData place target → place < length new.core.requests
started_there it old new made place target is =
    let starts : StartsData old new place target = subst (λ (e : Event). Makes e old new) is made in
    let os = old.core.requests in
    let within : place < length os = slice_get_within os place starts.its.request starts.its.there in
    let long : length new.core.requests ≡ length os = ap (λ (s : State). length s.core.requests) starts.is ∙ length-set os place (begun_as target starts.its.request) in
    omega (arith, within, long)

-- ---- what is made of them

-- a landing, once the votes are lost
pub lands_only : (core new : Core) (device : Device) → is_lost core ≡ true → FirstGives landing device core new true → FirstMakes (state device core) (state device new) (Some turned.Moved)
lands_only core new device lost it = Moves it.0 (of_lost core lost ∙ it.1) it.2 refl

pub lands_none : (core new : Core) (device : Device) → is_lost core ≡ true → FirstGives landing device core new false → FirstMakes (state device core) (state device new) None
lands_none core new device lost it = (of_lost core lost ∙ it.0, ap (state device) it.1)

-- what starts no transfer, while they are there
pub settles : (core new : Core) (device : Device) → is_lost core ≡ false → FirstGives (first_of parts_to_settle) device core new true → FirstMakes (state device core) (state device new) (Some turned.Moved)
settles core new device votes it = Moves it.0 (settled_first core it.0 votes it.1) it.2 refl

-- or a start
module _ (s new : State) (votes : is_lost s.core ≡ false) (none : first_of parts_to_settle s.core ≡ None) (can : (it : Event) → first_of parts_to_start s.core ≡ Some it → CanStart it s.device s.core) where
  gives : (it : Event) (answer : Turned) → first_of parts_to_start s.core ≡ Some it → StartGives it s new answer → OnMakes s new answer
  gives it turned.Moved first made = Moves it (started_next s.core votes none ∙ first) made refl
  gives it turned.Dark first dark = NoStart it (started_next s.core votes none ∙ first) (starts it s.device s.core (can it first)) dark refl
  gives it turned.Idle first made = absurd made
  gives it turned.Off first made = absurd made

  pub starts_first : (answer : Option Turned) → StartsFirst s new answer → FirstMakes s new answer
  starts_first None it = (started_next s.core votes none ∙ it.0, it.1)
  starts_first (Some answer) it = gives it.0 answer it.1 it.2
