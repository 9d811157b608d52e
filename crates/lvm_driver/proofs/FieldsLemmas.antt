-- What the calls leave of a driver's parts.
use Rattle.std.proofs.Common.{◌≡◌, ◌⊎◌, inl, inr, ℕ, Bool, List, length, Option, None, Some, refl, sym, ap, ◌∙◌}
use Rattle.std.specs.Prelude.{Err, MatchOption, Ok, Result}
use Rattle.lvm_num.specs.declared.descriptor.Descriptor.{Descriptor}
use Rattle.lvm_num.specs.declared.place.Pp.{Pp}
use Rattle.lvm_moved.specs.Moved.{moved_descriptor}
use Rattle.lvm_disk.specs.declared.shelf.Arrange.{Arrange}
use Rattle.lvm_disk.specs.Device.{Device, HasSectors}
use Rattle.lvm_path.specs.declared.ask.Ask.{Ask}
use Rattle.lvm_session.specs.declared.open.Power.TheVariants as power
use Rattle.lvm_session.specs.declared.session.Session.{Session}
use Rattle.lvm_session.specs.Fields.{core_of}
use Rattle.lvm_session.specs.Rooms.{HasRooms, SameRooms}
use Rattle.lvm_session.specs.State.{Core, State, state}
use Rattle.lvm_session.specs.declared.answers.AskFault.{AskFault}
use Rattle.lvm_session.specs.declared.answers.CopyFault.{CopyFault}
use Rattle.lvm_session.specs.declared.answers.OpenFault.{OpenFault}
use Rattle.lvm_session.specs.declared.answers.OpenFault.TheVariants as denial
use Rattle.lvm_session.specs.declared.answers.Taken.{Taken}
use Rattle.lvm_session.specs.declared.answers.Turned.{Turned}
use Rattle.lvm_session.specs.Calls.{Closes, OpenGives, OpenMoveGives, OpensMove, SubmitGives, TakeGives, move_fault}
use Rattle.lvm_session.specs.Turns.{ArrangesSession, TurnMakes}
use Rattle.lvm_session.specs.Asking.{IsAsking}
use Rattle.lvm_session.specs.Sound.{IsSound}
use Rattle.lvm_keeps.proofs.KeepsLemmas.Close.{close_keeps}
use Rattle.lvm_keeps.proofs.KeepsLemmas.Orders.{order_keeps}
use Rattle.lvm_keeps.proofs.KeepsLemmas.Take.{take_keeps}
use Rattle.lvm_keeps_events.proofs.SubmitKeepsLemmas.{submit_keeps}
use Rattle.lvm_keeps_events.proofs.TurningLemmas.{turn_keeps}
use Rattle.lvm_keeps_events.proofs.OpeningLemmas.Opening.{seen_open_keeps}
use Rattle.lvm_keeps_events.specs.Opening.{IsApart}
use Rattle.lvm_keeps_events.specs.passed.Calls.{counts_seen}
use Rattle.lvm_going.specs.Moves.{next_of}
use Rattle.lvm_going.specs.Statuses.{AreValid}
use Rattle.lvm_going.specs.Going.{AnyStep, BeginsMove, ClosesCopy, RunsOn, LeavesMoving, LeavesSession, MakesTurn, MovingStep, OpensCopy, Orders, RunStep, Submits, Takes}
use Rattle.lvm_going.proofs.FramesLemmas.{moved_next, open_next, order_next, submit_next, take_next, turn_next}
use Rattle.lvm_going.proofs.GoingLemmas.{is_awake, moving_keeps, run_frame, step_shape}
use Rattle.lvm_going.proofs.JoinsLemmas.{leaves_one, moving_one, runs_one}
use Rattle.lvm_driver.proofs.RoomsLemmas.{rooms_stay}

-- what holds of the parts whenever nobody changes them
abbrev pub AreSound : Device → Session → Option Descriptor → Type 0
AreSound device session next = HasRooms session × IsSound (state device (core_of session)) × (next ≡ next_of (core_of session))

-- they hold on, and what runs on or is left of them
pub record Stay (Left : State → State → Type 0) (device now : Device) (old new : Session) (next : Option Descriptor) : Type 0 where
  pub sound : AreSound now new next
  pub left : Left (state device (core_of old)) (state now (core_of new))

module _ {next : Option Descriptor} (device now : Device) (old new : Session) (it : AreSound device old next) (same : SameRooms old new) where
  abbrev was : State
  was = state device (core_of old)

  abbrev is : State
  is = state now (core_of new)

  run : {after : Option Descriptor} → IsSound is → RunStep was is → after ≡ next_of (core_of new) → Stay RunsOn device now old new after
  run sound step ready = record { sound = (rooms_stay old new (run_frame was is step).keeps.room same it.0, sound, ready); left = runs_one step }

  leave : IsSound is → AnyStep was is → next_of (core_of new) ≡ next_of (core_of old) → Stay LeavesSession device now old new next
  leave sound step still = record { sound = (rooms_stay old new (step_shape was is step).room same it.0, sound, it.2 ∙ sym still); left = leaves_one step }

  pub turn_on : (answer : Turned) → HasSectors now → AreValid old.updater → TurnMakes was is answer → Stay RunsOn device now old new next
  turn_on answer sectors valid made = let sound = turn_keeps was is answer it.1 made in run sound (MakesTurn answer valid sectors made) (it.2 ∙ sym (turn_next was is answer made))

  pub order_on : (what : Arrange) (done : Bool) → (was.core.power ≡ power.Stuck → ⊥) → ArrangesSession was is what done → Stay LeavesSession device now old new next
  order_on what done unstuck order = let sound = order_keeps was is what done it.1 order in leave sound (Orders what done unstuck order) (order_next was is what done order)

module _ {next : Option Descriptor} (device : Device) (old new : Session) (it : AreSound device old next) (same : SameRooms old new) where
  pub submit_on : (client : ℕ) (ask : Ask) (bytes : Option (List ℕ)) (answer : Result ℕ AskFault)
      → (old.power ≡ power.Stuck → ⊥) → IsAsking ask bytes → SubmitGives (core_of old) (core_of new) client ask bytes answer → Stay RunsOn device device old new next
  submit_on client ask bytes answer unstuck asks gives =
      let s = state device (core_of old) in
      let sound = submit_keeps s (core_of new) client ask bytes answer it.1 (is_awake s it.1 unstuck) asks gives in
      run device device old new it same sound (Submits client ask bytes answer unstuck asks gives refl) (it.2 ∙ sym (submit_next (core_of old) (core_of new) client ask bytes answer gives))

  pub take_on : (client id : ℕ) (answer : Taken) → TakeGives (core_of old) (core_of new) client id answer → Stay RunsOn device device old new next
  take_on client id answer gives =
      let s = state device (core_of old) in
      let sound = take_keeps s (core_of new) client id answer it.1 gives in
      run device device old new it same sound (Takes client id answer gives refl) (it.2 ∙ sym (take_next (core_of old) (core_of new) client id answer gives))

  pub open_on : (lv lp number : ℕ) (answer : Result (Unit {0}) CopyFault)
      → (old.power ≡ power.Stuck → ⊥) → OpenGives (counts_seen device (core_of old)) (core_of old) (core_of new) lv lp number answer → Stay LeavesSession device device old new next
  open_on lv lp number answer unstuck gives =
      let s = state device (core_of old) in
      let sound = seen_open_keeps s (core_of new) lv lp number answer it.1 (is_awake s it.1 unstuck) gives in
      leave device device old new it same sound (OpensCopy lv lp number answer unstuck gives refl) (open_next (counts_seen device (core_of old)) (core_of old) (core_of new) lv lp number answer gives)

  -- with the copy that was open the descriptor goes that was to be ready
  pub close_on : Closes (core_of old) (core_of new) → Stay RunsOn device device old new None
  close_on closes =
      let s = state device (core_of old) in
      let sound = close_keeps s (core_of new) it.1 closes in
      run device device old new it same sound (ClosesCopy closes refl) (sym (ap next_of closes.is))

  -- where a move begins the descriptor is ready in which its copy stands on its new partition
  pub move_on : (lv lp number : ℕ) (to : Pp) (answer : Result (Unit {0}) OpenFault) → (old.power ≡ power.Stuck → ⊥) → IsApart old.descriptor lv lp number to
      → OpenMoveGives (counts_seen device (core_of old)) (core_of old) (core_of new) lv lp number to answer → move_fault (core_of old) lv lp number to ≡ None → (answer ≡ Err denial.Memory → ⊥)
      → Stay LeavesMoving device device old new (Some (moved_descriptor old.descriptor lv lp number to))
  move_on lv lp number to answer unstuck apart gives fine enough = by (move_fault (core_of old) lv lp number to) fine gives
    where
      s : State
      s = state device (core_of old)

      step : MovingStep s (state device (core_of new))
      step = BeginsMove lv lp number to answer unstuck apart gives refl

      opened : OpensMove (counts_seen device (core_of old)) (core_of old) (core_of new) lv lp number to → Stay LeavesMoving device device old new (Some (moved_descriptor old.descriptor lv lp number to))
      opened opens = record {
        sound = (
          rooms_stay old new (record { most = ap (λ (c : Core). c.most) opens.is; long = ap (λ (c : Core). length c.pool) opens.is }) same it.0,
          moving_keeps s (state device (core_of new)) it.1 step,
          sym (moved_next (counts_seen device (core_of old)) (core_of old) (core_of new) lv lp number to opens),
        );
        left = moving_one step;
      }

      by : (f : Option OpenFault) → f ≡ None
          → MatchOption f (((answer ≡ Ok tt) × OpensMove (counts_seen device (core_of old)) (core_of old) (core_of new) lv lp number to) ⊎ ((answer ≡ Err denial.Memory) × (core_of new ≡ core_of old)))
          (λ (why : OpenFault). (answer ≡ Err why) × (core_of new ≡ core_of old)) → Stay LeavesMoving device device old new (Some (moved_descriptor old.descriptor lv lp number to))
      by None none (inl it) = opened it.1
      by None none (inr it) = absurd (enough it.0)
      by (Some why) none it = absurd (cc none)
