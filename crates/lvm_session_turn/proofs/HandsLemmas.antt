-- A sound session can end, whether it goes on or is over.
use Rattle.std.proofs.Common.{◌≡◌, Bool, false, List, [], ◌∷◌, Option, Some, None, refl, sym, ap, subst}
use Rattle.std.specs.Prelude.{IfSome}
use Rattle.std.specs.List.{AllByRecursion}
use Rattle.lvm_session.specs.declared.bringing.OpenCopy.{OpenCopy}
use Rattle.lvm_session.specs.declared.bringing.Step.TheVariants as step
use Rattle.lvm_session.specs.declared.open.Open.{Open}
use Rattle.lvm_session.specs.declared.open.Power.{Power}
use Rattle.lvm_session.specs.declared.open.Power.TheVariants as power
use Rattle.lvm_session.specs.State.{State}
use Rattle.lvm_session.specs.Judging.{is_running}
use Rattle.lvm_session.specs.Bringing.{hand_of, with_back}
use Rattle.lvm_session.specs.Dark.{hand_of_copy}
use Rattle.lvm_moves.proofs.OutLemmas.{may_end}
use Rattle.lvm_moves.specs.passed.Session.{AreInHand, IsOutIf, MayEnd}
use Rattle.lvm_session.specs.Causes.{is_over}
use Rattle.lvm_session.specs.Requests.{IsLanded}
use Rattle.lvm_session.specs.Sound.{IsOver, IsSound, IsUnbegun}

-- what has landed has nothing in hand
none_in_hand : (pool : List Bool) (os : List Open) → AllByRecursion IsLanded os → AreInHand pool os
none_in_hand pool [] all = tt
none_in_hand pool (o ∷ os) all =
    let none = all.0.hand in
    (record { out = subst (IsOutIf pool) (sym none) tt; none = λ over. none }, none_in_hand (with_back pool o.got) os all.1)

-- nor has what hasn't begun
unbegun_in_hand : (pool : List Bool) (os : List Open) → AllByRecursion IsUnbegun os → AreInHand pool os
unbegun_in_hand pool [] all = tt
unbegun_in_hand pool (o ∷ os) all =
    let none = all.0.hand in
    (record { out = subst (IsOutIf pool) (sym none) tt; none = λ over. none }, unbegun_in_hand (with_back pool o.got) os all.1)

no_idle_hand : (copy : Option OpenCopy) → IfSome copy (λ (c : OpenCopy). c.step ≡ step.Idle) → hand_of_copy copy ≡ None
no_idle_hand None idle = refl
no_idle_hand (Some c) idle = ap hand_of idle

no_hand : (copy : Option OpenCopy) → IfSome copy (λ (c : OpenCopy). (is_running c ≡ false) × (c.step ≡ step.Idle)) → hand_of_copy copy ≡ None
no_hand None its = refl
no_hand (Some c) its = ap hand_of its.1

module _ (s : State) (sound : IsSound s) where
  over : IsOver s → MayEnd s.core
  over ended = record {
    told = sound.told.table;
    copy = subst (IsOutIf s.core.pool) (sym (no_hand s.core.copy ended.copy)) tt;
    requests = none_in_hand (with_back s.core.pool (hand_of_copy s.core.copy)) s.core.requests ended.landed;
  }

  pub can_end : MayEnd s.core
  can_end = by_power s.core.power refl
    where
      by_power : (p : Power) → s.core.power ≡ p → MayEnd s.core
      by_power power.On on = may_end s.core (sound.on on).going
      by_power power.Off off = over (sound.over (ap is_over off))
      by_power power.Dark dark = over (sound.over (ap is_over dark))
      by_power power.Stuck stuck =
          let still = sound.stuck stuck in
          record {
            told = sound.told.table;
            copy = subst (IsOutIf s.core.pool) (sym (no_idle_hand s.core.copy still.copy)) tt;
            requests = unbegun_in_hand (with_back s.core.pool (hand_of_copy s.core.copy)) s.core.requests still.requests;
          }
