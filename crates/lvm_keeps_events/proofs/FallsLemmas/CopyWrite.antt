-- The start of a copy's write leaves less work.
use Rattle.std.proofs.Common.{◌≡◌, ◌<◌, ◌+◌, ◌&&◌, Bool, true, List, [], ◌∷◌, ◌++◌, Some, sym, ap, subst, arith}
use Rattle.std.specs.Prelude.{IfSome, is_some}
use Rattle.lvm_session.specs.declared.bringing.Step.{Step}
use Rattle.lvm_session.specs.declared.bringing.Step.TheVariants as step
use Rattle.lvm_session.specs.declared.flown.Flown.{Flown}
use Rattle.lvm_session.specs.declared.flown.Owner.TheVariants as owner
use Rattle.lvm_session.specs.State.{Core, State}
use Rattle.lvm_session.specs.Judging.{is_running}
use Rattle.lvm_session.specs.Bringing.{hand_of, is_idle, is_whole}
use Rattle.lvm_session.specs.Events.{flown}
use Rattle.lvm_session.specs.Left.{left_of, step_left, tried_of, work_left}
use Rattle.lvm_session.specs.Sound.{IsCopy}
use Rattle.lvm_keeps.proofs.FallsLemmas.CopyRead.{falls}
use Rattle.lvm_keeps.proofs.Small.{both}
use Rattle.lvm_keeps.proofs.LeftLemmas.Leaving.{lit}
use Rattle.lvm_keeps_events.specs.Falls.{CopyWriteFalls}

pub copy_write_falls : CopyWriteFalls
copy_write_falls old new sound on votes event = subst (λ (s : State). left_of s.core < left_of old.core) (sym event.is) (subst (λ n. left_of made < n) (sym (lit old.core on votes)) (subst (λ n. n < work_left old.core) (sym (lit made on votes)) work_falls))
  where
    its : IsCopy old.core event.copy
    its = subst (λ m. IfSome m (IsCopy old.core)) event.is_open (sound.on on).going.copy

    row : Flown
    row = flown event.flight.ticket event.flight.disk owner.Copy

    made : Core
    made = record old.core { flying = old.core.flying ++ row ∷ []; copy = Some (record event.copy { step = step.Writing }) }

    runs : is_running event.copy ≡ true
    runs = (both (is_running event.copy) (is_some (hand_of event.copy.step)) event.may).0

    fewer : 0 + 1 < step_left event.copy.step (tried_of old.core event.copy)
    fewer = let hand : step_left event.copy.step (tried_of old.core event.copy) ≡ 2 = ap (λ (at : Step). step_left at (tried_of old.core event.copy)) event.in_hand in omega (arith, hand)

    work_falls : work_left made < work_left old.core
    work_falls = subst (λ m. work_left made < work_left (record old.core { copy = m })) (sym event.is_open) (falls old.core event.copy step.Writing row old.core.pool runs (its.under_way runs (ap is_idle event.in_hand)) fewer)
