-- A request that isn't admitted has no target, so that no place of a copy matters to it.
use Rattle.std.proofs.Common.{◌≡◌, ◌&&◌, Bool, true, false, List, [], ◌∷◌, sym, ap, subst}
use Rattle.std.specs.List.{AllByRecursion}
use Rattle.lvm_num.specs.declared.descriptor.Mode.{Mode}
use Rattle.lvm_num.specs.declared.descriptor.Mode.TheVariants as mode
use Rattle.lvm_path.specs.declared.request.Phase.{Phase}
use Rattle.lvm_path.specs.declared.request.Phase.TheVariants as phase
use Rattle.lvm_path.specs.declared.request.Request.{Request}
use Rattle.lvm_path.specs.declared.target.Target.{Target}
use Rattle.lvm_path.specs.Targets.{is_begun}
use Rattle.lvm_session.specs.declared.open.Open.{Open}
use Rattle.lvm_session.specs.Enabled.{wants_record}
use Rattle.lvm_session.specs.Judging.{IsWithinVolume, group_in, is_caught}
use Rattle.lvm_session.specs.Requests.{IsJudged, IsMarkedDestination, IsOpenOne, IsPhase, IsRecorded, IsRequest, IsShaped, IsTarget, MayBeServed, has_record, is_past_held, may_lack, mode_for, wants_entry, wants_status}
use Rattle.lvm_session.specs.State.{Core}
use Rattle.lvm_move_keeps.specs.Waiting.{IsUnadmitted, WaitingStays}

never : {X : Type 0} (b : Bool) → b ≡ false → b ≡ true → X
never true is e = absurd (cc is)
never false is e = absurd (cc e)

recorded : (m : Mode) (r : Request) → r.phase ≡ phase.Held → r.pinned ≡ false → IsRecorded m r.phase r
recorded mode.Active r held unpinned = subst (λ (p : Phase). IsRecorded mode.Active p r) (sym held) tt
recorded mode.Passive r held unpinned = (unpinned, ap wants_entry held)
recorded mode.Off r held unpinned = (unpinned, ap wants_entry held, ap wants_record held)

module _ (old new : Core) where
  module _ (o : Open) (it : IsRequest old o) (held : o.request.phase ≡ phase.Held) where
    of_phase : IsPhase phase.Held o
    of_phase = subst (λ (p : Phase). IsPhase p o) held it.shape.phase_is

    pub no_targets : o.request.targets.items ≡ []
    no_targets = of_phase.0

    unbegun : is_begun o.request.targets.items ≡ false
    unbegun = ap is_begun no_targets

    unwanting : wants_status o.request.phase ≡ false
    unwanting = ap wants_status held

    none_has : (P : Target → Type 0) → AllByRecursion P o.request.targets.items
    none_has P = subst (AllByRecursion P) (sym no_targets) tt

    shape : IsShaped new o
    shape = let was = it.shape in record {
      targets = none_has (IsTarget new o.request.ask);
      phase_is = was.phase_is;
      hand = was.hand;
      room = was.room;
      differ = was.differ;
      usable = was.usable;
      one = was.one;
    }

    ready : MayBeServed new o.request
    ready = record {
      free = λ past. never (is_past_held o.request.phase) (ap is_past_held held) past;
      recorded = recorded (mode_for new o.request.ask) o.request held of_phase.1;
      wanted = λ past. never (is_past_held o.request.phase) (ap is_past_held held) past;
      named = λ has. never (has_record o.request.phase) (ap has_record held) has;
      dirty = λ has. never (has_record o.request.phase) (ap has_record held) has;
    }

    judged : IsJudged new o
    judged = record {
      uncaught = none_has (λ (t : Target). may_lack o t && is_caught new (group_in new o.request.ask) t.pp ≡ false);
      due = λ wants. never (wants_status o.request.phase) unwanting wants;
      missed = λ wants. none_has (IsMarkedDestination new o.request);
      all = λ begun. never (is_begun o.request.targets.items) unbegun begun;
      place = λ begun. never (is_begun o.request.targets.items) unbegun begun;
    }

    stays : IsRequest new o
    stays = record { shape = shape; ready = ready; judged = λ write. judged }

  one : (o : Open) → IsOpenOne old o → IsUnadmitted o → IsWithinVolume new.descriptor o.request.ask → IsOpenOne new o
  one o it held within = record {
    laid = record { within = within; blocks = it.laid.blocks; most = it.laid.most; id = it.laid.id };
    waits = λ waiting. stays o (it.waits waiting) (held waiting);
    over = it.over;
    still = it.still;
  }

  each : (os : List Open) → AllByRecursion (IsOpenOne old) os → AllByRecursion IsUnadmitted os → AllByRecursion (λ (o : Open). IsWithinVolume new.descriptor o.request.ask) os → AllByRecursion (IsOpenOne new) os
  each [] all held within = tt
  each (o ∷ os) all held within = (one o all.0 held.0 within.0, each os all.1 held.1 within.1)

pub waiting_stays : WaitingStays
waiting_stays old new requests all held within = each old new requests all held within
