-- A settled session that is sound with requests rests, and what its history tells of has landed.
use Rattle.std.proofs.Common.{◌≡◌, List, [], ap, ◌∙◌}
use Rattle.lvm_session.specs.State.{State}
use Rattle.lvm_session.specs.Sound.{IsGoing, IsSound, waits}
use Rattle.lvm_session.specs.declared.open.Open.{Open}
use Rattle.lvm_handover.specs.passed.Core.{IsSettled, HaveAllLanded}
use Rattle.lvm_commit.specs.Settling.{NoneIsLeft}
use Rattle.lvm_handover.proofs.SoundLemmas.{rest_is_still}
use Rattle.lvm_handover.proofs.NoneLeftLemmas.{none_left}
use Rattle.lvm_handover.proofs.ServingLemmas.Serving.{nobody_flies, none_flying}
use Rattle.lvm_tie.specs.Begins.{IsCoreAtRest}

module _ (s : State) (sound : IsSound s) (settled : IsSettled s.core) where
  going : IsGoing s.core
  going = (sound.on settled.power).going

  pub rests : IsCoreAtRest s.core
  rests = record {
    requests = settled.quiet.requests;
    copy = settled.quiet.copy;
    flying = none_flying s.core going.owned (nobody_flies s.core settled.quiet.requests settled.quiet.copy (λ disk. (going.status.idle settled.quiet.status disk).1) settled.quiet.notes);
    in_flight = settled.quiet.status;
    committed = settled.committed;
    notes = settled.quiet.notes;
  }

  -- nothing is out
  pub still : s.device.flights ≡ []
  still = rest_is_still s sound settled.power rests.flying

  pub landed : HaveAllLanded s.core.history.facts
  landed id = sound.told.each id ∙ ap (λ (os : List Open). waits os id) settled.quiet.requests

  -- no copy is left behind
  pub left : NoneIsLeft s.core.descriptor s.core.status
  left = none_left s.core sound.fitting.valid sound.fitting.group settled.committed going.behind
