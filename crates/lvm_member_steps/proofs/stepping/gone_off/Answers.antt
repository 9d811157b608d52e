use Rattle.std.proofs.Common.{sym, subst}
use Rattle.lvm_session.specs.declared.open.Power.TheVariants as power
use Rattle.lvm_session.specs.Fields.{core_of}
use Rattle.lvm_session.specs.State.{Core, state}
use Rattle.lvm_core.specs.Sound.{IsSoundAtRest}
use Rattle.lvm_member_steps.proofs.OffLemmas.{off_sound}
use Rattle.lvm_member_steps.proofs.stepping.gone_off.Goals as goal

pub from_parts-requires-clause-sound : goal.from_parts-requires-clause-sound
from_parts-requires-clause-sound g c =
    let its = c.into_parts-shelf in
    subst (λ (s : g.row.S.Denot). IsSoundAtRest (state (g.S.Shelf.device s) (record (core_of its.result.1) { power = power.Off }))) (sym its.ensures.shelf)
    (subst (λ (k : Core). IsSoundAtRest (state (g.S.Shelf.device c.args.driver.0) (record k { power = power.Off }))) (sym its.ensures.core)
    (off_sound (state (g.S.Shelf.device c.args.driver.0) c.args.driver.1) c.requires.settled its.ensures.sound))
