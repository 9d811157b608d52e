use Rattle.std.proofs.Common.{sym, subst}
use Rattle.lvm_session.specs.State.{Core, state}
use Rattle.lvm_core.specs.Sound.{IsSoundAtRest}
use Rattle.lvm_core.proofs.SoundLemmas.Beginning.{sound_first}
use Rattle.lvm_core.proofs.driver.CommandDriver.start.Goals as goal

pub invariant_of-result : goal.invariant_of-result
invariant_of-result g c = (
  c.into_session-session.ensures.rooms,
  subst (λ (core : Core). IsSoundAtRest (state (g.S.Shelf.device c.args.shelf) core)) (sym c.into_session-session.ensures.core)
      (sound_first (g.S.Shelf.device c.args.shelf) c.args.parts c.args.history c.args.stamp c.args.homes c.into_session-session.result.origin.faults c.into_session-session.ensures.reserved c.requires.landed c.requires.ready c.requires.placed),
)
