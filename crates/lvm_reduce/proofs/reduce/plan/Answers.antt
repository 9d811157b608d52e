use Rattle.std.proofs.Common.{IfOk, subst}
use Rattle.lvm_session.specs.State.{Core}
use Rattle.lvm_reduce.specs.Departures.{AreDepartures}
use Rattle.lvm_reduce.proofs.reduce.plan.Goals as goal

pub returns-clause-planned : goal.returns-clause-planned
returns-clause-planned g c = subst (λ (k : Core). IfOk c.departures-planned.result (λ ps. AreDepartures k.origin.table k.descriptor ps.items)) c.into_parts-shelf.ensures.core c.departures-planned.ensures.planned
