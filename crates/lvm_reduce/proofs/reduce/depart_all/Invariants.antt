use Rattle.std.proofs.Common.{length}
use Rattle.lvm_session.specs.State.{state_of}
use Rattle.lvm_reduce.specs.Departures.{disks_of}
use Rattle.lvm_reduce.proofs.AllLemmas.{IsOnItsWay}
use Rattle.lvm_reduce.proofs.reduce.depart_all.Given as goal

abbrev pub invariant-loop-rest : goal.invariant-loop-rest
invariant-loop-rest g l = IsOnItsWay (disks_of l.fn.departures.items) l.fn.patience.left l.patience.left (state_of g.S.Shelf.device l.fn.driver) (state_of g.S.Shelf.device l.driver) l.rest.items

abbrev pub decreases-loop-rest : goal.decreases-loop-rest
decreases-loop-rest g l = length l.rest.items
