use Rattle.lvm_volume_plan.specs.passed.Core.{state_of}
use Rattle.lvm_volumes.proofs.StagesLemmas.Zeros.{IsZeroing}
use Rattle.lvm_volumes.proofs.volumes.zero_all.Given as goal

abbrev pub invariant-loop-pp : goal.invariant-loop-pp
invariant-loop-pp g l = IsZeroing l.map l.initial.patience.left l.pp-index l.patience.left (state_of g.S.Shelf.device l.initial.driver) (state_of g.S.Shelf.device l.driver)
