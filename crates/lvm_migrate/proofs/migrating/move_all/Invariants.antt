use Rattle.lvm_session.specs.State.{state_of}
use Rattle.lvm_migrate.proofs.MigratingLemmas.{MovedSoFar}
use Rattle.lvm_migrate.proofs.migrating.move_all.Given as goal

abbrev pub invariant-loop-one : goal.invariant-loop-one
invariant-loop-one g l = MovedSoFar (state_of g.S.Shelf.device l.initial.driver) (state_of g.S.Shelf.device l.driver) l.initial.patience.left l.patience.left l.moves l.one-index
