use Rattle.lvm_session.specs.Fields.{core_of}
use Rattle.lvm_moves.proofs.ChoosingLemmas.{place_there}
use Rattle.lvm_moves.proofs.aiming.aim_destination.Goals as goal

pub destination_target-requires-clause-there : goal.destination_target-requires-clause-there
destination_target-requires-clause-there g c = place_there (g.S.Shelf.device c.args.shelf.now) (core_of c.args.session.now) c.requires.may c.args.ask.now c.in-Some.pp c.in-Some.ensures
