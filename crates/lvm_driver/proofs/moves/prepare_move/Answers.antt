use Rattle.lvm_session.specs.Fields.{core_of}
use Rattle.lvm_driver.proofs.MovesLemmas.{may_stand}
use Rattle.lvm_driver.proofs.moves.prepare_move.Goals as goal

pub prepared-requires-clause-valid : goal.prepared-requires-clause-valid
prepared-requires-clause-valid c = c.requires.awake.fitting.valid

pub prepared-requires-clause-may : goal.prepared-requires-clause-may
prepared-requires-clause-may c = may_stand (core_of c.args.session.now) c.args.lv c.args.lp c.args.number c.args.to c.requires.awake c.requires.apart c.in-None.ensures
