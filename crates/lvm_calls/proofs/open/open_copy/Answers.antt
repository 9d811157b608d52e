use Rattle.lvm_session.specs.Fields.{core_of}
use Rattle.lvm_calls.proofs.OpeningLemmas.{taken}
use Rattle.lvm_calls.proofs.open.open_copy.Goals as goal

pub bring_up-requires-clause-going : goal.bring_up-requires-clause-going
bring_up-requires-clause-going g c = c.requires.going (taken (core_of c.args.session.now) c.args.lv c.args.lp c.args.number c.requires c.in-None.ensures).on

pub bring_up-requires-clause-none : goal.bring_up-requires-clause-none
bring_up-requires-clause-none g c = (taken (core_of c.args.session.now) c.args.lv c.args.lp c.args.number c.requires c.in-None.ensures).none

pub bring_up-requires-clause-its : goal.bring_up-requires-clause-its
bring_up-requires-clause-its g c = (taken (core_of c.args.session.now) c.args.lv c.args.lp c.args.number c.requires c.in-None.ensures).its
