use Rattle.lvm_session.specs.Fields.{core_of}
use Rattle.lvm_calls.proofs.CallsLemmas.{taken}
use Rattle.lvm_calls.proofs.submit.submit_request.Goals as goal

pub begin-requires-clause-going : goal.begin-requires-clause-going
begin-requires-clause-going c = c.requires.awake.going (taken (core_of c.args.session.now) c.args.ask c.requires.awake c.in-None.ensures).on

pub begin-requires-clause-place : goal.begin-requires-clause-place
begin-requires-clause-place c = (taken (core_of c.args.session.now) c.args.ask c.requires.awake c.in-None.ensures).place

pub begin-requires-clause-history : goal.begin-requires-clause-history
begin-requires-clause-history c = (taken (core_of c.args.session.now) c.args.ask c.requires.awake c.in-None.ensures).history
