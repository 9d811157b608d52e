use Rattle.lvm_session.specs.Fields.{core_of}
use Rattle.lvm_core.proofs.StepsLemmas.Ends.{well_with, badly_with}
use Rattle.lvm_core.proofs.commit.go_on_with.Goals as goal

pub returns-in-Ok-clause-ends : goal.returns-in-Ok-clause-ends
returns-in-Ok-clause-ends c = well_with c.args.next (core_of c.args.session.now) (core_of c.go_on.new.session) c.args.settled c.in-Ok.ensures.ends

pub returns-in-Err-clause-ends : goal.returns-in-Err-clause-ends
returns-in-Err-clause-ends c = badly_with c.args.next (core_of c.args.session.now) (core_of c.go_on.new.session) c.in-Err.fault c.args.settled c.in-Err.ensures.ends
