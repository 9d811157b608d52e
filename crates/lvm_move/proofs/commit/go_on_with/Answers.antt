use Rattle.lvm_session.specs.Fields.{core_of}
use Rattle.lvm_move.proofs.EndsLemmas.{badly_with, may_go_on, well_with}
use Rattle.lvm_move.proofs.commit.go_on_with.Goals as goal

pub put_in-requires : goal.put_in-requires
put_in-requires c = record { may = may_go_on c.args.next (core_of c.args.session.now) (core_of c.go_on.new.session) c.args.how c.in-Ok.ensures.ends c.requires.may }

pub returns-in-Ok-clause-ends : goal.returns-in-Ok-clause-ends
returns-in-Ok-clause-ends c = well_with c.args.next (core_of c.args.session.now) (core_of c.go_on.new.session) (core_of c.put_in.new.session) c.args.how c.in-Ok.ensures.ends c.put_in.ensures.goes

pub returns-in-Err-clause-ends : goal.returns-in-Err-clause-ends
returns-in-Err-clause-ends c = badly_with c.args.next (core_of c.args.session.now) (core_of c.go_on.new.session) c.in-Err.fault c.args.how c.in-Err.ensures.ends
