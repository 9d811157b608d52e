use Rattle.std.proofs.Common.{subst}
use Rattle.lvm_session.specs.declared.flown.Owner.TheVariants as owner
use Rattle.lvm_session.specs.Fields.{core_of}
use Rattle.lvm_session_turn.proofs.Ended.{was_out}
use Rattle.lvm_session_turn.specs.Carried.{IsCarrying}
use Rattle.lvm_session_turn.proofs.EndsLemmas.{learns_late}
use Rattle.lvm_session_turn.proofs.copy_learn.end_step.Goals as goal

pub carried-requires : goal.carried-requires
carried-requires c = was_out (core_of c.args.session.now) c.args.at owner.Copy c.args.buf.number c.requires

pub returns-in-Nothing-clause-learns : goal.returns-in-Nothing-clause-learns
returns-in-Nothing-clause-learns c =
    let core = core_of c.args.session.now in
    let it = subst (IsCarrying core) c.in-Nothing.is c.carried.ensures in
    learns_late core (core_of c.quit.new.session) c.args.at c.args.ok it.copy c.args.buf it.is_open it.its (c.quit.ensures.core it.copy it.is_open)

pub end_read-requires-clause-reads : goal.end_read-requires-clause-reads
end_read-requires-clause-reads c = subst (IsCarrying (core_of c.args.session.now)) c.in-Read.is c.carried.ensures

pub end_write-requires-clause-writes : goal.end_write-requires-clause-writes
end_write-requires-clause-writes c = subst (IsCarrying (core_of c.args.session.now)) c.in-Write.is c.carried.ensures
