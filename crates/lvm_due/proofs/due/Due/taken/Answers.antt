use Rattle.std.proofs.Common.{refl, arith}
use Rattle.lvm_session.specs.Fields.{core_of}
use Rattle.lvm_due.proofs.DueLemmas.Table.{left_due}
use Rattle.lvm_due.proofs.due.Due.taken.Goals as goal

pub returns : goal.returns
returns c old place id o there landed leaves due =
    left_due old (core_of c.args.session.now) place id o there landed leaves c.len-len.result c.args.self.now _ (omega (arith, c.len-len.ensures)) c.leave.ensures c.leave-2.ensures c.leave-3.ensures c.leave-4.ensures c.leave-5.ensures refl due
