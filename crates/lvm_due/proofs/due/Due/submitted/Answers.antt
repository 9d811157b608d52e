use Rattle.std.proofs.Common.{arith}
use Rattle.lvm_session.specs.Fields.{core_of}
use Rattle.lvm_due.proofs.DueLemmas.Table.{begun_due}
use Rattle.lvm_due.proofs.due.Due.submitted.Goals as goal

pub returns : goal.returns
returns c old client ask bytes told begins due =
    begun_due old (core_of c.args.session.now) client ask bytes told begins _ c.args.self.now c.add.new.self (omega (arith, c.len.ensures, c.requires.some)) c.add.ensures due
