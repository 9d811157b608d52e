use Rattle.lvm_due.proofs.DifferingLemmas.{differ_is}
use Rattle.lvm_due.proofs.status.differs.Goals as goal

pub returns : goal.returns
returns c = differ_is c.args.session.now.updater.wanted c.args.session.now.updater.committed c.differs.result c.differs.ensures
