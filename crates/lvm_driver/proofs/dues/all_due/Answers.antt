use Rattle.std.proofs.Common.{arith}
use Rattle.lvm_session.specs.Fields.{core_of}
use Rattle.lvm_driver.proofs.dues.all_due.Goals as goal

pub returns : goal.returns
returns c = let long = c.len.ensures in c.all.ensures (core_of c.args.session.now) (omega (arith, long))
