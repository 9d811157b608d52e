use Rattle.std.proofs.Common.{ap, ◌∙◌, arith}
use Rattle.lvm_num.specs.Disks.{has}
use Rattle.lvm_num.proofs.DisksLemmas.{shift-has, has-below}
use Rattle.lvm_num.proofs.disks.DiskSet.has.Goals as goal

pub returns-clause-member : goal.returns-clause-member
returns-clause-member c = shift-has c.self.inside.0 c.args.disk ∙ ap (λ set. has set c.args.disk) c.self.view_is

pub returns-clause-disks : goal.returns-clause-disks
returns-clause-disks c = λ other. has-below c.args.self.now other (omega (arith, c.self.view_is, c.self.invariant))
