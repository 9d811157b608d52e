use Rattle.std.proofs.Common.{arith}
use Rattle.lvm_show.proofs.FirstFitLemmas.{free_is}
use Rattle.lvm_show.proofs.counts.free_on.Goals as goal

pub overflow_sub-result : goal.overflow_sub-result
overflow_sub-result c = omega (arith, free_is c.args.d.now c.requires.valid c.args.row.now c.requires.member)

pub returns-clause-free : goal.returns-clause-free
returns-clause-free c = omega (arith, free_is c.args.d.now c.requires.valid c.args.row.now c.requires.member)
