use Rattle.lvm_sched.proofs.ReadsLemmas.Copies.{next_around}
use Rattle.lvm_sched.proofs.reads.next_around.Goals as goal

pub returns : goal.returns
returns c = rw (c.or.ensures, c.first_after.ensures) (next_around c.args.usable.now c.args.last c.lowest.result c.requires c.lowest.ensures)
