use Rattle.lvm_sched.proofs.ReadsLemmas.Copies.{lowest_of}
use Rattle.lvm_sched.proofs.reads.lowest.Goals as goal

pub returns : goal.returns
returns c = rw (c.copied.ensures, c.first.ensures.value) (lowest_of c.args.usable.now c.requires)
