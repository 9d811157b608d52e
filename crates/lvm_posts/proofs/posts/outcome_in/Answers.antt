use Rattle.lvm_posts.proofs.PostsLemmas.{told_here, told_later}
use Rattle.lvm_posts.proofs.posts.outcome_in.Goals as goal

pub returns-in-Some : goal.returns-in-Some
returns-in-Some c = told_here c.args.history.now.facts c.loop-k.k c.args.id c.entry.result c.loop-k.invariant c.entry.ensures c.in-Some.how c.in-Some.ensures

pub loop-k-preserved : goal.loop-k-preserved
loop-k-preserved c = told_later c.args.history.now.facts c.loop-k.k c.args.id c.entry.result c.loop-k.invariant c.entry.ensures c.in-None.ensures
