use Rattle.std.proofs.Common.{◌≡◌, ◌+◌, arith}
use Rattle.lvm_posts.proofs.PostsLemmas.{no_outcome}
use Rattle.lvm_posts.proofs.posts.piece_fault.Goals as goal

pub returns-in-None : goal.returns-in-None
returns-in-None c =
    let same : c.args.asked.now.first + c.from.result ≡ c.args.asked.now.first + c.args.piece = omega arith in
    no_outcome c.args.history.now.facts (c.args.asked.now.first + c.from.result) c.args.asked.now.first c.args.piece same c.requires.answered c.in-None.ensures
