use Rattle.lvm_posts.proofs.PostsLemmas.{over_answered}
use Rattle.lvm_posts.proofs.laws.over_sessions_have_answered.Goals as goal

pub returns : goal.returns
returns c = over_answered
