use Rattle.lvm_range_lines.proofs.CausesLemmas.{posts_have_causes}
use Rattle.lvm_range_lines.proofs.laws.posts_have_causes.Goals as goal

pub returns : goal.returns
returns c = posts_have_causes
