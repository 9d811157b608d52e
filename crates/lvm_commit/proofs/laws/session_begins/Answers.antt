use Rattle.lvm_commit.proofs.LawsLemmas.Found.{shown_is_only}
use Rattle.lvm_commit.proofs.laws.session_begins.Goals as goal

pub returns : goal.returns
returns c = shown_is_only
