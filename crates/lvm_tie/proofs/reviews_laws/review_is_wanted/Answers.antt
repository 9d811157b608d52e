use Rattle.lvm_tie.proofs.WantedLemmas.Reviewing.{review_is_wanted as its}
use Rattle.lvm_tie.proofs.reviews_laws.review_is_wanted.Goals as goal

pub returns : goal.returns
returns c = its
