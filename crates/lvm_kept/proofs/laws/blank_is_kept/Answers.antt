use Rattle.lvm_kept.proofs.ChangesLemmas.Blank.{blank_is_kept}
use Rattle.lvm_kept.proofs.laws.blank_is_kept.Goals as goal

pub returns : goal.returns
returns c = blank_is_kept
