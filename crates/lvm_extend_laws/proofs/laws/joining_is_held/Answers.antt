use Rattle.lvm_extend_laws.proofs.WritingLemmas.{joining_is_held}
use Rattle.lvm_extend_laws.proofs.laws.joining_is_held.Goals as goal

pub returns : goal.returns
returns c = joining_is_held
