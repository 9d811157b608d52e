use Rattle.lvm_invariant.proofs.CauseLawsLemmas.WholeCauses.{each_moment_caused, first_is_unasked}
use Rattle.lvm_invariant.proofs.causes.each_moment_is_caused.Goals as goal

pub returns : goal.returns
returns c = record { moments = each_moment_caused; first = first_is_unasked }
