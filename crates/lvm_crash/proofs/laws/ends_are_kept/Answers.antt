use Rattle.lvm_crash.proofs.LawsLemmas.Ends.{cut_kept, off_kept}
use Rattle.lvm_crash.proofs.laws.ends_are_kept.Goals as goal

pub returns : goal.returns
returns c = record { cut = cut_kept; off = off_kept }
