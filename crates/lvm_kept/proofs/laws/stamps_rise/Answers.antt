use Rattle.lvm_kept.proofs.TornLemmas.Records.{earlier_stays}
use Rattle.lvm_kept.proofs.TornLemmas.Standing.{zeros_before}
use Rattle.lvm_kept.proofs.laws.stamps_rise.Goals as goal

pub returns : goal.returns
returns c = record { earlier = earlier_stays; zeros = zeros_before }
