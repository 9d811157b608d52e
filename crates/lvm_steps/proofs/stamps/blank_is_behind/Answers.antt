use Rattle.lvm_steps.proofs.LawsLemmas.Records.{blank_is_before, blank_is_behind, all_is_behind_end}
use Rattle.lvm_steps.proofs.stamps.blank_is_behind.Goals as goal

pub returns : goal.returns
returns c = record { stamps = blank_is_before; moments = blank_is_behind; end = all_is_behind_end }
