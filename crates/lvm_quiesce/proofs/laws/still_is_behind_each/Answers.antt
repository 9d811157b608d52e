use Rattle.lvm_quiesce.proofs.LawsLemmas.Behind.{still_is_behind_each, each_is_behind, later_is_behind_each, still_is_ahead_each, quiet_is_ahead}
use Rattle.lvm_quiesce.proofs.laws.still_is_behind_each.Goals as goal

pub returns : goal.returns
returns c = record { still = still_is_behind_each; each = each_is_behind; later = later_is_behind_each; ahead = still_is_ahead_each; quiet = quiet_is_ahead }
