use Rattle.lvm_tie.proofs.StampsLemmas.{arrange_leaves_before, turn_leaves_before}
use Rattle.lvm_tie.proofs.stamps_laws.crashes_leave_before.Goals as goal

pub returns : goal.returns
returns c = record { turn = turn_leaves_before; arrange = arrange_leaves_before }
