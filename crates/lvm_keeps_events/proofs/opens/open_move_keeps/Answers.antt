use Rattle.lvm_keeps_events.proofs.OpeningLemmas.Moving.{open_move_keeps}
use Rattle.lvm_keeps_events.proofs.opens.open_move_keeps.Goals as goal

pub returns : goal.returns
returns c = open_move_keeps
