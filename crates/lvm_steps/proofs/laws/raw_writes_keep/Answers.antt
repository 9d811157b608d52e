use Rattle.lvm_steps.proofs.RequestsLemmas.Writing.{write_done_keeps, write_lost_keeps, write_dark_keeps, write_stuck_keeps}
use Rattle.lvm_steps.proofs.laws.raw_writes_keep.Goals as goal

pub returns : goal.returns
returns c = record { done = write_done_keeps; lost = write_lost_keeps; dark = write_dark_keeps; stuck = write_stuck_keeps }
