use Rattle.lvm_even.proofs.CommandsLemmas.{behind_stays}
use Rattle.lvm_even.proofs.MarkingLemmas.{none_is_left_behind}
use Rattle.lvm_even.proofs.laws.behind_stays.Goals as goal

pub returns : goal.returns
returns c = record { fewer = behind_stays; wanted = none_is_left_behind }
