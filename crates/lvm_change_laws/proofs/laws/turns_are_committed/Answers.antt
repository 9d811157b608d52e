use Rattle.lvm_change_laws.proofs.CommittedLemmas.{committed_is_read, committed_serves, turn_is_committed}
use Rattle.lvm_change_laws.proofs.laws.turns_are_committed.Goals as goal

pub returns : goal.returns
returns c = record { read = committed_is_read; serves = committed_serves; committed = turn_is_committed }
