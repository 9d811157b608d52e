use Rattle.lvm_commit.proofs.LawsOfDataLemmas.Data.{free_data_keeps}
use Rattle.lvm_commit.proofs.LawsOfDataLemmas.Still.{free_data_goes_on, data_keeps_committed, still_holds_committed, transfer_holds_committed}
use Rattle.lvm_commit.proofs.laws.data_keeps_committed.Goals as goal

pub returns : goal.returns
returns c = record { keeps = free_data_keeps; moments = free_data_goes_on; shows = data_keeps_committed; left = still_holds_committed; transfer = transfer_holds_committed }
