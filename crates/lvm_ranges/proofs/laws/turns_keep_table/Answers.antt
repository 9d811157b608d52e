use Rattle.lvm_ranges.proofs.KeepingLemmas.Tables.{turn_table}
use Rattle.lvm_ranges.proofs.laws.turns_keep_table.Goals as goal

pub returns : goal.returns
returns c = turn_table
