use Rattle.lvm_write.proofs.ShownLemmas.Following.{ranges_are_of_records, stamps_are_of_beginning}
use Rattle.lvm_write.proofs.begin_laws.writes_are_of_records.Goals as goal

pub returns : goal.returns
returns c = record { ranges = ranges_are_of_records; stamps = stamps_are_of_beginning }
