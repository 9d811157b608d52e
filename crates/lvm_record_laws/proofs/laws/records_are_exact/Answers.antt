use Rattle.lvm_num.proofs.RecordLemmas.Records.{held_is_read, read_is_held}
use Rattle.lvm_record_laws.proofs.laws.records_are_exact.Goals as goal

pub returns : goal.returns
returns c = record { read = held_is_read; held = read_is_held }
