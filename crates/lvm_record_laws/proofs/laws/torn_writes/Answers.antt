use Rattle.lvm_num.proofs.TornLemmas.Torn.{torn_is, whole_is_read}
use Rattle.lvm_record_laws.proofs.laws.torn_writes.Goals as goal

pub returns : goal.returns
returns c = record { torn = torn_is; whole = whole_is_read }
