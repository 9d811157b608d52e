use Rattle.lvm_num.proofs.RecordLemmas.Newest.{is_one, is_last}
use Rattle.lvm_record_laws.proofs.laws.newest.Goals as goal

pub returns : goal.returns
returns g c = record { one = is_one _; last = is_last _ }
