use Rattle.lvm_num.proofs.VotesLemmas.{read_meets_write, read_meets_read, write_meets_write, read_is_write}
use Rattle.lvm_record_laws.proofs.laws.quorums_meet.Goals as goal

pub returns : goal.returns
returns c = record { read_meets_write = read_meets_write; read_meets_read = read_meets_read; write_meets_write = write_meets_write; read_is_write = read_is_write }
