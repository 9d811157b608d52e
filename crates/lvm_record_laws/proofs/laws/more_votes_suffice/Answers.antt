use Rattle.lvm_num.proofs.VotesLemmas.{more_have_more, more_is_enough}
use Rattle.lvm_record_laws.proofs.laws.more_votes_suffice.Goals as goal

pub returns : goal.returns
returns c = record { have = more_have_more; enough = more_is_enough }
