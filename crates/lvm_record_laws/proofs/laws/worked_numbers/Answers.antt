use Rattle.std.proofs.Common.{refl}
use Rattle.lvm_num.specs.Votes.{votes_by}
use Rattle.lvm_record_laws.proofs.laws.worked_numbers.Goals as goal

pub returns : goal.returns
unfolding votes_by
returns c = record { partitions = refl; most_partitions = refl; no_partition = refl; sector = refl; one = refl; two = refl; two_even = refl; three = refl }
