use Rattle.lvm_member_laws.proofs.ReducingLemmas.Finding.{reduce_finds}
use Rattle.lvm_member_laws.proofs.reduce_laws.reduce_finds.Goals as goal

pub returns : goal.returns
returns c = reduce_finds
