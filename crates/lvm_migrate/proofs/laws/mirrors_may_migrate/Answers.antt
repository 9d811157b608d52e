use Rattle.lvm_migrate.proofs.WorkedLemmas.{mirrors_may_migrate}
use Rattle.lvm_migrate.proofs.laws.mirrors_may_migrate.Goals as goal

pub returns : goal.returns
returns c = mirrors_may_migrate
