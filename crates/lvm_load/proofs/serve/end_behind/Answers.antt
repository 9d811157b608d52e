use Rattle.lvm_session.specs.State.{state_of}
use Rattle.lvm_load.proofs.LendingLemmas.Keeping.{keeps_none}
use Rattle.lvm_load.proofs.serve.end_behind.Goals as goal

pub returns-else-sync-clause-keeps : goal.returns-else-sync-clause-keeps
returns-else-sync-clause-keeps g c = keeps_none c.args.sync (state_of g.S.Shelf.device c.args.driver.now)
