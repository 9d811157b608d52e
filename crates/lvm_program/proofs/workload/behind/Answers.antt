use Rattle.lvm_session.specs.State.{state_of}
use Rattle.lvm_top.proofs.passed.Tie.{runs_none}
use Rattle.lvm_program.proofs.workload.behind.Goals as goal

pub returns-then-unheard-clause-runs : goal.returns-then-unheard-clause-runs
returns-then-unheard-clause-runs g c = runs_none (state_of g.S.Shelf.device c.args.driver.now)
