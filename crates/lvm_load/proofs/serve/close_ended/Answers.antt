use Rattle.std.proofs.Common.{◌∙◌, sym, refl}
use Rattle.lvm_session.specs.State.{state_of}
use Rattle.lvm_driver.proofs.passed.Going.{runs_none}
use Rattle.lvm_load.specs.Bringing.{StillRuns}
use Rattle.lvm_load.proofs.serve.close_ended.Goals as goal

pub returns-in-Running-clause-closes : goal.returns-in-Running-clause-closes
returns-in-Running-clause-closes g c = StillRuns c.in-Running.cursor (sym c.copy_state.ensures.is ∙ c.in-Running.is) refl

pub returns-in-Running-clause-runs : goal.returns-in-Running-clause-runs
returns-in-Running-clause-runs g c = runs_none (state_of g.S.Shelf.device c.args.driver.now)
