use Rattle.lvm_workers.specs.Crews.{seats}
use Rattle.lvm_workers.proofs.BringingLemmas.{back_whole}
use Rattle.lvm_workers.proofs.bring.run_crew.Goals as goal

pub returns-else-brings-clause-err : goal.returns-else-brings-clause-err
returns-else-brings-clause-err g c =
    back_whole c.args.turn.now.table (seats c.args.brings c.args.crew.now.threads) c.args.pass c.workers.result c.requires.at.0 c.requires.at.1 c.requires.holds c.workers.ensures.err
