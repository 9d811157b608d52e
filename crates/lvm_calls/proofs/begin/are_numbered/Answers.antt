use Rattle.lvm_calls.proofs.LogLemmas.{below_next}
use Rattle.lvm_calls.proofs.begin.are_numbered.Goals as goal

pub returns-clause-below : goal.returns-clause-below
returns-clause-below c = below_next c.args.session.now.history c.args.session.now.requests.items c.requires.told.ordered c.requires.told.requests
