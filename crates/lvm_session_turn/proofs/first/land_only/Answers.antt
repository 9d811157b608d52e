use Rattle.lvm_session.specs.Fields.{core_of}
use Rattle.lvm_session_turn.proofs.TakingLemmas.{lands_none, lands_only}
use Rattle.lvm_session_turn.proofs.first.land_only.Goals as goal

pub returns-then-land_first-clause-makes : goal.returns-then-land_first-clause-makes
returns-then-land_first-clause-makes c = λ device. lands_only (core_of c.args.session.now) (core_of c.land_first.new.session) device c.requires.lost (c.if-land_first.ensures.gives device)

pub returns-else-land_first-clause-makes : goal.returns-else-land_first-clause-makes
returns-else-land_first-clause-makes c = λ device. lands_none (core_of c.args.session.now) (core_of c.land_first.new.session) device c.requires.lost (c.if-land_first.ensures.gives device)
