use Rattle.lvm_session.specs.Turns.{WasOn}
use Rattle.lvm_session_turn.proofs.turns.turn.Goals as goal

pub returns-in-On-clause-makes : goal.returns-in-On-clause-makes
returns-in-On-clause-makes g c = WasOn c.in-On.is c.turn_on.ensures.makes
