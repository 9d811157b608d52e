use Rattle.std.proofs.Common.{List, subst}
use Rattle.lvm_session.specs.declared.open.Open.{Open}
use Rattle.lvm_session_turn.specs.Ended.{HasId}
use Rattle.lvm_session_turn.proofs.data.place_of.Goals as goal

pub returns-in-Some : goal.returns-in-Some
returns-in-Some c = subst (λ (os : List Open). HasId os c.in-Some.place c.args.id) c.deref.ensures.value c.in-Some.ensures
