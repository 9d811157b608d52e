use Rattle.std.proofs.lemmas.Bool.{eqb-true}
use Rattle.lvm_session_turn.proofs.EndedLemmas.{has_it}
use Rattle.lvm_session_turn.proofs.data.stands_at.Goals as goal

pub returns-then-place-requests : goal.returns-then-place-requests
returns-then-place-requests c is = has_it c.args.requests.now c.args.place c.args.id _ c.if-place-requests.true (eqb-true _ c.args.id is)
