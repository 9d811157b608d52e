use Rattle.lvm_session.proofs.HandsLemmas.{IsGiving}
use Rattle.lvm_session.proofs.landings.end_all.Given as goal

abbrev pub invariant-loop-open : goal.invariant-loop-open
invariant-loop-open l = IsGiving l.how l.initial.pool l.initial.requests l.open-index l.pool l.requests
